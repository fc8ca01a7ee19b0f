-- How many entries a query has that is made, and the refusals that go by it.
use Rattle.std.specs.Prelude.{ℕ, ◌*◌, cond, List, [], ◌∷◌, ltb}
use Rattle.model.specs.Refusals.{Check, refuse}

-- a number of entries, where more than 64 are counted as 65
abbrev pub counted : ℕ → ℕ
counted n = cond (ltb 64 n) 65 n

-- 26: a query that is made has more than 64 entries; 20: the buffer has room for less than its table
abbrev pub size_checks : ℕ → ℕ → List Check
size_checks entries room = refuse 26 (ltb 64 entries) ∷ refuse 20 (ltb room (4 * entries)) ∷ []
