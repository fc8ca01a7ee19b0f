-- How deep intersect, except, star and `same` nest in a query, as far as the choice between the two engines asks: not at all, once, or
-- more often. The engine over sets evaluates their operands up to n times.
use Rattle.std.specs.Prelude.{ℕ, ◌+◌, min, max, Bool, ◌||◌, cond, List, eqb}
use Rattle.model.specs.Encoding.{Term}
use Rattle.model.specs.QueryTable.{last_of}
use Rattle.aside.specs.Aside.{term_at}

-- how much an entry of a kind adds to the depth: an intersect, except or star one; `same`, which goes over all start nodes whatever it is
-- asked, two
abbrev pub weight : ℕ → ℕ
weight k = cond (eqb k 14) 2 (cond (eqb k 3 || (eqb k 4 || eqb k 13)) 1 0)

-- for a path or a node expression: 0, 1, or 2 for two and more
unfoldable pub depth_in : Term → ℕ
depth_in (Term.leaf k l g) = 0
depth_in (Term.unary k a) = min 2 (weight k + depth_in a)
depth_in (Term.binary k a b) = min 2 (weight k + max (depth_in a) (depth_in b))

-- for entry e of a query table
abbrev pub depth_at : List ℕ → ℕ → ℕ
depth_at q e = depth_in (term_at q e)

-- the entry is two deep or deeper
abbrev pub deep : List ℕ → ℕ → Bool
deep q e = eqb (depth_at q e) 2

-- the query is, by its last entry
abbrev pub nested : List ℕ → Bool
nested q = deep q (last_of q)
