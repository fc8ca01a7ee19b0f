-- What is written to a row. W is the relation that the table holds before.
use Rattle.std.specs.Prelude.{ℕ, Bool, ◌||◌, cond, ltb}

-- two rows joined
abbrev pub joined_rows : (ℕ → ℕ → Bool) → ℕ → ℕ → ℕ → Bool
joined_rows W a b k = W a k || W b k

-- y's link, or y where it has none
unfoldable pub lower : (ℕ → ℕ) → ℕ → ℕ
lower L y = cond (ltb (L y) y) (L y) y
