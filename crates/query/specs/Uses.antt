-- How the check of a query table counts uses: a byte for each entry, which tells none, once and more apart.
use Rattle.std.specs.Prelude.{ℕ, zero, suc, ◌<◌, ◌≡◌, Bool, cond, ◌&&◌, List, length, get_or, set, ltb, eqb}
use Rattle.model.specs.Checks.{uses}

-- a number of uses as it is kept: 0 none, 1 once, 2 more
unfoldable pub kept : ℕ → ℕ
kept zero = 0
kept (suc zero) = 1
kept (suc (suc u)) = 2

-- a kept count, with one use more
abbrev pub one_more : ℕ → ℕ
one_more k = cond (eqb k 0) 1 2

-- the counts, with one use more of entry i where it is used; entry 64 and later ones have no count
unfoldable pub with_use : List ℕ → Bool → ℕ → List ℕ
with_use counts used i = cond (used && ltb i 64) (set counts i (one_more (get_or counts i 0))) counts

-- the counts are the uses by the first e entries of q
pub record Counted (q : List ℕ) (e : ℕ) (counts : List ℕ) : Type 0 where
  pub size : length counts ≡ 64
  pub at : (i : ℕ) → i < 64 → get_or counts i 0 ≡ kept (uses q i e)
