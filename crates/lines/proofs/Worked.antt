-- For the reader: a number is what its digits say, the lines of rows are those of each row in turn, and document 01's examples
-- of output are what they should be, by computation.
use Prim.Native.Nat.{ℕ, zero, suc, ◌+◌, ◌-◌, ◌*◌, ◌/◌, ◌%◌, ◌<◌}
use native.Mathlib.Nat.{not-suc-le-zero}
use native.Mathlib.Omega.{arith}
use mathlib.Core.Path.{◌≡◌, refl, ap}
use mathlib.Core.Logic.{inl, inr}
use mathlib.Core.List.{List, [], ◌∷◌, ◌++◌, map, append_assoc}
use lib.ListN.{length}
use lib.Seq.{take_at, drop_at}
use lib.Dec.{ltb}
use borrow.Author.Tests.{ltb-true, ltb-false}
use Rattle.model.specs.Answers.{Row}
use Rattle.model.specs.Pages.{flat}
use Rattle.model.proofs.Answers.{Wide}
use Rattle.model.proofs.Booleans.{Seen, yes!, no!, seen}
use Rattle.lines.specs.Lines.{digits, decimal, field, row_line, row_lines, end_line, refused_line}
use Rattle.lines.proofs.Decimal.{one_digit, last_digit}

-- the number that digits say, behind the number that digits before them said
pub value_on : ℕ → List ℕ → ℕ
value_on n [] = n
value_on n (d ∷ ds) = value_on (10 * n + (d - 48)) ds

value_last : (n : ℕ) (ds : List ℕ) (d : ℕ) → value_on n (ds ++ (d ∷ [])) ≡ 10 * value_on n ds + (d - 48)
unfolding value_on
value_last n [] d = refl
value_last n (e ∷ ds) d = value_last (10 * n + (e - 48)) ds d

value_below : (k n : ℕ) → n < k → value_on 0 (decimal n) ≡ n
unfolding value_on
value_below zero n h = absurd (not-suc-le-zero h)
value_below (suc k) n h = go (seen (ltb n 10)) (value_below k (n / 10))
  where
    go : Seen (ltb n 10) → (n / 10 < k → value_on 0 (decimal (n / 10)) ≡ n / 10) → value_on 0 (decimal n) ≡ n
    go (yes! e) ih = rw (one_digit n (ltb-true n 10 e)) (omega arith)
    go (no! e) ih =
        let t = ltb-false n 10 e in
        rw (last_digit n t, value_last 0 (decimal (n / 10)) (48 + n % 10), ih (omega arith)) (omega arith)

-- a number is what its decimal digits say
pub decimal_value : (n : ℕ) → value_on 0 (decimal n) ≡ n
decimal_value n = value_below (suc n) n (omega arith)

-- the lines of the rows at the front of a buffer are the lines of each row in turn
pub lines_of_rows : (k : ℕ) (rs : List Row) (rest : List ℕ) → Wide k rs → row_lines k (length rs) (flat rs ++ rest) ≡ flat (map row_line rs)
unfolding row_lines
lines_of_rows k [] rest e = refl
lines_of_rows k (r ∷ rs) rest e =
    rw (append_assoc r (flat rs) rest, take_at r (flat rs ++ rest) k (e r (inl refl)), drop_at r (flat rs ++ rest) k (e r (inl refl)))
    (ap (λ (l : List ℕ). row_line r ++ l) (lines_of_rows k rs rest (λ s i. e s (inr i))))

-- the lines of the teaching job
pub teaching_lines : row_lines 2 3 (1 ∷ 2 ∷ 1 ∷ 3 ∷ 4 ∷ 5 ∷ []) ++ end_line 3
    ≡ 49 ∷ 32 ∷ 50 ∷ 10 ∷ 49 ∷ 32 ∷ 51 ∷ 10 ∷ 52 ∷ 32 ∷ 53 ∷ 10 ∷ 101 ∷ 110 ∷ 100 ∷ 32 ∷ 51 ∷ 10 ∷ []
unfolding row_lines row_line field decimal digits end_line
teaching_lines = refl

-- the line of refusal 6 at place 1
pub refusal_line : refused_line 6 1 ≡ 114 ∷ 101 ∷ 102 ∷ 117 ∷ 115 ∷ 101 ∷ 100 ∷ 32 ∷ 54 ∷ 32 ∷ 49 ∷ 10 ∷ []
unfolding refused_line field decimal digits
refusal_line = refl
