-- How many answers there can be.
use Prim.Native.Nat.{ℕ, zero, suc, ◌+◌, ◌*◌, ◌≤◌}
use native.Mathlib.Nat.{zero-mul, suc-mul, mul-le-mul_right, mul-le-mul_left, le_trans}
use native.Mathlib.Omega.{arith}
use mathlib.Core.Path.{◌≡◌, refl, sym, ◌∙◌}
use mathlib.Core.Bool.{Bool, true, false}
use mathlib.Core.List.{List, [], ◌∷◌, ◌++◌, map}
use lib.ListN.{length}
use Rattle.model.specs.declared.Cursor.{Cursor}
use Rattle.model.specs.Tree.{size_of}
use Rattle.model.specs.Answers.{Row, less, blocks, all_rows, cons_if, keep, satisfied, answers}
use Rattle.model.specs.Pages.{row_of, has_begun, after}

cons_short : (b : Bool) (x : Row) (l : List Row) (m : ℕ) → length l ≤ m → length (cons_if b x l) ≤ suc m
cons_short true x l m h = omega arith
cons_short false x l m h = omega arith

keep_short : (f : Row → Bool) (xs : List Row) → length (keep f xs) ≤ length xs
keep_short f [] = omega arith
keep_short f (x ∷ xs) = cons_short (f x) x (keep f xs) (length xs) (keep_short f xs)

block_length : (a : ℕ) (xs ys : List Row) → length (map (λ r. a ∷ r) xs ++ ys) ≡ length xs + length ys
block_length a [] ys = omega arith
block_length a (x ∷ xs) ys = let h : length (map (λ r. a ∷ r) xs ++ ys) ≡ length xs + length ys = block_length a xs ys in omega arith

blocks_length : (m a : ℕ) (rs : List Row) → length (blocks m a rs) ≡ m * length rs
blocks_length zero a rs = sym (zero-mul (length rs))
blocks_length (suc m) a rs = block_length a rs (blocks m (suc a) rs) ∙ rw (blocks_length m (suc a) rs, suc-mul m (length rs)) (omega arith)

-- there are at most 256 × 256 × 256 rows
rows_more : (n k m : ℕ) → n ≤ 256 → length (all_rows n k) ≤ m → length (all_rows n (suc k)) ≤ 256 * m
rows_more n k m l h = rw (blocks_length n 0 (all_rows n k)) (le_trans (mul-le-mul_right (length (all_rows n k)) l) (mul-le-mul_left 256 h))

rows_few : (n k : ℕ) → n ≤ 256 → k ≤ 3 → length (all_rows n k) ≤ 16777216
rows_few n zero l h = omega arith
rows_few n (suc zero) l h = omega (arith, rows_more n 0 1 l (omega arith))
rows_few n (suc (suc zero)) l h = omega (arith, rows_more n 1 256 l (rows_more n 0 1 l (omega arith)))
rows_few n (suc (suc (suc zero))) l h = rows_more n 2 65536 l (rows_more n 1 256 l (rows_more n 0 1 l (omega arith)))
rows_few n (suc (suc (suc (suc k)))) l h = absurd (omega arith)

-- those after a cursor are no more than those
pub answers_few : (t q : List ℕ) (k : ℕ) (c : Cursor) → size_of t ≤ 256 → k ≤ 3 → length (after k (answers t q k) c) ≤ 16777216
unfolding answers
answers_few t q k c l h = omega (arith, all (has_begun c) refl, keep_short (satisfied t q) (all_rows (size_of t) k), rows_few (size_of t) k l h)
  where
    all : (b : Bool) → has_begun c ≡ b → length (after k (answers t q k) c) ≤ length (answers t q k)
    all true e = rw e (keep_short (less (row_of k c)) (answers t q k))
    all false e = rw e (omega arith)
