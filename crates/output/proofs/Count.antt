-- How many answers there can be.
use Rattle.std.proofs.Common.{◌≡◌, ℕ, zero, suc, ◌*◌, ◌≤◌, Bool, true, false, List, [], ◌∷◌, map, length, refl, ap, ◌∙◌, mul-le-mul_right, arith, length-append}
use Rattle.model.specs.Tree.{size_of}
use Rattle.model.specs.Answers.{Row, blocks, all_rows, cons_if, keep, satisfied, answers}

length_map : (a : ℕ) (rs : List Row) → length (map {B = Row} (λ r. a ∷ r) rs) ≡ length rs
length_map a [] = refl
length_map a (r ∷ rs) = ap suc (length_map a rs)

length_blocks : (m a : ℕ) (rs : List Row) → length (blocks m a rs) ≡ m * length rs
length_blocks zero a rs = omega arith
length_blocks (suc m) a rs =
    length-append (map (λ r. a ∷ r) rs) (blocks m (suc a) rs)
    ∙ omega (arith, length_map a rs, length_blocks m (suc a) rs)

one_more : (n k : ℕ) → n ≤ 256 → length (all_rows n (suc k)) ≤ 256 * length (all_rows n k)
one_more n k h = rw (length_blocks n 0 (all_rows n k)) (mul-le-mul_right (length (all_rows n k)) h)

all_few : (n k : ℕ) → n ≤ 256 → k ≤ 3 → length (all_rows n k) ≤ 16777216
all_few n zero h l = omega arith
all_few n (suc zero) h l = omega (arith, one_more n 0 h)
all_few n (suc (suc zero)) h l = omega (arith, one_more n 0 h, one_more n 1 h)
all_few n (suc (suc (suc zero))) h l = omega (arith, one_more n 0 h, one_more n 1 h, one_more n 2 h)
all_few n (suc (suc (suc (suc k)))) h l = absurd (let z : ⊥ = omega arith in z)

kept_few : (f : Row → Bool) (rs : List Row) → length (keep f rs) ≤ length rs
kept_few f [] = omega arith
kept_few f (r ∷ rs) = go (f r) (kept_few f rs)
  where
    go : (b : Bool) → length (keep f rs) ≤ length rs → length (cons_if b r (keep f rs)) ≤ length (r ∷ rs)
    go true h = omega (arith, h)
    go false h = omega (arith, h)

pub answers_few : (t q : List ℕ) (k : ℕ) → size_of t ≤ 256 → k ≤ 3 → length (answers t q k) ≤ 16777216
unfolding answers
answers_few t q k h l = omega (arith, kept_few (satisfied t q) (all_rows (size_of t) k), all_few (size_of t) k h l)
