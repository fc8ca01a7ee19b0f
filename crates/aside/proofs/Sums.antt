-- Sums over the numbers below one.
use Prim.Native.Nat.{ℕ, zero, suc, ◌+◌, ◌*◌, ◌<◌}
use native.Mathlib.Nat.{not-suc-le-zero}
use native.Mathlib.Omega.{arith}
use mathlib.Core.Path.{◌≡◌, refl, ap, ◌∙◌}
use mathlib.Core.Bool.{Bool, true, false, ◌&&◌}
use lib.Dec.{eqb}
use borrow.Author.Tests.{eq-eqb, ne_eqb}
use Rattle.model.specs.Sets.{bit}

-- f 0 + f 1 + .. + f (n - 1)
unfoldable pub sum : (ℕ → ℕ) → ℕ → ℕ
sum f zero = 0
sum f (suc n) = sum f n + f n

-- s, each as often as u says
abbrev pub times : (ℕ → ℕ) → (ℕ → ℕ) → ℕ → ℕ
times u s j = u j * s j

module _ (s : ℕ → ℕ) where
  pub sum_never : (u : ℕ → ℕ) (n : ℕ) → ((j : ℕ) → j < n → u j ≡ 0) → sum (times u s) n ≡ 0
  unfolding sum
  sum_never u zero h = refl
  sum_never u (suc n) h = rw (sum_never u n (λ j l. h j (omega arith)), h n (omega arith)) (omega arith)

  pub sum_once : (u : ℕ → ℕ) (n : ℕ) → ((j : ℕ) → j < n → u j ≡ 1) → sum (times u s) n ≡ sum s n
  unfolding sum
  sum_once u zero h = refl
  sum_once u (suc n) h = rw (sum_once u n (λ j l. h j (omega arith)), h n (omega arith)) (omega arith)

  pub sum_more : (u v : ℕ → ℕ) (n : ℕ) → sum (times (λ j. u j + v j) s) n ≡ sum (times u s) n + sum (times v s) n
  unfolding sum
  sum_more u v zero = refl
  sum_more u v (suc n) = rw (sum_more u v n) (omega arith)

  -- one number is taken once
  sum_one : (l n : ℕ) → l < n → sum (times (λ j. bit (eqb l j)) s) n ≡ s l
  unfolding sum
  sum_one l zero h = absurd (not-suc-le-zero h)
  sum_one l (suc n) h = go (native.Mathlib.Decide.ℕ_discrete l n) (sum_one l n)
    where
      go : Dec (l ≡ n) → (l < n → sum (times (λ j. bit (eqb l j)) s) n ≡ s l) → sum (times (λ j. bit (eqb l j)) s) n + bit (eqb l n) * s n ≡ s l
      go (yes e) ih = rw (sum_never (λ j. bit (eqb l j)) n (λ j m. rw (ne_eqb l j (omega arith))), eq-eqb l n e) (let g : s l ≡ s n = ap s e in omega arith)
      go (no e) ih = rw (ih (omega arith), ne_eqb l n e) (omega arith)

  -- or not at all
  pub sum_pick : (b : Bool) (l n : ℕ) → (b ≡ true → l < n) → sum (times (λ j. bit (b && eqb l j)) s) n ≡ bit b * s l
  sum_pick true l n h = sum_one l n (h refl) ∙ omega arith
  sum_pick false l n h = sum_never (λ j. bit false) n (λ j m. refl) ∙ omega arith
