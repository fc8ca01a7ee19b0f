-- The closure of a relation: it is reflexive and transitive, contains the relation, and every other such relation contains it.
use Prim.Native.Nat.{ℕ, zero, suc, ◌≤◌, ◌<◌}
use native.Mathlib.Nat.{not-suc-le-zero, le_of_suc-le-suc, eq-or-lt_of_le}
use native.Mathlib.Omega.{arith}
use mathlib.Core.Path.{◌≡◌, refl, subst}
use mathlib.Core.Logic.{⊎_elim}
use mathlib.Core.Bool.{Bool, true, ◌&&◌, and_comm}
use lib.Dec.{eqb}
use borrow.Author.Tests.{eq-eqb, eqb-true}
use Rattle.model.specs.Sets.{via, closed}
use Rattle.model.proofs.Booleans.{both_yes, yes_left, yes_right, or_left, or_right, or_cases}
use Rattle.model.proofs.Axes.{eqb_comm}

module _ (R : ℕ → ℕ → Bool) where
  -- for the reader: each node by itself
  pub closed_refl : (n x : ℕ) → closed n R x x ≡ true
  unfolding via
  closed_refl zero x = or_left (eqb x x) (R x x) (eq-eqb x x refl)
  closed_refl (suc k) x = or_left (via R k x x) (via R k x k && via R k k x) (closed_refl k x)

  -- for the reader: the relation's own pairs
  pub closed_step : (n x y : ℕ) → R x y ≡ true → closed n R x y ≡ true
  unfolding via
  closed_step zero x y h = or_right (eqb x y) (R x y) h
  closed_step (suc k) x y h = or_left (via R k x y) (via R k x k && via R k k y) (closed_step k x y h)

  -- to the next node that may stand between, and from it
  to_next : (k x : ℕ) → via R (suc k) x k ≡ true → via R k x k ≡ true
  unfolding via
  to_next k x h = ⊎_elim (λ p. p) (λ p. yes_left (via R k x k) (via R k k k) p) (or_cases (via R k x k) (via R k x k && via R k k k) h)

  from_next : (k y : ℕ) → via R (suc k) k y ≡ true → via R k k y ≡ true
  unfolding via
  from_next k y h = ⊎_elim (λ p. p) (λ p. yes_right (via R k k k) (via R k k y) p) (or_cases (via R k k y) (via R k k k && via R k k y) h)

  -- for the reader: two chains that meet at a node are one
  pub closed_trans : (n x z y : ℕ) → z < n → closed n R x z ≡ true → closed n R z y ≡ true → closed n R x y ≡ true
  unfolding via
  closed_trans zero x z y l p q = absurd (not-suc-le-zero l)
  closed_trans (suc k) x z y l p q = ⊎_elim at_last (below (closed_trans k)) (eq-or-lt_of_le (le_of_suc-le-suc l))
    where
      through : via R k x k ≡ true → via R k k y ≡ true → via R (suc k) x y ≡ true
      through a b = or_right (via R k x y) (via R k x k && via R k k y) (both_yes a b)

      at_last : z ≡ k → via R (suc k) x y ≡ true
      at_last e = through (to_next k x (subst (λ (i : ℕ). via R (suc k) x i ≡ true) e p)) (from_next k y (subst (λ (i : ℕ). via R (suc k) i y ≡ true) e q))

      below : ((x z y : ℕ) → z < k → via R k x z ≡ true → via R k z y ≡ true → via R k x y ≡ true) → z < k → via R (suc k) x y ≡ true
      below join m =
          ⊎_elim
          (λ a. ⊎_elim
          (λ b. or_left (via R k x y) (via R k x k && via R k k y) (join x z y m a b))
          (λ b. through (join x z k m a (yes_left (via R k z k) (via R k k y) b)) (yes_right (via R k z k) (via R k k y) b))
          (or_cases (via R k z y) (via R k z k && via R k k y) q))
          (λ a. through (yes_left (via R k x k) (via R k k z) a)
          (⊎_elim (λ b. join k z y m (yes_right (via R k x k) (via R k k z) a) b) (λ b. yes_right (via R k z k) (via R k k y) b) (or_cases (via R k z y) (via R k z k && via R k k y) q)))
          (or_cases (via R k x z) (via R k x k && via R k k z) p)

  -- for the reader: whatever is reflexive, transitive through the first n nodes and contains the relation has all its pairs
  pub closed_least : (S : ℕ → ℕ → Type 0) → ((x : ℕ) → S x x) → ((x y : ℕ) → R x y ≡ true → S x y) → (n : ℕ) → ((x z y : ℕ) → z < n → S x z → S z y → S x y) → (x y : ℕ) → closed n R x y ≡ true → S x y
  unfolding via
  closed_least S r c zero t x y h = ⊎_elim (λ p. subst (λ (i : ℕ). S x i) (eqb-true x y p) (r x)) (λ p. c x y p) (or_cases (eqb x y) (R x y) h)
  closed_least S r c (suc k) t x y h =
      let less : (x z y : ℕ) → z < k → S x z → S z y → S x y = λ x z y l. t x z y (omega arith) in
      ⊎_elim
      (λ p. closed_least S r c k less x y p)
      (λ p. t x k y (omega arith) (closed_least S r c k less x k (yes_left (via R k x k) (via R k k y) p)) (closed_least S r c k less k y (yes_right (via R k x k) (via R k k y) p)))
      (or_cases (via R k x y) (via R k x k && via R k k y) h)

-- relations that agree on n nodes have closures that agree on them
pub closed_cong : (n : ℕ) (R S : ℕ → ℕ → Bool) → ((x y : ℕ) → x < n → y < n → R x y ≡ S x y) → (k : ℕ) → k ≤ n → (x y : ℕ) → x < n → y < n → via R k x y ≡ via S k x y
unfolding via
closed_cong n R S h zero m x y l j = rw (h x y l j)
closed_cong n R S h (suc k) m x y l j =
    rw (closed_cong n R S h k (omega arith) x y l j, closed_cong n R S h k (omega arith) x k l (omega arith), closed_cong n R S h k (omega arith) k y (omega arith) j)

-- the closure of the converse is the converse of the closure
pub closed_turn : (R : ℕ → ℕ → Bool) (k x y : ℕ) → via (λ a b. R b a) k x y ≡ via R k y x
unfolding via
closed_turn R zero x y = rw (eqb_comm x y)
closed_turn R (suc k) x y = rw (closed_turn R k x y, closed_turn R k x k, closed_turn R k k y, and_comm (via R k k x) (via R k y k))
