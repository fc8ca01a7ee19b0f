-- Laws of relations that are made one from the other, and of the words in which they stand.
use Prim.Native.Nat.{ℕ, zero, suc, ◌≤◌, ◌<◌}
use native.Mathlib.Omega.{arith}
use mathlib.Core.Path.{◌≡◌, refl, sym, ap, ap₂, ◌∙◌}
use mathlib.Core.Bool.{Bool, true, false, ◌&&◌, ◌||◌, and_assoc}
use mathlib.Core.List.{List}
use lib.Dec.{ltb, eqb}
use borrow.Author.Tests.{ltb-true, ltb-false, lt-ltb, eqb-true, eq-eqb, ne_eqb}
use Rattle.model.specs.Sets.{any, upto, via, closed}
use Rattle.model.proofs.Booleans.{Seen, yes!, no!, seen, bool_ext, both_yes, yes_left, yes_right}
use Rattle.model.proofs.Exists.{any_intro, any_elim, any_cong, any_and, and_any, any_swap, any_one}
use Rattle.bits.specs.Words.{words, has_bit}
use Rattle.bits.specs.Rows.{Becomes, within, diagonal, composed, starting_in}
use Rattle.bits.proofs.Words.{has_bit_words}
use Rattle.relations.specs.Evaluation.{Leaves}

-- words that change, and change again

pub leaves : {n : ℕ} {R : ℕ → ℕ → Bool} {w o : List ℕ} → Becomes n R w o → Leaves n w o
leaves b = record { size = b.size; rest = b.rest }

pub leaves_on : {n : ℕ} {w o p : List ℕ} → Leaves n w o → Leaves n o p → Leaves n w p
leaves_on a b = record { size = b.size ∙ a.size; rest = λ i g. b.rest i g ∙ a.rest i g }

pub leaves_none : {n : ℕ} {w : List ℕ} → Leaves n w w
leaves_none = record { size = refl; rest = λ i g. refl }

-- what is left at last, read as another relation
pub becomes_on : {n : ℕ} {R T : ℕ → ℕ → Bool} {w o p : List ℕ} → Leaves n w o → Becomes n R o p → ((x y : ℕ) → x < n → y < 256 → R x y ≡ T x y) → Becomes n T w p
becomes_on a b f = record {
  size = b.size ∙ a.size;
  bits = λ x y lx ly. b.bits x y lx ly ∙ f x y lx ly;
  rest = λ i g. b.rest i g ∙ a.rest i g;
}

-- relations

rearrange : (a b c : Bool) → (a && (b && c)) ≡ (b && (a && c))
rearrange true b c = refl
rearrange false true c = refl
rearrange false false c = refl

module _ (n : ℕ) where
  pub composed_cong : (A B C D : ℕ → ℕ → Bool) (x y : ℕ) → ((z : ℕ) → z < n → A x z ≡ C x z) → ((z : ℕ) → z < n → B z y ≡ D z y) → composed n A B x y ≡ composed n C D x y
  unfolding composed
  composed_cong A B C D x y f g = any_cong n _ _ (λ z l. ap₂ (λ (a b : Bool). a && b) (f z l) (g z l))

  -- from another node
  pub composed_from : (A C B : ℕ → ℕ → Bool) (x v y : ℕ) → ((z : ℕ) → z < n → A x z ≡ C v z) → composed n A B x y ≡ composed n C B v y
  unfolding composed
  composed_from A C B x v y f = any_cong n _ _ (λ z l. ap (λ (a : Bool). a && B z y) (f z l))

  -- with the diagonal
  pub composed_diagonal : (A : ℕ → ℕ → Bool) (x y : ℕ) → composed n A diagonal x y ≡ within n A x y
  unfolding composed
  composed_diagonal A x y = bool_ext (any n (λ z. A x z && eqb z y)) (ltb y n && A x y)
      (λ h. let (z, l, p) = any_elim n (λ z. A x z && eqb z y) h in
      let e : z ≡ y = eqb-true z y (yes_right (A x z) (eqb z y) p) in
      both_yes (lt-ltb y n (rw e at l)) (rw e at (yes_left (A x z) (eqb z y) p)))
      (λ h. any_intro n (λ z. A x z && eqb z y) y (ltb-true y n (yes_left (ltb y n) (A x y) h)) (both_yes (yes_right (ltb y n) (A x y) h) (eq-eqb y y refl)))

  -- the pairs that end below n, at the end
  pub composed_within : (A B : ℕ → ℕ → Bool) (x y : ℕ) → composed n A (within n B) x y ≡ within n (composed n A B) x y
  unfolding composed
  composed_within A B x y = any_cong n _ _ (λ z l. rearrange (A x z) (ltb y n) (B z y)) ∙ sym (any_and n (ltb y n) (λ z. A x z && B z y))

  -- one after the other
  pub composed_on : (A B C : ℕ → ℕ → Bool) (x y : ℕ) → composed n A (composed n B C) x y ≡ composed n (composed n A B) C x y
  unfolding composed
  composed_on A B C x y =
      any_cong n _ _ (λ z l. any_and n (A x z) (λ v. B z v && C v y))
      ∙ any_swap n n (λ z v. A x z && (B z v && C v y))
      ∙ any_cong n _ _ (λ v l. any_cong n _ _ (λ z m. sym (and_assoc (A x z) (B z v) (C v y))) ∙ sym (and_any n (λ z. A x z && B z v) (C v y)))

  -- the pairs that start in a set, on the right
  pub composed_starting : (A B : ℕ → ℕ → Bool) (H : ℕ → Bool) (x y : ℕ) → composed n A (starting_in H B) x y ≡ composed n (λ x z. A x z && H z) B x y
  unfolding composed
  composed_starting A B H x y = any_cong n _ _ (λ z l. sym (and_assoc (A x z) (H z) (B z y)))

  -- from one node
  pub composed_one : (B : ℕ → ℕ → Bool) (g x y : ℕ) → g < n → composed n (λ x z. eqb z g) B x y ≡ B g y
  unfolding composed
  composed_one B g x y l = any_one n g (λ z. B z y) l

-- the closure of the pairs that end below n

shared : (c a b d : Bool) → ((c && a) || ((true && b) && (c && d))) ≡ (c && (a || (b && d)))
shared true a b d = refl
shared false a true d = refl
shared false a false d = refl

module _ (n : ℕ) (A B : ℕ → ℕ → Bool) (le : n ≤ 256) (f : (x y : ℕ) → x < n → y < 256 → A x y ≡ within n B x y) where
  via_within : (k : ℕ) → k ≤ n → (x y : ℕ) → x < n → y < 256 → via A k x y ≡ (ltb y n && via B k x y)
  unfolding via
  via_within zero m x y lx ly = ap (λ (c : Bool). eqb x y || c) (f x y lx ly) ∙ go (seen (ltb y n))
    where
      go : Seen (ltb y n) → (eqb x y || (ltb y n && B x y)) ≡ (ltb y n && (eqb x y || B x y))
      go (yes! p) = rw p
      go (no! p) = rw (p, ne_eqb x y (λ e. let l : n ≤ y = ltb-false y n p in omega arith))
  via_within (suc k) m x y lx ly =
      ap₂ (λ (b c : Bool). b || c) (via_within k (omega arith) x y lx ly)
      (ap₂ (λ (b c : Bool). b && c) (via_within k (omega arith) x k lx (omega arith) ∙ ap (λ (c : Bool). c && via B k x k) (lt-ltb k n (omega arith))) (via_within k (omega arith) k y (omega arith) ly))
      ∙ shared (ltb y n) (via B k x y) (via B k x k) (via B k k y)

  pub closed_within : (x y : ℕ) → x < n → y < 256 → closed n A x y ≡ within n (closed n B) x y
  closed_within x y lx ly = via_within n (omega arith) x y lx ly

-- some pair
pub any_within : (n : ℕ) (f : ℕ → Bool) → n ≤ 256 → any 256 (λ y. ltb y n && f y) ≡ any n f
any_within n f h = bool_ext (any 256 (λ k. ltb k n && f k)) (any n f)
    (λ p. let (y, l, g) = any_elim 256 (λ k. ltb k n && f k) p in any_intro n f y (ltb-true y n (yes_left (ltb y n) (f y) g)) (yes_right (ltb y n) (f y) g))
    (λ p. let (y, l, g) = any_elim n f p in any_intro 256 (λ k. ltb k n && f k) y (omega arith) (both_yes (lt-ltb y n l) g))

-- the bits of a set of nodes
pub set_bit : (n : ℕ) (H : ℕ → Bool) (s : List ℕ) → s ≡ words 4 (upto n H) → (y : ℕ) → y < 256 → has_bit s y ≡ (ltb y n && H y)
unfolding upto
set_bit n H s p y l = ap (λ (w : List ℕ). has_bit w y) p ∙ has_bit_words 4 (upto n H) y (omega arith)

pub set_node : (n : ℕ) (H : ℕ → Bool) (s : List ℕ) → s ≡ words 4 (upto n H) → n ≤ 256 → (x : ℕ) → x < n → has_bit s x ≡ H x
set_node n H s p le x l = set_bit n H s p x (omega arith) ∙ rw (lt-ltb x n l)
