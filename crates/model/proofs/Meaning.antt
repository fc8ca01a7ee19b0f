-- Laws for a reader: when (x, y) is a pair of a path, and when a node expression holds at x, for each kind in document 01's words.
use Prim.Native.Nat.{ℕ, ◌<◌}
use mathlib.Core.Path.{◌≡◌}
use mathlib.Core.Logic.Iff
use mathlib.Core.Logic.{◌⊎◌, ◌↔◌}
use mathlib.Core.Bool.{Bool, true, false, not, ◌&&◌, ◌||◌}
use lib.Dec.{eqb}
use Rattle.model.specs.Sets.{closed}
use Rattle.model.specs.Tree.{Tree}
use Rattle.model.specs.Axes.{is_document, axis, passes, steps}
use Rattle.model.specs.Syntax.{Path, NodeExpr}
use Rattle.model.specs.Syntax.Path.{step, compose, union, intersect, except, filter, variable, from_root, closure}
use Rattle.model.specs.Syntax.NodeExpr.{exists, negate, both, either, is, same}
use Rattle.model.specs.Meaning.{pairs_over, pairs, holds}
use Rattle.model.proofs.Booleans.{and_says, or_says, not_says, eqb_says}
use Rattle.model.proofs.Exists.{any_iff, any_both}
use Rattle.model.proofs.Closure.{closed_refl, closed_step, closed_trans, closed_least}

module _ (t : Tree) (g : ℕ → ℕ) (x y : ℕ) where
  -- 0: y is on the axis from x and passes the test; 65534 is node(), 65535 the star, which a document node does not pass
  pub step_pair : (a name : ℕ) → (pairs t g (step a name) x y ≡ true)
      ↔ ((axis t a x y ≡ true) × ((name ≡ 65534) ⊎ (((name ≡ 65535) × (is_document t y ≡ false)) ⊎ (t.tag y ≡ name))))
  unfolding pairs_over steps passes
  step_pair a name =
      and_says (axis t a x y) (passes t name y) Iff.rfl
      (or_says (eqb name 65534) ((eqb name 65535 && not (is_document t y)) || eqb (t.tag y) name) (eqb_says name 65534)
      (or_says (eqb name 65535 && not (is_document t y)) (eqb (t.tag y) name)
      (and_says (eqb name 65535) (not (is_document t y)) (eqb_says name 65535) (not_says (is_document t y)))
      (eqb_says (t.tag y) name)))

  -- 1: some z has (x, z) in the left and (z, y) in the right
  pub compose_pair : (p q : Path) → (pairs t g (compose p q) x y ≡ true) ↔ ((z : ℕ) × (z < t.size) × (pairs t g p x z ≡ true) × (pairs t g q z y ≡ true))
  unfolding pairs_over
  compose_pair p q = any_both t.size (λ z. pairs t g p x z) (λ z. pairs t g q z y)

  -- 2: in the left or in the right
  pub union_pair : (p q : Path) → (pairs t g (union p q) x y ≡ true) ↔ ((pairs t g p x y ≡ true) ⊎ (pairs t g q x y ≡ true))
  unfolding pairs_over
  union_pair p q = or_says (pairs t g p x y) (pairs t g q x y) Iff.rfl Iff.rfl

  -- 3: in both
  pub intersect_pair : (p q : Path) → (pairs t g (intersect p q) x y ≡ true) ↔ ((pairs t g p x y ≡ true) × (pairs t g q x y ≡ true))
  unfolding pairs_over
  intersect_pair p q = and_says (pairs t g p x y) (pairs t g q x y) Iff.rfl Iff.rfl

  -- 4: in the left and not in the right
  pub except_pair : (p q : Path) → (pairs t g (except p q) x y ≡ true) ↔ ((pairs t g p x y ≡ true) × (pairs t g q x y ≡ false))
  unfolding pairs_over
  except_pair p q = and_says (pairs t g p x y) (not (pairs t g q x y)) Iff.rfl (not_says (pairs t g q x y))

  -- 5: in the path, and the node expression holds at y
  pub filter_pair : (p : Path) (e : NodeExpr) → (pairs t g (filter p e) x y ≡ true) ↔ ((pairs t g p x y ≡ true) × (holds t g e y ≡ true))
  unfolding pairs_over
  filter_pair p e = and_says (pairs t g p x y) (holds t g e y) Iff.rfl Iff.rfl

  -- 6: y is the variable's node
  pub variable_pair : (k : ℕ) → (pairs t g (variable k) x y ≡ true) ↔ (y ≡ g k)
  unfolding pairs_over
  variable_pair k = eqb_says y (g k)

  -- 7: (0, y) is in the path
  pub root_pair : (p : Path) → (pairs t g (from_root p) x y ≡ true) ↔ (pairs t g p 0 y ≡ true)
  unfolding pairs_over
  root_pair p = Iff.rfl

  -- 13: in every relation that is reflexive, holds the path, and is transitive among the nodes: in the least of them
  pub closure_pair : (p : Path) → (pairs t g (closure p) x y ≡ true)
      ↔ ((S : ℕ → ℕ → Bool) → ((u : ℕ) → S u u ≡ true) → ((u v : ℕ) → pairs t g p u v ≡ true → S u v ≡ true)
      → ((u z v : ℕ) → z < t.size → S u z ≡ true → S z v ≡ true → S u v ≡ true) → S x y ≡ true)
  unfolding pairs_over
  closure_pair p = (
    λ h S r c j. closed_least (pairs t g p) (λ u v. S u v ≡ true) r c t.size j x y h,
    λ f. f (closed t.size (pairs t g p)) (closed_refl (pairs t g p) t.size) (closed_step (pairs t g p) t.size) (closed_trans (pairs t g p) t.size),
  )

  -- 8: x has at least one y
  pub exists_at : (p : Path) → (holds t g (exists p) x ≡ true) ↔ ((z : ℕ) × (z < t.size) × (pairs t g p x z ≡ true))
  unfolding pairs_over
  exists_at p = any_iff t.size (λ z. pairs t g p x z)

  -- 9: it does not hold
  pub negate_at : (e : NodeExpr) → (holds t g (negate e) x ≡ true) ↔ (holds t g e x ≡ false)
  unfolding pairs_over
  negate_at e = not_says (holds t g e x)

  -- 10: both hold
  pub both_at : (e f : NodeExpr) → (holds t g (both e f) x ≡ true) ↔ ((holds t g e x ≡ true) × (holds t g f x ≡ true))
  unfolding pairs_over
  both_at e f = and_says (holds t g e x) (holds t g f x) Iff.rfl Iff.rfl

  -- 11: one of them holds
  pub either_at : (e f : NodeExpr) → (holds t g (either e f) x ≡ true) ↔ ((holds t g e x ≡ true) ⊎ (holds t g f x ≡ true))
  unfolding pairs_over
  either_at e f = or_says (holds t g e x) (holds t g f x) Iff.rfl Iff.rfl

  -- 12: x is the variable's node
  pub is_at : (k : ℕ) → (holds t g (is k) x ≡ true) ↔ (x ≡ g k)
  unfolding pairs_over
  is_at k = eqb_says x (g k)

  -- 14: there is a node that both paths reach from x
  pub same_at : (p q : Path) → (holds t g (same p q) x ≡ true) ↔ ((z : ℕ) × (z < t.size) × (pairs t g p x z ≡ true) × (pairs t g q x z ≡ true))
  unfolding pairs_over
  same_at p q = any_both t.size (λ z. pairs t g p x z) (λ z. pairs t g q x z)
