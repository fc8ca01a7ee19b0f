-- The variables that stand in a path are all that decides its pairs, and all that can be opened in it.
use Prim.Native.Nat.{ℕ}
use mathlib.Core.Path.{◌≡◌, refl, ap, fun_ext}
use mathlib.Core.Bool.{Bool, true, false, ◌||◌}
use lib.Dec.{eqb}
use borrow.Author.Tests.{eq-eqb}
use Rattle.model.specs.Sets.{closed}
use Rattle.model.specs.Tree.{Tree}
use Rattle.model.specs.Syntax.{Path, NodeExpr}
use Rattle.model.specs.Syntax.Path.{step, compose, union, intersect, except, filter, variable, from_root, closure}
use Rattle.model.specs.Syntax.NodeExpr.{exists, negate, both, either, is, same}
use Rattle.model.specs.Meaning.{pairs_over, holds_over, pairs, holds}
use Rattle.model.specs.Sharing.{in_path, in_expr, opened, opened_expr}
use Rattle.model.proofs.Booleans.{or_left, or_right}
use Rattle.model.proofs.Exists.{any_cong}

-- what is true of the variables of two parts is true of those of each

module _ (A B : ℕ → Bool) {P : ℕ → Type 0} (w : (k : ℕ) → (A k || B k) ≡ true → P k) where
  in_left : (k : ℕ) → A k ≡ true → P k
  in_left k u = w k (or_left (A k) (B k) u)

  in_right : (k : ℕ) → B k ≡ true → P k
  in_right k u = w k (or_right (A k) (B k) u)

module _ (t : Tree) (g h : ℕ → ℕ) where
  mutual
    unfolding pairs_over holds_over in_path in_expr

    -- two assignments that agree on them give a path the same pairs
    pub same_pairs : (p : Path) → ((k : ℕ) → in_path p k ≡ true → g k ≡ h k) → (x y : ℕ) → pairs t g p x y ≡ pairs t h p x y
    same_pairs (step a name) w x y = refl
    same_pairs (compose p q) w x y =
        any_cong t.size _ _ (λ z l. rw (same_pairs p (in_left (in_path p) (in_path q) w) x z, same_pairs q (in_right (in_path p) (in_path q) w) z y))
    same_pairs (union p q) w x y = rw (same_pairs p (in_left (in_path p) (in_path q) w) x y, same_pairs q (in_right (in_path p) (in_path q) w) x y)
    same_pairs (intersect p q) w x y = rw (same_pairs p (in_left (in_path p) (in_path q) w) x y, same_pairs q (in_right (in_path p) (in_path q) w) x y)
    same_pairs (except p q) w x y = rw (same_pairs p (in_left (in_path p) (in_path q) w) x y, same_pairs q (in_right (in_path p) (in_path q) w) x y)
    same_pairs (filter p e) w x y = rw (same_pairs p (in_left (in_path p) (in_expr e) w) x y, same_holds e (in_right (in_path p) (in_expr e) w) y)
    same_pairs (variable k) w x y = ap (eqb y) (w k (eq-eqb k k refl))
    same_pairs (from_root p) w x y = same_pairs p w 0 y
    same_pairs (closure p) w x y = ap (λ (R : ℕ → ℕ → Bool). closed t.size R x y) (fun_ext (λ x. fun_ext (λ y. same_pairs p w x y)))

    -- and let a node expression hold at the same nodes
    pub same_holds : (e : NodeExpr) → ((k : ℕ) → in_expr e k ≡ true → g k ≡ h k) → (x : ℕ) → holds t g e x ≡ holds t h e x
    same_holds (exists p) w x = any_cong t.size _ _ (λ y l. same_pairs p w x y)
    same_holds (negate e) w x = rw (same_holds e w x)
    same_holds (both e f) w x = rw (same_holds e (in_left (in_expr e) (in_expr f) w) x, same_holds f (in_right (in_expr e) (in_expr f) w) x)
    same_holds (either e f) w x = rw (same_holds e (in_left (in_expr e) (in_expr f) w) x, same_holds f (in_right (in_expr e) (in_expr f) w) x)
    same_holds (is k) w x = ap (eqb x) (w k (eq-eqb k k refl))
    same_holds (same p q) w x = any_cong t.size _ _ (λ y l. rw (same_pairs p (in_left (in_path p) (in_path q) w) x y, same_pairs q (in_right (in_path p) (in_path q) w) x y))

module _ (free : ℕ → Bool) where
  mutual
    unfolding opened opened_expr in_path in_expr

    -- a path in which no free variable stands is opened to itself
    pub opened_none : (p : Path) → ((k : ℕ) → in_path p k ≡ true → free k ≡ false) → opened free p ≡ p
    opened_none (step a name) w = refl
    opened_none (compose p q) w = rw (opened_none p (in_left (in_path p) (in_path q) w), opened_none q (in_right (in_path p) (in_path q) w))
    opened_none (union p q) w = rw (opened_none p (in_left (in_path p) (in_path q) w), opened_none q (in_right (in_path p) (in_path q) w))
    opened_none (intersect p q) w = rw (opened_none p (in_left (in_path p) (in_path q) w), opened_none q (in_right (in_path p) (in_path q) w))
    opened_none (except p q) w = rw (opened_none p (in_left (in_path p) (in_path q) w), opened_none q (in_right (in_path p) (in_path q) w))
    opened_none (filter p e) w = rw (opened_none p (in_left (in_path p) (in_expr e) w), opened_none_expr e (in_right (in_path p) (in_expr e) w))
    opened_none (variable k) w = rw (w k (eq-eqb k k refl))
    opened_none (from_root p) w = rw (opened_none p w)
    opened_none (closure p) w = rw (opened_none p w)

    -- and so is a node expression
    pub opened_none_expr : (e : NodeExpr) → ((k : ℕ) → in_expr e k ≡ true → free k ≡ false) → opened_expr free e ≡ e
    opened_none_expr (exists p) w = rw (opened_none p w)
    opened_none_expr (negate e) w = rw (opened_none_expr e w)
    opened_none_expr (both e f) w = rw (opened_none_expr e (in_left (in_expr e) (in_expr f) w), opened_none_expr f (in_right (in_expr e) (in_expr f) w))
    opened_none_expr (either e f) w = rw (opened_none_expr e (in_left (in_expr e) (in_expr f) w), opened_none_expr f (in_right (in_expr e) (in_expr f) w))
    opened_none_expr (is k) w = rw (w k (eq-eqb k k refl))
    opened_none_expr (same p q) w = rw (opened_none p (in_left (in_path p) (in_path q) w), opened_none q (in_right (in_path p) (in_path q) w))
