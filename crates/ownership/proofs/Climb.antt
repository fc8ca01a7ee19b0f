-- Laws of the climb from y towards the root, which stops at the first node z whose number is not above x.
use Prim.Native.Nat.{ℕ, ◌≤◌, ◌<◌}
use native.Mathlib.Nat.{not-suc-le-zero}
use native.Mathlib.Omega.{arith}
use mathlib.Core.Path.{◌≡◌, sym, ◌∙◌}
use mathlib.Core.Bool.{false, or-false}
use lib.Dec.{eqb}
use borrow.Author.Tests.{ne_eqb}
use Rattle.model.specs.Tree.{Tree}
use Rattle.model.specs.Axes.{descendant, descendant_or_self}
use Rattle.model.specs.Accepted.{Falling}
use Rattle.model.proofs.Booleans.{not_yes}
use Rattle.model.proofs.Axes.{descendant_step, descendant_lower, eqb_comm}

module _ (t : Tree) (x y z : ℕ) (s : Falling t y) (h : z ≤ y) where
  pub climb_lower : (p : ℕ) → p ≡ t.parent z → x < z → p < z
  climb_lower p e l = let w : t.parent z < z = s.falls z (omega arith) h in omega arith

  pub climb_under : (p : ℕ) → p ≡ t.parent z → x < z → p ≤ y
  climb_under p e l = omega (arith, climb_lower p e l)

  -- x is not z, so what z is to x its parent is
  up : (p : ℕ) → p ≡ t.parent z → x < z → y < t.size → descendant_or_self t x z ≡ descendant_or_self t x p
  unfolding descendant_or_self
  up p e l n =
      rw (ne_eqb x z (λ q. not-suc-le-zero (let g : 1 ≤ 0 = omega arith in g)), e, eqb_comm x (t.parent z))
      (descendant_step t y s x z (omega arith) (omega arith) h)

  -- what stands at or before x has no ancestor x
  out : z ≤ x → eqb z x ≡ descendant_or_self t x z
  unfolding descendant_or_self
  out l =
      let none : descendant t x z ≡ false = not_yes (descendant t x z) (λ q. not-suc-le-zero (let w : x < z = descendant_lower t y s x z h q in let g : 1 ≤ 0 = omega arith in g)) in
      rw (none, eqb_comm z x) (sym (or-false (eqb x z)))

  module _ (i : descendant_or_self t x z ≡ descendant_or_self t x y) where
    pub climb_step : (p : ℕ) → p ≡ t.parent z → x < z → y < t.size → descendant_or_self t x p ≡ descendant_or_self t x y
    climb_step p e l n = sym (up p e l n) ∙ i

    pub climb_end : z ≤ x → eqb z x ≡ descendant_or_self t x y
    climb_end l = out l ∙ i
