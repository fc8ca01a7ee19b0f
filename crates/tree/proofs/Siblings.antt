-- Laws of siblings, and of the loop that links each node to its previous sibling.
use Prim.Native.Nat.{ℕ, ◌+◌, ◌*◌, ◌≤◌, ◌<◌}
use native.Mathlib.Nat.{not-suc-le-zero, eq-or-lt_of_le}
use native.Mathlib.Omega.{arith}
use mathlib.Core.Path.{◌≡◌, sym, ap, ◌∙◌}
use mathlib.Core.Logic.{◌⊎◌, ⊎_elim}
use mathlib.Core.Bool.{true, ◌&&◌}
use mathlib.Core.List.{List}
use lib.ListN.{length, get_or, set, replicate, length-set, length-replicate, get_or-replicate}
use lib.Seq.{get_or-set_same, get_or-set_other}
use lib.Dec.{ltb, eqb}
use borrow.Author.Tests.{ltb-true, lt-ltb, eq-eqb, eqb-true}
use Rattle.model.specs.Tree.{Tree}
use Rattle.model.specs.Axes.{following_sibling}
use Rattle.model.specs.Accepted.{Sound}
use Rattle.model.proofs.Booleans.{both_yes, yes_left, yes_right}
use Rattle.tree.specs.Links.{PreviousSiblings}

-- siblings, made and taken apart

pub sibling_of : (t : Tree) (x y : ℕ) → 0 < x → x < y → t.parent x ≡ t.parent y → following_sibling t x y ≡ true
unfolding following_sibling
sibling_of t x y a l e = both_yes (lt-ltb 0 x a) (both_yes (lt-ltb x y l) (eq-eqb (t.parent x) (t.parent y) e))

pub sibling_is : (t : Tree) (x y : ℕ) → following_sibling t x y ≡ true → (0 < x) × (x < y) × (t.parent x ≡ t.parent y)
unfolding following_sibling
sibling_is t x y h =
    let r : (ltb x y && eqb (t.parent x) (t.parent y)) ≡ true = yes_right (ltb 0 x) (ltb x y && eqb (t.parent x) (t.parent y)) h in
    (ltb-true 0 x (yes_left (ltb 0 x) (ltb x y && eqb (t.parent x) (t.parent y)) h), ltb-true x y (yes_left (ltb x y) (eqb (t.parent x) (t.parent y)) r), eqb-true (t.parent x) (t.parent y) (yes_right (ltb x y) (eqb (t.parent x) (t.parent y)) r))

-- for each node, l has its last child below i, or no node of the tree
pub record LastChildren (t : Tree) (i : ℕ) (l : List ℕ) : Type 0 where
  pub long : length l ≡ 256
  pub found : (p : ℕ) → p < t.size → get_or l p 0 < t.size → (0 < get_or l p 0) × (get_or l p 0 < i) × (t.parent (get_or l p 0) ≡ p)
  pub most : (x : ℕ) → 0 < x → x < i → (x ≤ get_or l (t.parent x) 0) × (get_or l (t.parent x) 0 < i)

never : {A : Type 0} → 1 ≤ 0 → A
never h = absurd (not-suc-le-zero h)

module _ (t : Tree) (s : Sound t) where
  pub siblings_start : PreviousSiblings t 1 (replicate 512 65535)
  siblings_start = record {
    long = length-replicate {A = ℕ} 512 65535;
    before = λ y h k. never (let w : get_or (replicate {A = ℕ} 512 65535) (2 * y) 0 ≡ 65535 = get_or-replicate 512 (2 * y) 65535 0 (omega arith) in omega (arith, s.at_most));
    latest = λ x y h k. let (_, xy, _) = sibling_is t x y k in never (omega arith);
  }

  pub children_start : LastChildren t 1 (replicate 256 65535)
  children_start = record {
    long = length-replicate {A = ℕ} 256 65535;
    found = λ p h k. never (let w : get_or (replicate {A = ℕ} 256 65535) p 0 ≡ 65535 = get_or-replicate 256 p 65535 0 (omega (arith, s.at_most)) in omega (arith, s.at_most));
    most = λ x h k. never (omega arith);
  }

  module _ (i p : ℕ) (e : p ≡ t.parent i) (i0 : 0 < i) (il : i < t.size) where
    pub parent_fits : p < 256
    parent_fits = let w : t.parent i < i = s.falls i i0 il in omega (arith, s.at_most)

    pub siblings_more : (r l : List ℕ) → PreviousSiblings t i r → LastChildren t i l → PreviousSiblings t (i + 1) (set r (2 * i) (get_or l p 0))
    siblings_more r l a b = record {
      long = length-set r (2 * i) v ∙ a.long;
      before = λ y k m. ⊎_elim (λ (q : y ≡ i). rw q (here (rw (q, get_or-set_same r (2 * i) v 0 h) at m))) (λ q. rw (get_or-set_other r (2 * i) (2 * y) v 0 (off y q)) (a.before y q (rw (get_or-set_other r (2 * i) (2 * y) v 0 (off y q)) at m))) (eq-or-lt_of_le (let w : y ≤ i = omega arith in w));
      latest = λ x y k m. ⊎_elim (λ (q : y ≡ i). rw (q, get_or-set_same r (2 * i) v 0 h) (there x (ap (following_sibling t x) (sym q) ∙ m))) (λ q. rw (get_or-set_other r (2 * i) (2 * y) v 0 (off y q)) (a.latest x y q m)) (eq-or-lt_of_le (let w : y ≤ i = omega arith in w));
    }
      where
        v : ℕ
        v = get_or l p 0

        h : 2 * i < length r
        h = omega (arith, a.long, s.at_most)

        off : (y : ℕ) → y < i → 2 * y ≡ 2 * i → ⊥
        off y q z = never (omega arith)

        here : v < t.size → following_sibling t (get_or (set r (2 * i) v) (2 * i) 0) i ≡ true
        here m = let (v0, vi, g) = b.found p (let w : t.parent i < i = s.falls i i0 il in omega arith) m in
            rw (get_or-set_same r (2 * i) v 0 h) (sibling_of t v i v0 vi (g ∙ e))

        there : (x : ℕ) → following_sibling t x i ≡ true → (x ≤ v) × (v < i)
        there x m = let (x0, xi, g) = sibling_is t x i m in let (u, w) = b.most x x0 xi in rw (e, sym g) (u, w)

    pub children_more : (l : List ℕ) → LastChildren t i l → LastChildren t (i + 1) (set l p i)
    children_more l b = record {
      long = length-set l p i ∙ b.long;
      found = λ q ql m. pick_found q ql m (native.Mathlib.Decide.ℕ_discrete q p);
      most = λ x x0 xi. pick_most x x0 (native.Mathlib.Decide.ℕ_discrete (t.parent x) p) (eq-or-lt_of_le (let w : x ≤ i = omega arith in w));
    }
      where
        h : p < length l
        h = omega (arith, b.long, parent_fits)

        pick_found : (q : ℕ) → q < t.size → get_or (set l p i) q 0 < t.size → Dec (q ≡ p) → (0 < get_or (set l p i) q 0) × (get_or (set l p i) q 0 < i + 1) × (t.parent (get_or (set l p i) q 0) ≡ q)
        pick_found q ql m (yes z) = rw (z, get_or-set_same l p i 0 h) (i0, omega arith, sym e)
        pick_found q ql m (no z) = let (u, w, g) = b.found q ql (rw (get_or-set_other l p q i 0 z) at m) in rw (get_or-set_other l p q i 0 z) (u, omega arith, g)

        pick_most : (x : ℕ) → 0 < x → Dec (t.parent x ≡ p) → (x ≡ i) ⊎ (x < i) → (x ≤ get_or (set l p i) (t.parent x) 0) × (get_or (set l p i) (t.parent x) 0 < i + 1)
        pick_most x x0 (yes z) c = rw (z, get_or-set_same l p i 0 h) (⊎_elim (λ z. omega arith) (λ z. omega arith) c, omega arith)
        pick_most x x0 (no z) c = rw (get_or-set_other l p (t.parent x) i 0 z)
            (let w : x < i = ⊎_elim (λ k. absurd (z (ap t.parent k ∙ sym e))) (λ k. k) c in let (u, g) = b.most x x0 w in (u, omega arith))

pub siblings_done : (t : Tree) (l : List ℕ) (i n : ℕ) → PreviousSiblings t i l → n ≤ i → PreviousSiblings t n l
siblings_done t l i n u h = record { long = u.long; before = λ y k m. u.before y (omega arith) m; latest = λ x y k m. u.latest x y (omega arith) m }
