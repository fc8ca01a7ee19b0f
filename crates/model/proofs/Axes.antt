-- Laws of the axes: descendants by their parents, converses, and the five axes that part the nodes of a tree.
use Prim.Native.Nat.{ℕ, zero, suc, ◌+◌, ◌*◌, ◌≤◌, ◌<◌}
use native.Mathlib.Nat.{not-suc-le-zero}
use native.Mathlib.Omega.{arith}
use mathlib.Core.Path.{◌≡◌, refl, sym, ◌∙◌}
use mathlib.Core.Logic.Iff
use mathlib.Core.Logic.{◌⊎◌, ⊎_elim, ◌↔◌}
use mathlib.Core.Bool.{Bool, true, false, not, ◌&&◌, ◌||◌}
use lib.Dec.{ltb, eqb}
use borrow.Author.Tests.{lt-ltb, le-ltb, ltb-true, ltb-false, eqb-true, eq-eqb, ne_eqb}
use Rattle.model.specs.Sets.{any, bit}
use Rattle.model.specs.Tree.{Tree}
use Rattle.model.specs.Axes.{climbs, self, child, following_sibling, right, descendant, ancestor, following, preceding, descendant_or_self, ancestor_or_self, axis}
use Rattle.model.specs.Accepted.{Sound, Falling}
use Rattle.model.proofs.Booleans.{Seen, yes!, no!, seen, no_yes, bool_ext, both_yes, yes_left, yes_right, or_cases, not_yes, and_says, or_says, not_says, eqb_says, ltb_says}
use Rattle.model.proofs.Exists.{any_intro, any_both}

-- node 0 has no ancestor, whatever the fuel
climb_zero : (d : Tree) (k x : ℕ) → climbs d k x 0 ≡ false
unfolding climbs
climb_zero d zero x = refl
climb_zero d (suc k) x = refl

pub descendant_zero : (d : Tree) (x : ℕ) → descendant d x 0 ≡ false
unfolding descendant
descendant_zero d x = climb_zero d d.size x

pub sound_falling : (d : Tree) (y : ℕ) → Sound d → y < d.size → Falling d y
sound_falling d y s l = record { falls = λ x p h. s.falls x p (omega arith) }

module _ (d : Tree) (top : ℕ) (s : Falling d top) (x : ℕ) where
  fuel_suc : (j k y : ℕ) → ((z : ℕ) → z ≤ j → z ≤ k → z ≤ top → climbs d j x z ≡ climbs d k x z) → y ≤ suc j → y ≤ suc k → y ≤ top → climbs d (suc j) x y ≡ climbs d (suc k) x y
  unfolding climbs
  fuel_suc j k zero ih a b l = refl
  fuel_suc j k (suc y) ih a b l =
      let h : d.parent (suc y) < suc y = s.falls (suc y) (omega arith) l in
      rw (ih (d.parent (suc y)) (omega arith) (omega arith) (omega arith))

  -- fuel beyond the node's number makes no difference
  fuel : (j k y : ℕ) → y ≤ j → y ≤ k → y ≤ top → climbs d j x y ≡ climbs d k x y
  unfolding climbs
  fuel zero zero y a b l = refl
  fuel zero (suc k) y a b l = rw (le-ltb 0 y a)
  fuel (suc j) zero y a b l = rw (le-ltb 0 y b)
  fuel (suc j) (suc k) y a b l = fuel_suc j k y (λ z p q r. fuel j k z p q r) a b l

  step_from : (n y : ℕ) → 0 < y → y < n → y ≤ top → climbs d n x y ≡ (eqb (d.parent y) x || climbs d n x (d.parent y))
  unfolding climbs
  step_from zero y p l t = absurd (not-suc-le-zero l)
  step_from (suc m) y p l t =
      let h : d.parent y < y = s.falls y p t in
      rw (lt-ltb 0 y p, fuel m (suc m) (d.parent y) (omega arith) (omega arith) (omega arith))

  -- a descendant by its parent
  pub descendant_step : (y : ℕ) → 0 < y → y < d.size → y ≤ top → descendant d x y ≡ (eqb (d.parent y) x || descendant d x (d.parent y))
  unfolding descendant
  descendant_step y p l t = step_from d.size y p l t

  -- an ancestor comes before its node
  climbs_lower : (k y : ℕ) → y ≤ top → climbs d k x y ≡ true → x < y
  unfolding climbs
  climbs_lower zero y t h = no_yes refl h
  climbs_lower (suc k) y t h =
      let p : 0 < y = ltb-true 0 y (yes_left (ltb 0 y) (eqb (d.parent y) x || climbs d k x (d.parent y)) h) in
      let f : d.parent y < y = s.falls y p t in
      ⊎_elim (λ a. let e : d.parent y ≡ x = eqb-true (d.parent y) x a in omega arith) (λ a. let w : x < d.parent y = climbs_lower k (d.parent y) (omega arith) a in omega arith)
      (or_cases (eqb (d.parent y) x) (climbs d k x (d.parent y)) (yes_right (ltb 0 y) (eqb (d.parent y) x || climbs d k x (d.parent y)) h))

  pub descendant_lower : (y : ℕ) → y ≤ top → descendant d x y ≡ true → x < y
  unfolding descendant
  descendant_lower y t h = climbs_lower d.size y t h

-- an ancestor comes before its node, in a sound tree
pub descendant_after : (t : Tree) → Sound t → (x y : ℕ) → y < t.size → descendant t x y ≡ true → x < y
descendant_after t s x y l h = descendant_lower t y (sound_falling t y s l) x y (omega arith) h

pub eqb_comm : (x y : ℕ) → eqb x y ≡ eqb y x
eqb_comm x y = bool_ext (eqb x y) (eqb y x) (λ p. eq-eqb y x (sym (eqb-true x y p))) (λ p. eq-eqb x y (sym (eqb-true y x p)))

-- for the reader: the axes by their codes, in document 01's words; the even ones are the converses, below

module _ (t : Tree) where
  -- 0, self: x itself
  pub self_axis : (x y : ℕ) → (axis t 0 x y ≡ true) ↔ (x ≡ y)
  unfolding axis
  self_axis x y = eqb_says x y

  -- 1, child: y's parent is x
  pub child_axis : (x y : ℕ) → (axis t 1 x y ≡ true) ↔ ((0 < y) × (t.parent y ≡ x))
  unfolding axis child
  child_axis x y = and_says (ltb 0 y) (eqb (t.parent y) x) (ltb_says 0 y) (eqb_says (t.parent y) x)

  sibling_parts : (x y : ℕ) → (axis t 9 x y ≡ true) ↔ ((0 < x) × ((x < y) × (t.parent x ≡ t.parent y)))
  unfolding axis following_sibling
  sibling_parts x y =
      and_says (ltb 0 x) (ltb x y && eqb (t.parent x) (t.parent y)) (ltb_says 0 x)
      (and_says (ltb x y) (eqb (t.parent x) (t.parent y)) (ltb_says x y) (eqb_says (t.parent x) (t.parent y)))

  -- 9, following-sibling: a later node with the same parent
  pub sibling_axis : (x y : ℕ) → (axis t 9 x y ≡ true) ↔ ((x < y) × ((p : ℕ) × (axis t 1 p x ≡ true) × (axis t 1 p y ≡ true)))
  sibling_axis x y = (
    λ h.
        let (z, (l, e)) = (sibling_parts x y).0 h in
        (l, (t.parent x, (child_axis (t.parent x) x).1 (z, refl), (child_axis (t.parent x) y).1 (omega arith, sym e))),
    λ w.
        let (l, (p, a, b)) = w in
        let (z, e) = (child_axis p x).0 a in
        (sibling_parts x y).1 (z, (l, e ∙ sym ((child_axis p y).0 b).1)),
  )

  -- of two later siblings, the later is one of the earlier
  sibling_between : (x y z : ℕ) → axis t 9 x y ≡ true → axis t 9 x z ≡ true → z < y → axis t 9 z y ≡ true
  sibling_between x y z a b l =
      let u = (sibling_parts x y).0 a in
      let (h, (m, e)) = (sibling_parts x z).0 b in
      (sibling_parts z y).1 (omega arith, (l, sym e ∙ u.1.1))

  -- 3, right: the one next sibling, which is a following one that none comes before
  pub right_axis : (x y : ℕ) → (axis t 3 x y ≡ true) ↔ ((axis t 9 x y ≡ true) × ((z : ℕ) → z < t.size → axis t 9 x z ≡ true → y ≤ z))
  unfolding axis right
  right_axis x y = (
    λ h.
        let (a, n) = (and_says (following_sibling t x y) (not between) Iff.rfl (not_says between)).0 h in
        (a, λ z l k. first z l k a n (seen (ltb z y))),
    λ w.
        both_yes w.0
        (rw (not_yes between (λ h. let (z, l, a, b) = (any_both t.size (following_sibling t x) (λ z. following_sibling t z y)).0 h in omega (arith, w.1 z l a, ((sibling_parts z y).0 b).1.0)))),
  )
    where
      between : Bool
      between = any t.size (λ z. following_sibling t x z && following_sibling t z y)

      first : (z : ℕ) → z < t.size → axis t 9 x z ≡ true → axis t 9 x y ≡ true → between ≡ false → Seen (ltb z y) → y ≤ z
      first z l k a n (no! e) = ltb-false z y e
      first z l k a n (yes! e) =
          no_yes n (any_intro t.size (λ z. following_sibling t x z && following_sibling t z y) z l (both_yes k (sibling_between x y z a k (ltb-true z y e))))

  descendant_parent : Sound t → (x y : ℕ) → 0 < y → y < t.size → descendant t x y ≡ descendant_or_self t x (t.parent y)
  unfolding descendant_or_self
  descendant_parent s x y p l = descendant_step t y (sound_falling t y s l) x y p l (omega arith) ∙ rw (eqb_comm (t.parent y) x)

  -- 5, descendant: y's parent is x or a descendant of x
  pub descendant_axis : Sound t → (x y : ℕ) → y < t.size → (axis t 5 x y ≡ true) ↔ ((z : ℕ) × (axis t 1 z y ≡ true) × (axis t 11 x z ≡ true))
  unfolding axis
  descendant_axis s x y l = (down (seen (ltb 0 y)), up)
    where
      down : Seen (ltb 0 y) → axis t 5 x y ≡ true → (z : ℕ) × (axis t 1 z y ≡ true) × (axis t 11 x z ≡ true)
      down (yes! p) h = (t.parent y, (child_axis (t.parent y) y).1 (ltb-true 0 y p, refl), sym (descendant_parent s x y (ltb-true 0 y p) l) ∙ h)
      down (no! p) h = no_yes (rw (let e : y ≡ 0 = omega (arith, ltb-false 0 y p) in e) (descendant_zero t x)) h

      up : (z : ℕ) × (axis t 1 z y ≡ true) × (axis t 11 x z ≡ true) → axis t 5 x y ≡ true
      up (z, a, b) = let u = (child_axis z y).0 a in descendant_parent s x y u.0 l ∙ rw u.1 b

  -- 11, descendant-or-self: x itself or a descendant
  pub descendant_or_self_axis : (x y : ℕ) → (axis t 11 x y ≡ true) ↔ ((x ≡ y) ⊎ (axis t 5 x y ≡ true))
  unfolding axis descendant_or_self
  descendant_or_self_axis x y = or_says (self t x y) (descendant t x y) (eqb_says x y) Iff.rfl

  -- 7, following: every later node that is no descendant
  pub following_axis : (x y : ℕ) → (axis t 7 x y ≡ true) ↔ ((x < y) × (axis t 5 x y ≡ false))
  unfolding axis following
  following_axis x y = and_says (ltb x y) (not (descendant t x y)) (ltb_says x y) (not_says (descendant t x y))

-- for the reader: self is its own converse
pub self_converse : (t : Tree) (x y : ℕ) → axis t 0 x y ≡ axis t 0 y x
unfolding axis
self_converse t x y = eqb_comm x y

-- for the reader: each even axis but self is the converse of the odd one before it
pub axis_converse : (t : Tree) (h x y : ℕ) → h < 6 → axis t (2 * h + 2) x y ≡ axis t (2 * h + 1) y x
unfolding axis following preceding descendant_or_self ancestor_or_self
axis_converse t zero x y l = refl
axis_converse t (suc zero) x y l = refl
axis_converse t (suc (suc zero)) x y l = refl
axis_converse t (suc (suc (suc zero))) x y l = refl
axis_converse t (suc (suc (suc (suc zero)))) x y l = refl
axis_converse t (suc (suc (suc (suc (suc zero))))) x y l = rw (eqb_comm x y)
axis_converse t (suc (suc (suc (suc (suc (suc h)))))) x y l = absurd (not-suc-le-zero (let g : 1 ≤ 0 = omega arith in g))

module _ (t : Tree) (s : Sound t) where
  not_down : (x y : ℕ) → y < t.size → y ≤ x → descendant t x y ≡ false
  not_down x y l h = not_yes (descendant t x y) (λ p. absurd (not-suc-le-zero (let w : x < y = descendant_after t s x y l p in let g : 1 ≤ 0 = omega arith in g)))

  -- from every node of a sound tree, each node is on exactly one of self, ancestor, descendant, following, preceding
  pub five_axes : (x y : ℕ) → x < t.size → y < t.size
      → bit (self t x y) + (bit (ancestor t x y) + (bit (descendant t x y) + (bit (following t x y) + bit (preceding t x y)))) ≡ 1
  unfolding following preceding
  five_axes x y lx ly = go (seen (ltb x y)) (seen (ltb y x))
    where
      go : Seen (ltb x y) → Seen (ltb y x)
          → bit (eqb x y) + (bit (descendant t y x) + (bit (descendant t x y) + (bit (ltb x y && not (descendant t x y)) + bit (ltb y x && not (descendant t y x))))) ≡ 1
      go (yes! p) q =
          let l : x < y = ltb-true x y p in
          rw (ne_eqb x y (λ e. absurd (not-suc-le-zero (let g : 1 ≤ 0 = omega arith in g))), not_down y x lx (omega arith), p, le-ltb y x (omega arith)) (one (descendant t x y))
        where
          one : (b : Bool) → 0 + (0 + (bit b + (bit (not b) + 0))) ≡ 1
          one true = refl
          one false = refl
      go (no! p) (yes! q) =
          let l : y < x = ltb-true y x q in
          rw (ne_eqb x y (λ e. absurd (not-suc-le-zero (let g : 1 ≤ 0 = omega arith in g))), not_down x y ly (omega arith), p, q) (one (descendant t y x))
        where
          one : (b : Bool) → 0 + (bit b + (0 + (0 + bit (not b)))) ≡ 1
          one true = refl
          one false = refl
      go (no! p) (no! q) =
          let a : y ≤ x = ltb-false x y p in
          let b : x ≤ y = ltb-false y x q in
          rw (eq-eqb x y (omega arith), not_down y x lx b, not_down x y ly a, p, q)
