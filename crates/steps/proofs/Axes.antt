-- The axes as moves along two links, parent and previous sibling.
use Prim.Native.Nat.{ℕ, zero, suc, ◌+◌, ◌-◌, ◌*◌, ◌/◌, ◌%◌, ◌≤◌, ◌<◌}
use native.Mathlib.Nat.{eq-or-lt_of_le}
use native.Mathlib.Omega.{arith}
use mathlib.Core.Path.{◌≡◌, refl, sym, ap, ◌∙◌}
use mathlib.Core.Logic.{◌⊎◌, inl, inr, ⊎_elim}
use mathlib.Core.Bool.{true, false, not, ◌&&◌, ◌||◌}
use mathlib.Core.List.{List}
use lib.Dec.{ltb, eqb}
use borrow.Author.Tests.{ltb-true, ltb-false, lt-ltb, eq-eqb, eqb-true, eqb-false, not-true}
use Rattle.model.specs.Sets.{any, turn}
use Rattle.model.specs.Tree.{Tree}
use Rattle.model.specs.Axes.{child, right, descendant, following, following_sibling, descendant_or_self, axis}
use Rattle.model.specs.Accepted.{Sound, Ordered}
use Rattle.model.proofs.Booleans.{Seen, yes!, no!, seen, no_yes, bool_ext, both_yes, yes_left, yes_right, or_left, or_right, or_cases, not_yes, lt_or_le}
use Rattle.model.proofs.Exists.{any_intro, any_elim}
use Rattle.model.proofs.Axes.{sound_falling, descendant_step, descendant_zero, self_converse, axis_converse}
use Rattle.tree.specs.Links.{links, PreviousSiblings}
use Rattle.tree.proofs.Siblings.{sibling_of, sibling_is}
use Rattle.steps.specs.Moves.{hop, plus, star, forward}
use Rattle.steps.proofs.Closure.{hop_of, hop_falls, hop_is, plus_unique, plus_cases, plus_one, plus_more, plus_low, plus_star, plus_split, star_self, star_more, star_lower, star_strict}

-- along parents

module _ (t : Tree) (s : Sound t) where
  -- every node but node 0 has a link
  linked : (y : ℕ) → y < t.size → ltb (t.parent y) y ≡ ltb 0 y
  linked y l = bool_ext (ltb (t.parent y) y) (ltb 0 y)
      (λ p. lt-ltb 0 y (let q : t.parent y < y = ltb-true (t.parent y) y p in omega arith))
      (λ p. lt-ltb (t.parent y) y (s.falls y (ltb-true 0 y p) l))

  pub child_hop : (x y : ℕ) → y < t.size → child t x y ≡ hop t.parent x y
  unfolding child hop
  child_hop x y l = rw (linked y l)

  descendant_by : (x y : ℕ) → y < t.size → descendant t x y ≡ (ltb (t.parent y) y && (eqb (t.parent y) x || descendant t x (t.parent y)))
  descendant_by x y l = go (seen (ltb 0 y))
    where
      go : Seen (ltb 0 y) → descendant t x y ≡ (ltb (t.parent y) y && (eqb (t.parent y) x || descendant t x (t.parent y)))
      go (yes! p) = rw (linked y l, p) (descendant_step t y (sound_falling t y s l) x y (ltb-true 0 y p) l (omega arith))
      go (no! p) = rw (linked y l, p) (ap (descendant t x) (let z : y ≤ 0 = ltb-false 0 y p in let e : y ≡ 0 = omega arith in e) ∙ descendant_zero t x)

  pub descendant_plus : (x y : ℕ) → y < t.size → descendant t x y ≡ plus t.parent x y
  descendant_plus x y l = plus_unique t.parent t.size (descendant t) descendant_by x y l

  pub descendant_star : (x y : ℕ) → y < t.size → descendant_or_self t x y ≡ star t.parent x y
  unfolding descendant_or_self star
  descendant_star x y l = rw (descendant_plus x y l)

-- y follows x: an ancestor of y, or y, is a later sibling of an ancestor of x, or of x
pub record Apart (t : Tree) (x y : ℕ) : Type 0 where
  pub over : ℕ
  pub later : ℕ
  pub up : star t.parent over x ≡ true
  pub along : following_sibling t over later ≡ true
  pub down : star t.parent later y ≡ true

module _ (t : Tree) (o : Ordered t) where
  above : (y : ℕ) → suc y < t.size → star t.parent (t.parent (suc y)) y ≡ true
  above y l = sym (descendant_star t o.sound (t.parent (suc y)) y (omega arith)) ∙ o.rule y l

  -- the descendants of a node stand together, right behind it
  together : (x y z : ℕ) → plus t.parent x z ≡ true → x < y → y ≤ z → z < t.size → plus t.parent x y ≡ true
  together x y zero h a b l = absurd (omega arith)
  together x y (suc m) h a b l =
      ⊎_elim (λ e. ap (plus t.parent x) e ∙ h)
      (λ k. together x y m
      (⊎_elim (λ e. star_strict t.parent x m (sym (ap (λ (k : ℕ). star t.parent k m) e) ∙ above m l) (omega arith)) (λ p. plus_star t.parent x (t.parent (suc m)) m p (above m l)) (plus_cases t.parent x (suc m) h))
      a (omega arith) (omega arith))
      (eq-or-lt_of_le b)

  pub following_of : (x y : ℕ) → x < t.size → y < t.size → Apart t x y → following t x y ≡ true
  unfolding following
  following_of x y lx ly w =
      let (a0, ab, e) = sibling_is t w.over w.later w.along in
      let ax : w.over ≤ x = star_lower t.parent w.over x w.up in
      let by : w.later ≤ y = star_lower t.parent w.later y w.down in
      let fa : t.parent w.over < w.over = o.sound.falls w.over a0 (omega arith) in
      let xb : x < w.later = ⊎_elim (λ h. h)
      (λ (h : w.later ≤ x). absurd (let g : w.over ≤ t.parent w.later = plus_low t.parent w.over w.later (together w.over w.later x (star_strict t.parent w.over x w.up (omega arith)) ab h lx) in omega arith))
      (lt_or_le x w.later) in
      both_yes (lt-ltb x y (omega arith))
      (ap not (not_yes (descendant t x y) (λ h. let g : x ≤ t.parent w.later = plus_low t.parent x w.later (together x w.later y (sym (descendant_plus t o.sound x y ly) ∙ h) xb by ly) in omega arith)))

  -- the reverse, where y's parent is x or before it: an ancestor of x, or x, is a sibling of y
  apart_low : (x y : ℕ) → x < suc y → suc y < t.size → plus t.parent x (suc y) ≡ false → t.parent (suc y) ≤ x → Apart t x (suc y)
  apart_low x y l ly h u = ⊎_elim
      (λ e. no_yes h (plus_one t.parent x (suc y) (o.sound.falls (suc y) (omega arith) ly) e))
      (λ v. let w : plus t.parent (t.parent (suc y)) y ≡ true = star_strict t.parent (t.parent (suc y)) y (above y ly) (omega arith) in
      let (z, q, r) = plus_split t.parent (t.parent (suc y)) x (together (t.parent (suc y)) x y w v (omega arith) (omega arith)) in
      let zx : z ≤ x = star_lower t.parent z x r in
      let zf : t.parent z < z = hop_falls t.parent (t.parent (suc y)) z q in
      record { over = z; later = suc y; up = r; along = sibling_of t z (suc y) (omega arith) (omega arith) (hop_is t.parent (t.parent (suc y)) z q); down = star_self t.parent (suc y) })
      (eq-or-lt_of_le u)

  -- else y's parent follows x too
  apart_to : (k x y : ℕ) → y ≤ k → x < y → y < t.size → plus t.parent x y ≡ false → Apart t x y
  apart_to zero x y m l ly h = absurd (omega arith)
  apart_to (suc k) x zero m l ly h = absurd (omega arith)
  apart_to (suc k) x (suc y) m l ly h =
      let f : t.parent (suc y) < suc y = o.sound.falls (suc y) (omega arith) ly in
      ⊎_elim
      (λ v. let w = apart_to k x (t.parent (suc y)) (omega arith) v (omega arith) (not_yes (plus t.parent x (t.parent (suc y))) (λ p. no_yes h (plus_more t.parent x (suc y) f p))) in
      record { over = w.over; later = w.later; up = w.up; along = w.along; down = star_more t.parent w.later (suc y) f w.down })
      (λ u. apart_low x y l ly h u)
      (lt_or_le x (t.parent (suc y)))

  pub following_is : (x y : ℕ) → y < t.size → following t x y ≡ true → Apart t x y
  unfolding following
  following_is x y ly h =
      apart_to y x y (omega arith) (ltb-true x y (yes_left (ltb x y) (not (descendant t x y)) h)) ly
      (sym (descendant_plus t o.sound x y ly) ∙ not-true (descendant t x y) (yes_right (ltb x y) (not (descendant t x y)) h))

-- along previous siblings

module _ (t : Tree) (prev : List ℕ) (s : PreviousSiblings t t.size prev) where
  before : (y : ℕ) → y < t.size → links prev y < y → following_sibling t (links prev y) y ≡ true
  before y l f = s.before y l (omega arith)

  pub right_hop : (x y : ℕ) → y < t.size → right t x y ≡ hop (links prev) x y
  unfolding right
  right_hop x y l = bool_ext (right t x y) (hop (links prev) x y)
      (λ h. let p : following_sibling t x y ≡ true = yes_left (following_sibling t x y) (not (any t.size (λ z. following_sibling t x z && following_sibling t z y))) h in
      let q : any t.size (λ z. following_sibling t x z && following_sibling t z y) ≡ false = not-true (any t.size (λ z. following_sibling t x z && following_sibling t z y)) (yes_right (following_sibling t x y) (not (any t.size (λ z. following_sibling t x z && following_sibling t z y))) h) in
      let (xv, vy) = s.latest x y l p in
      let (x0, xy, e) = sibling_is t x y p in
      let b : following_sibling t (links prev y) y ≡ true = before y l vy in
      let (v0, vl, f) = sibling_is t (links prev y) y b in
      hop_of (links prev) x y vy (sym (⊎_elim (λ e. e) (λ k. no_yes q (any_intro t.size (λ z. following_sibling t x z && following_sibling t z y) (links prev y) (omega arith) (both_yes (sibling_of t x (links prev y) x0 k (e ∙ sym f)) b))) (eq-or-lt_of_le xv))))
      (λ h. let vy : links prev y < y = hop_falls (links prev) x y h in let e : links prev y ≡ x = hop_is (links prev) x y h in
      both_yes (sym (ap (λ (k : ℕ). following_sibling t k y) e) ∙ before y l vy)
      (ap not (not_yes (any t.size (λ z. following_sibling t x z && following_sibling t z y))
      (λ p. let (z, zl, q) = any_elim t.size (λ z. following_sibling t x z && following_sibling t z y) p in
      let (x0, xz, _) = sibling_is t x z (yes_left (following_sibling t x z) (following_sibling t z y) q) in
      let (zv, _) = s.latest z y l (yes_right (following_sibling t x z) (following_sibling t z y) q) in omega arith))))

  sibling_by : (x y : ℕ) → y < t.size → following_sibling t x y ≡ (ltb (links prev y) y && (eqb (links prev y) x || following_sibling t x (links prev y)))
  sibling_by x y l = bool_ext (following_sibling t x y) (ltb (links prev y) y && (eqb (links prev y) x || following_sibling t x (links prev y)))
      (λ p. let (xv, vy) = s.latest x y l p in
      let (x0, xy, e) = sibling_is t x y p in
      let (v0, vl, f) = sibling_is t (links prev y) y (before y l vy) in
      both_yes (lt-ltb (links prev y) y vy)
      (⊎_elim (λ g. or_left (eqb (links prev y) x) (following_sibling t x (links prev y)) (eq-eqb (links prev y) x (sym g))) (λ k. or_right (eqb (links prev y) x) (following_sibling t x (links prev y)) (sibling_of t x (links prev y) x0 k (e ∙ sym f))) (eq-or-lt_of_le xv)))
      (λ p. let vy : links prev y < y = ltb-true (links prev y) y (yes_left (ltb (links prev y) y) (eqb (links prev y) x || following_sibling t x (links prev y)) p) in
      let b : following_sibling t (links prev y) y ≡ true = before y l vy in
      let (v0, vl, f) = sibling_is t (links prev y) y b in
      ⊎_elim (λ g. sym (ap (λ (k : ℕ). following_sibling t k y) (eqb-true (links prev y) x g)) ∙ b)
      (λ g. let (x0, xv, e) = sibling_is t x (links prev y) g in sibling_of t x y x0 (omega arith) (e ∙ f))
      (or_cases (eqb (links prev y) x) (following_sibling t x (links prev y)) (yes_right (ltb (links prev y) y) (eqb (links prev y) x || following_sibling t x (links prev y)) p)))

  pub sibling_plus : (x y : ℕ) → y < t.size → following_sibling t x y ≡ plus (links prev) x y
  sibling_plus x y l = plus_unique (links prev) t.size (following_sibling t) sibling_by x y l

-- an axis is a forward one, or the converse of one

module _ (t : Tree) (x y : ℕ) where
  odd_forward : (h : ℕ) → h < 6 → axis t (2 * h + 1) x y ≡ forward t (h + 1) x y
  unfolding axis forward
  odd_forward zero l = refl
  odd_forward (suc zero) l = refl
  odd_forward (suc (suc zero)) l = refl
  odd_forward (suc (suc (suc zero))) l = refl
  odd_forward (suc (suc (suc (suc zero)))) l = refl
  odd_forward (suc (suc (suc (suc (suc zero))))) l = refl
  odd_forward (suc (suc (suc (suc (suc (suc h)))))) l = absurd (omega arith)

pub axis_turn_lem : (t : Tree) (a x y : ℕ) → a ≤ 12 → axis t a x y ≡ turn (eqb (a % 2) 0) (forward t ((a + 1) / 2)) x y
unfolding axis forward
axis_turn_lem t a x y l = go (seen (eqb (a % 2) 0))
  where
    even : a % 2 ≡ 0 → (a ≡ 0) ⊎ (0 < a) → axis t a x y ≡ forward t ((a + 1) / 2) y x
    even z (inl e) = ap (λ (k : ℕ). axis t k x y) e ∙ self_converse t x y ∙ ap (λ (k : ℕ). forward t ((k + 1) / 2) y x) (sym e)
    even z (inr p) =
        ap (λ (k : ℕ). axis t k x y) (let e : a ≡ 2 * (a / 2 - 1) + 2 = omega arith in e)
        ∙ axis_converse t (a / 2 - 1) x y (omega arith) ∙ odd_forward t y x (a / 2 - 1) (omega arith)
        ∙ ap (λ (k : ℕ). forward t k y x) (let e : a / 2 - 1 + 1 ≡ (a + 1) / 2 = omega arith in e)

    go : Seen (eqb (a % 2) 0) → axis t a x y ≡ turn (eqb (a % 2) 0) (forward t ((a + 1) / 2)) x y
    go (yes! p) = rw p (even (eqb-true (a % 2) 0 p) (⊎_elim (λ e. inl (sym e)) (λ h. inr h) (eq-or-lt_of_le (let h : 0 ≤ a = omega arith in h))))
    go (no! p) = rw p
        (let f : a % 2 ≡ 0 → ⊥ = eqb-false (a % 2) 0 p in
        ap (λ (k : ℕ). axis t k x y) (let e : a ≡ 2 * (a / 2) + 1 = omega arith in e)
        ∙ odd_forward t x y (a / 2) (omega arith) ∙ ap (λ (k : ℕ). forward t k x y) (let e : a / 2 + 1 ≡ (a + 1) / 2 = omega arith in e))
