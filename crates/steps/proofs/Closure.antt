-- Laws of moves along a link: one hop, one or more, none or more.
use Prim.Native.Nat.{ℕ, zero, suc, ◌≤◌, ◌<◌}
use native.Mathlib.Omega.{arith}
use mathlib.Core.Path.{◌≡◌, refl, sym, ap, ◌∙◌}
use mathlib.Core.Logic.{◌⊎◌, inl, inr, ⊎_elim}
use mathlib.Core.Bool.{Bool, true, false, ◌&&◌, ◌||◌}
use lib.Dec.{ltb, eqb}
use borrow.Author.Tests.{ltb-true, lt-ltb, le-ltb, eq-eqb, eqb-true}
use Rattle.model.proofs.Booleans.{Seen, yes!, no!, seen, no_yes, both_yes, yes_left, yes_right, or_left, or_right, or_cases}
use Rattle.steps.specs.Moves.{hop, hops, plus, star, along}

module _ (L : ℕ → ℕ) where
  -- one hop

  pub hop_of : (x y : ℕ) → L y < y → L y ≡ x → hop L x y ≡ true
  unfolding hop
  hop_of x y l e = both_yes (lt-ltb (L y) y l) (eq-eqb (L y) x e)

  pub hop_falls : (x y : ℕ) → hop L x y ≡ true → L y < y
  unfolding hop
  hop_falls x y h = ltb-true (L y) y (yes_left (ltb (L y) y) (eqb (L y) x) h)

  pub hop_is : (x y : ℕ) → hop L x y ≡ true → L y ≡ x
  unfolding hop
  hop_is x y h = eqb-true (L y) x (yes_right (ltb (L y) y) (eqb (L y) x) h)

  -- one hop or more

  guard : (y : ℕ) (a b : Bool) → (L y < y → a ≡ b) → (ltb (L y) y && a) ≡ (ltb (L y) y && b)
  guard y a b h = go (seen (ltb (L y) y))
    where
      go : Seen (ltb (L y) y) → (ltb (L y) y && a) ≡ (ltb (L y) y && b)
      go (yes! p) = rw (h (ltb-true (L y) y p))
      go (no! p) = rw p

  stuck : (y : ℕ) (a : Bool) → y ≤ 0 → (ltb (L y) y && a) ≡ false
  stuck y a h = rw (le-ltb (L y) y (omega arith))

  -- a relation whose pairs come by a last hop is that of at most k hops, up to k
  unique : (n : ℕ) (R : ℕ → ℕ → Bool) → ((x y : ℕ) → y < n → R x y ≡ (ltb (L y) y && (eqb (L y) x || R x (L y)))) → (k x y : ℕ) → y ≤ k → y < n → R x y ≡ hops L k x y
  unfolding hops
  unique n R h zero x y a l = h x y l ∙ stuck y (eqb (L y) x || R x (L y)) a
  unique n R h (suc k) x y a l =
      h x y l ∙ guard y (eqb (L y) x || R x (L y)) (eqb (L y) x || hops L k x (L y)) (λ q. ap (λ (b : Bool). eqb (L y) x || b) (unique n R h k x (L y) (omega arith) (omega arith)))

  -- and so it is the closure
  pub plus_unique : (n : ℕ) (R : ℕ → ℕ → Bool) → ((x y : ℕ) → y < n → R x y ≡ (ltb (L y) y && (eqb (L y) x || R x (L y)))) → (x y : ℕ) → y < n → R x y ≡ plus L x y
  unfolding plus
  plus_unique n R h x y l = unique n R h y x y (omega arith) l

  -- hops beyond the node's number make no difference
  fuel : (j k x y : ℕ) → y ≤ j → y ≤ k → hops L j x y ≡ hops L k x y
  unfolding hops
  fuel zero zero x y a b = refl
  fuel zero (suc k) x y a b = sym (stuck y (eqb (L y) x || hops L k x (L y)) a)
  fuel (suc j) zero x y a b = stuck y (eqb (L y) x || hops L j x (L y)) b
  fuel (suc j) (suc k) x y a b =
      guard y (eqb (L y) x || hops L j x (L y)) (eqb (L y) x || hops L k x (L y)) (λ q. ap (λ (b : Bool). eqb (L y) x || b) (fuel j k x (L y) (omega arith) (omega arith)))

  plus_step : (x y : ℕ) → plus L x y ≡ (ltb (L y) y && (eqb (L y) x || plus L x (L y)))
  unfolding plus hops
  plus_step x zero = sym (stuck 0 (eqb (L 0) x || hops L (L 0) x (L 0)) (omega arith))
  plus_step x (suc m) =
      guard (suc m) (eqb (L (suc m)) x || hops L m x (L (suc m))) (eqb (L (suc m)) x || hops L (L (suc m)) x (L (suc m)))
      (λ q. ap (λ (b : Bool). eqb (L (suc m)) x || b) (fuel m (L (suc m)) x (L (suc m)) (omega arith) (omega arith)))

  pub plus_falls : (x y : ℕ) → plus L x y ≡ true → L y < y
  plus_falls x y h = ltb-true (L y) y (yes_left (ltb (L y) y) (eqb (L y) x || plus L x (L y)) (sym (plus_step x y) ∙ h))

  pub plus_cases : (x y : ℕ) → plus L x y ≡ true → (L y ≡ x) ⊎ (plus L x (L y) ≡ true)
  plus_cases x y h =
      ⊎_elim (λ p. inl (eqb-true (L y) x p)) (λ p. inr p)
      (or_cases (eqb (L y) x) (plus L x (L y)) (yes_right (ltb (L y) y) (eqb (L y) x || plus L x (L y)) (sym (plus_step x y) ∙ h)))

  pub plus_one : (x y : ℕ) → L y < y → L y ≡ x → plus L x y ≡ true
  plus_one x y l e = plus_step x y ∙ both_yes (lt-ltb (L y) y l) (or_left (eqb (L y) x) (plus L x (L y)) (eq-eqb (L y) x e))

  pub plus_more : (x y : ℕ) → L y < y → plus L x (L y) ≡ true → plus L x y ≡ true
  plus_more x y l e = plus_step x y ∙ both_yes (lt-ltb (L y) y l) (or_right (eqb (L y) x) (plus L x (L y)) e)

  -- what holds of a path of hops by its last: induction over the node that it ends at
  plus_elim : (P : ℕ → ℕ → Type 0) → ((x y : ℕ) → L y < y → L y ≡ x → P x y) → ((x y : ℕ) → L y < y → P x (L y) → P x y) → (x y : ℕ) → plus L x y ≡ true → P x y
  plus_elim P one more x y h = to y x y (omega arith) h
    where
      to : (k x y : ℕ) → y ≤ k → plus L x y ≡ true → P x y
      to zero x y a h = absurd (let f : L y < y = plus_falls x y h in omega arith)
      to (suc k) x y a h =
          let f : L y < y = plus_falls x y h in
          ⊎_elim (λ e. one x y f e) (λ p. more x y f (to k x (L y) (omega arith) p)) (plus_cases x y h)

  pub plus_lower : (x y : ℕ) → plus L x y ≡ true → x < y
  plus_lower = plus_elim (λ x y. x < y) (λ x y f e. omega arith) (λ x y f h. omega arith)

  pub plus_trans : (x z y : ℕ) → plus L x z ≡ true → plus L z y ≡ true → plus L x y ≡ true
  plus_trans x z y g h = plus_elim (λ z y. plus L x z ≡ true → plus L x y ≡ true) (λ z y f e g. plus_more x y f (ap (plus L x) e ∙ g)) (λ z y f ih g. plus_more x y f (ih g)) z y h g

  -- one hop less
  pub plus_low : (x y : ℕ) → plus L x y ≡ true → x ≤ L y
  plus_low x y h = ⊎_elim (λ e. omega arith) (λ p. let w : x < L y = plus_lower x (L y) p in omega arith) (plus_cases x y h)

  -- none, one or more

  pub star_cases : (x y : ℕ) → star L x y ≡ true → (x ≡ y) ⊎ (plus L x y ≡ true)
  unfolding star
  star_cases x y h = ⊎_elim (λ p. inl (eqb-true x y p)) (λ p. inr p) (or_cases (eqb x y) (plus L x y) h)

  pub star_self : (x : ℕ) → star L x x ≡ true
  unfolding star
  star_self x = or_left (eqb x x) (plus L x x) (eq-eqb x x refl)

  pub star_plus : (x y : ℕ) → plus L x y ≡ true → star L x y ≡ true
  unfolding star
  star_plus x y h = or_right (eqb x y) (plus L x y) h

  -- one hop more
  pub star_more : (x y : ℕ) → L y < y → star L x (L y) ≡ true → star L x y ≡ true
  star_more x y f r = star_plus x y (⊎_elim (λ e. plus_one x y f (sym e)) (λ r. plus_more x y f r) (star_cases x (L y) r))

  pub star_lower : (x y : ℕ) → star L x y ≡ true → x ≤ y
  star_lower x y h = ⊎_elim (λ e. omega arith) (λ p. let w : x < y = plus_lower x y p in omega arith) (star_cases x y h)

  pub plus_star : (x z y : ℕ) → plus L x z ≡ true → star L z y ≡ true → plus L x y ≡ true
  plus_star x z y g h = ⊎_elim (λ e. sym (ap (plus L x) e) ∙ g) (λ p. plus_trans x z y g p) (star_cases z y h)

  -- a path of hops to a later node
  pub star_strict : (x y : ℕ) → star L x y ≡ true → x < y → plus L x y ≡ true
  star_strict x y h l = ⊎_elim (λ e. absurd (omega arith)) (λ p. p) (star_cases x y h)

  -- the hop that ends at x
  pub plus_split : (x y : ℕ) → plus L x y ≡ true → (z : ℕ) × (hop L x z ≡ true) × (star L z y ≡ true)
  plus_split = plus_elim (λ x y. (z : ℕ) × (hop L x z ≡ true) × (star L z y ≡ true))
      (λ x y f e. (y, hop_of x y f e, star_self y))
      (λ x y f w. let (z, q, r) = w in (z, q, star_more z y f r))

  -- one hop, or where closed is set one or more

  pub along_one : (closed : Bool) (x y : ℕ) → hop L x y ≡ true → along closed L x y ≡ true
  along_one true x y h = plus_one x y (hop_falls x y h) (hop_is x y h)
  along_one false x y h = h

  -- one hop, and then more
  pub along_more : (closed : Bool) (x z y : ℕ) → closed ≡ true → hop L x z ≡ true → along closed L z y ≡ true → along closed L x y ≡ true
  along_more true x z y e h q = plus_trans x z y (along_one true x z h) q
  along_more false x z y e h q = no_yes refl e

  -- the hop that ends at x, and where closed is set more from there
  pub along_split : (closed : Bool) (x y : ℕ) → along closed L x y ≡ true → (z : ℕ) × (z ≤ y) × (hop L x z ≡ true) × ((z ≡ y) ⊎ ((closed && along closed L z y) ≡ true))
  along_split true x y h = let (z, q, r) = plus_split x y h in (z, star_lower z y r, q, star_cases z y r)
  along_split false x y h = (y, omega arith, h, inl refl)
