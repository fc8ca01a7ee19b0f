-- Laws of Boolean tests.
use Prim.Native.Nat.{ℕ, ◌≤◌, ◌<◌}
use mathlib.Core.Path.{◌≡◌, refl, sym, ◌∙◌}
use mathlib.Core.Logic.{◌⊎◌, ⊎_elim, ◌↔◌}
use mathlib.Core.Bool.{Bool, true, false, not, ◌&&◌, ◌||◌, true≢false}
use lib.Dec.{ltb, eqb}
use borrow.Author.Tests.{not-true, eqb-true, eq-eqb, ltb-true, ltb-false, lt-ltb}

-- a test, with what it came to
pub data Seen (b : Bool) : Type 0 where
  yes! : b ≡ true → Seen b
  no! : b ≡ false → Seen b

pub seen : (b : Bool) → Seen b
seen true = yes! refl
seen false = no! refl

pub no_yes : {a : Bool} {B : Type 0} → a ≡ false → a ≡ true → B
no_yes p q = absurd (true≢false (sym q ∙ p))

pub bool_ext : (a b : Bool) → (a ≡ true → b ≡ true) → (b ≡ true → a ≡ true) → a ≡ b
bool_ext true b f g = sym (f refl)
bool_ext false true f g = g refl
bool_ext false false f g = refl

pub both_yes : {a b : Bool} → a ≡ true → b ≡ true → (a && b) ≡ true
both_yes p q = rw (p, q)

pub yes_left : (a b : Bool) → (a && b) ≡ true → a ≡ true
yes_left true b h = refl
yes_left false b h = h

pub yes_right : (a b : Bool) → (a && b) ≡ true → b ≡ true
yes_right true b h = h
yes_right false b h = no_yes refl h

pub or_left : (a b : Bool) → a ≡ true → (a || b) ≡ true
or_left a b p = rw p

pub or_right : (a b : Bool) → b ≡ true → (a || b) ≡ true
or_right true b p = refl
or_right false b p = p

pub or_cases : (a b : Bool) → (a || b) ≡ true → (a ≡ true) ⊎ (b ≡ true)
or_cases true b h = ◌⊎◌.inl refl
or_cases false b h = ◌⊎◌.inr h

pub not_yes : (b : Bool) → (b ≡ true → ⊥) → b ≡ false
not_yes true h = absurd (h refl)
not_yes false h = refl

-- neither of two tests holds
pub no_or : (a b : Bool) → (a || b) ≡ false → (a ≡ false) × (b ≡ false)
no_or true b h = no_yes h refl
no_or false b h = (refl, h)

-- a guarded test that failed, where the guard holds
pub guarded : (a b : Bool) → (a && b) ≡ false → a ≡ true → b ≡ false
guarded true b h p = h
guarded false b h p = no_yes refl p

-- what a test says

pub and_says : (a b : Bool) {A B : Type 0} → ((a ≡ true) ↔ A) → ((b ≡ true) ↔ B) → ((a && b) ≡ true) ↔ (A × B)
and_says a b h k = (λ p. (h.0 (yes_left a b p), k.0 (yes_right a b p)), λ p. both_yes (h.1 p.0) (k.1 p.1))

pub or_says : (a b : Bool) {A B : Type 0} → ((a ≡ true) ↔ A) → ((b ≡ true) ↔ B) → ((a || b) ≡ true) ↔ (A ⊎ B)
or_says a b h k =
    (λ p. ⊎_elim (λ q. ◌⊎◌.inl (h.0 q)) (λ q. ◌⊎◌.inr (k.0 q)) (or_cases a b p), ⊎_elim (λ q. or_left a b (h.1 q)) (λ q. or_right a b (k.1 q)))

pub not_says : (b : Bool) → (not b ≡ true) ↔ (b ≡ false)
not_says b = (not-true b, λ h. rw h)

pub eqb_says : (x y : ℕ) → (eqb x y ≡ true) ↔ (x ≡ y)
eqb_says x y = (eqb-true x y, eq-eqb x y)

pub ltb_says : (x y : ℕ) → (ltb x y ≡ true) ↔ (x < y)
ltb_says x y = (ltb-true x y, lt-ltb x y)

-- two numbers, by the test that tells them apart
pub lt_or_le : (x y : ℕ) → (x < y) ⊎ (y ≤ x)
lt_or_le x y = go (seen (ltb x y))
  where
    go : Seen (ltb x y) → (x < y) ⊎ (y ≤ x)
    go (yes! p) = ◌⊎◌.inl (ltb-true x y p)
    go (no! p) = ◌⊎◌.inr (ltb-false x y p)
