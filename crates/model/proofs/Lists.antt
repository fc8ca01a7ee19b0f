-- Laws of lists of numbers.
use Prim.Native.Nat.{ℕ}
use mathlib.Core.Path.{◌≡◌, refl, ap₂}
use mathlib.Core.Bool.{true}
use mathlib.Core.List.{List, [], ◌∷◌}
use lib.Dec.{eqb}
use borrow.Author.Tests.{eqb-true, eq-eqb}
use Rattle.model.specs.Lists.{equal}
use Rattle.model.proofs.Booleans.{no_yes, both_yes, yes_left, yes_right}

-- lists that pass the test are equal
pub equal_is : (a b : List ℕ) → equal a b ≡ true → a ≡ b
unfolding equal
equal_is [] [] h = refl
equal_is [] (y ∷ b) h = no_yes refl h
equal_is (x ∷ a) [] h = no_yes refl h
equal_is (x ∷ a) (y ∷ b) h = ap₂ ◌∷◌ (eqb-true x y (yes_left (eqb x y) (equal a b) h)) (equal_is a b (yes_right (eqb x y) (equal a b) h))

-- a list passes with itself
pub equal_own : (a : List ℕ) → equal a a ≡ true
unfolding equal
equal_own [] = refl
equal_own (x ∷ a) = both_yes (eq-eqb x x refl) (equal_own a)
