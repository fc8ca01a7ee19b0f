-- The bytes of a name, by ranges.
use Prim.Native.Nat.{ℕ, zero, suc, ◌+◌, ◌≤◌, ◌<◌}
use native.Mathlib.Omega.{arith}
use mathlib.Core.Path.{◌≡◌, refl, sym, ap, ap₂, ◌∙◌}
use mathlib.Core.Bool.{Bool, true, false, ◌&&◌, ◌||◌, or_assoc}
use mathlib.Core.List.{List, [], ◌∷◌, ◌++◌}
use lib.Dec.{leb, ltb, eqb}
use borrow.Author.Tests.{eqb-true, ltb-true, lt-ltb, leb-true, le-leb}
use Rattle.model.proofs.Booleans.{Seen, yes!, no!, seen, no_yes, bool_ext, both_yes, yes_left, yes_right, or_left, or_right, or_cases}
use Rattle.grammar.specs.Grammar.{elem, from, name_bytes, ascii}

elem_append : (x : ℕ) (l m : List ℕ) → elem x (l ++ m) ≡ (elem x l || elem x m)
unfolding elem
elem_append x [] m = refl
elem_append x (y ∷ l) m = ap (λ (b : Bool). eqb x y || b) (elem_append x l m) ∙ sym (or_assoc (eqb x y) (elem x l) (elem x m))

pub elem_from : (x k n : ℕ) → elem x (from k n) ≡ (leb k x && ltb x (k + n))
unfolding elem
elem_from x k zero = sym (bool_ext (leb k x && ltb x (k + 0)) false (λ h. absurd (let a = leb-true k x (yes_left (leb k x) (ltb x (k + 0)) h) in let b = ltb-true x (k + 0) (yes_right (leb k x) (ltb x (k + 0)) h) in omega arith)) (λ h. no_yes refl h))
elem_from x k (suc n) =
    ap (λ (b : Bool). eqb x k || b) (elem_from x (suc k) n) ∙ one
  where
    one : (eqb x k || (leb (suc k) x && ltb x (suc k + n))) ≡ (leb k x && ltb x (k + suc n))
    one =
        bool_ext (eqb x k || (leb (suc k) x && ltb x (suc k + n))) (leb k x && ltb x (k + suc n))
        (λ h. mathlib.Core.Logic.⊎_elim
        (λ p. let e = eqb-true x k p in both_yes (le-leb k x (omega arith)) (lt-ltb x (k + suc n) (omega arith)))
        (λ p. let a = leb-true (suc k) x (yes_left (leb (suc k) x) (ltb x (suc k + n)) p) in let b = ltb-true x (suc k + n) (yes_right (leb (suc k) x) (ltb x (suc k + n)) p) in both_yes (le-leb k x (omega arith)) (lt-ltb x (k + suc n) (omega arith)))
        (or_cases (eqb x k) (leb (suc k) x && ltb x (suc k + n)) h))
        (λ h. let a = leb-true k x (yes_left (leb k x) (ltb x (k + suc n)) h) in let b = ltb-true x (k + suc n) (yes_right (leb k x) (ltb x (k + suc n)) h) in
        back a b (seen (eqb x k)))
      where
        back : k ≤ x → x < k + suc n → Seen (eqb x k) → (eqb x k || (leb (suc k) x && ltb x (suc k + n))) ≡ true
        back a b (yes! p) = or_left (eqb x k) (leb (suc k) x && ltb x (suc k + n)) p
        back a b (no! p) =
            let d : x ≡ k → ⊥ = borrow.Author.Tests.eqb-false x k p in
            or_right (eqb x k) (leb (suc k) x && ltb x (suc k + n)) (both_yes (le-leb (suc k) x (omega arith)) (lt-ltb x (suc k + n) (omega arith)))

name_byte : (b : ℕ) → ((leb 97 b && ltb b 123) || ((leb 65 b && ltb b 91) || ((leb 48 b && ltb b 58) || (eqb b 45 || eqb b 95)))) ≡ elem b name_bytes
unfolding name_bytes elem
name_byte b =
    sym (elem_append b (from 97 26) (from 65 26 ++ (from 48 10 ++ ascii "-_"))
    ∙ ap₂ ◌||◌ (elem_from b 97 26) (elem_append b (from 65 26) (from 48 10 ++ ascii "-_")
    ∙ ap₂ ◌||◌ (elem_from b 65 26) (elem_append b (from 48 10) (ascii "-_")
    ∙ ap₂ ◌||◌ (elem_from b 48 10) (ends (eqb b 45) (eqb b 95)))))
  where
    ends : (p q : Bool) → (p || (q || false)) ≡ (p || q)
    ends true q = refl
    ends false true = refl
    ends false false = refl

-- the same by the last of each range
pub name_byte_within : (b : ℕ) → ((leb 97 b && leb b 122) || ((leb 65 b && leb b 90) || ((leb 48 b && leb b 57) || (eqb b 45 || eqb b 95)))) ≡ elem b name_bytes
name_byte_within b = rw (below b 122, below b 90, below b 57) (name_byte b)
  where
    below : (x k : ℕ) → leb x k ≡ ltb x (suc k)
    below x k =
        bool_ext (leb x k) (ltb x (suc k)) (λ h. let l = leb-true x k h in lt-ltb x (suc k) (omega arith)) (λ h. let l = ltb-true x (suc k) h in le-leb x k (omega arith))
