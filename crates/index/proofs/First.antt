-- Laws of the first node from a place on that has a tag.
use Prim.Native.Nat.{ℕ, suc, ◌≤◌, ◌<◌}
use native.Mathlib.Nat.{eq-or-lt_of_le}
use native.Mathlib.Omega.{arith}
use mathlib.Core.Path.{◌≡◌, refl, sym, ◌∙◌}
use mathlib.Core.Logic.{⊎_elim}
use mathlib.Core.Bool.{true, false, not, cond}
use lib.Dec.{ltb, eqb}
use borrow.Author.Tests.{ltb-false, le-ltb, eqb-true, eq-eqb, not-true}
use Rattle.model.specs.Sets.{any}
use Rattle.model.specs.Tree.{Tree}
use Rattle.model.specs.Refusals.{lowest}
use Rattle.model.proofs.Booleans.{Seen, yes!, no!, seen, no_yes, yes_left, yes_right, not_yes}
use Rattle.model.proofs.Exists.{any_intro, any_never, none_of, lowest_at, lowest_less, lowest_bad, none_lower}
use Rattle.index.specs.Index.{has_from, first_from}

module _ (t : Tree) (g : ℕ) where
  pub from_yes : (x y : ℕ) → x ≤ y → t.tag y ≡ g → has_from t g x y ≡ true
  unfolding has_from
  from_yes x y l e = rw (le-ltb y x l, eq-eqb (t.tag y) g e)

  pub from_is : (x y : ℕ) → has_from t g x y ≡ true → (x ≤ y) × (t.tag y ≡ g)
  unfolding has_from
  from_is x y h =
      (ltb-false y x (not-true (ltb y x) (yes_left (not (ltb y x)) (eqb (t.tag y) g) h)), eqb-true (t.tag y) g (yes_right (not (ltb y x)) (eqb (t.tag y) g) h))

  pub from_no : (x y : ℕ) → (t.tag y ≡ g → ⊥) → has_from t g x y ≡ false
  from_no x y ne = not_yes (has_from t g x y) (λ h. ne (from_is x y h).1)

  pub from_early : (x y : ℕ) → y < x → has_from t g x y ≡ false
  from_early x y l = not_yes (has_from t g x y) (λ h. let m : x ≤ y = (from_is x y h).0 in absurd (omega arith))

  -- the first is y where y has the tag and none from x on does before it
  pub first_at : (x y : ℕ) → any y (has_from t g x) ≡ false → has_from t g x y ≡ true → y < t.size → first_from t g x ≡ y
  unfolding first_from
  first_at x y p q l = rw (any_intro t.size (has_from t g x) y l q, lowest_at t.size y (has_from t g x) p q l)

  pub first_none : (x : ℕ) → any t.size (has_from t g x) ≡ false → first_from t g x ≡ 65535
  unfolding first_from
  first_none x p = rw p

  -- y is the first node from x on that has the tag, or 65535 where none has it
  pub data First (x y : ℕ) : Type 0 where
    node! : x ≤ y → y < t.size → t.tag y ≡ g → ((z : ℕ) → x ≤ z → z < y → t.tag z ≡ g → ⊥) → First x y
    none! : y ≡ 65535 → ((z : ℕ) → x ≤ z → z < t.size → t.tag z ≡ g → ⊥) → First x y

  no_one : (n x z : ℕ) → any n (has_from t g x) ≡ false → z < n → x ≤ z → t.tag z ≡ g → ⊥
  no_one n x z p l m e = no_yes (none_of n (has_from t g x) z p l) (from_yes x z m e)

  -- for the reader: it is the first node from x on that has the tag, or 65535 where there is none
  pub first_is : (x : ℕ) → First x (first_from t g x)
  unfolding first_from
  first_is x = go (seen (any t.size (has_from t g x)))
    where
      go : Seen (any t.size (has_from t g x)) → First x (cond (any t.size (has_from t g x)) (lowest t.size (has_from t g x)) 65535)
      go (yes! p) =
          rw p
          (let w = from_is x (lowest t.size (has_from t g x)) (lowest_bad t.size (has_from t g x) p) in
          node! w.0 (lowest_less t.size (has_from t g x) p) w.1 (λ z m l e. no_one (lowest t.size (has_from t g x)) x z (none_lower t.size (has_from t g x)) l m e))
      go (no! p) = rw p (none! refl (λ z m l e. no_one t.size x z p l m e))

  -- none has the tag from x on and below n
  none_from : (n x : ℕ) → ((z : ℕ) → x ≤ z → z < n → t.tag z ≡ g → ⊥) → any n (has_from t g x) ≡ false
  none_from n x h = any_never n (has_from t g x) (λ z k. not_yes (has_from t g x z) (λ q. let w = from_is x z q in h z w.0 k w.1))

  -- and it is the only such number
  pub first_only : (x y : ℕ) → First x y → first_from t g x ≡ y
  first_only x y (node! m l e h) = first_at x y (none_from y x h) (from_yes x y m e) l
  first_only x y (none! e h) = first_none x (none_from t.size x h) ∙ sym e

  -- a step of the search

  -- a node that has the tag comes after x, where x has another
  pub after_other : (x z : ℕ) → (t.tag x ≡ g → ⊥) → x ≤ z → t.tag z ≡ g → suc x ≤ z
  after_other x z ne m e = ⊎_elim (λ q. absurd (ne (rw q e))) (λ q. q) (eq-or-lt_of_le m)

  pub first_here : (x : ℕ) → x < t.size → t.tag x ≡ g → first_from t g x ≡ x
  first_here x l e = first_only x x (node! (omega arith) l e (λ z m k q. absurd (omega arith)))

  pub first_next : (x : ℕ) → (t.tag x ≡ g → ⊥) → first_from t g x ≡ first_from t g (suc x)
  first_next x ne = first_only x (first_from t g (suc x)) (go (first_from t g (suc x)) (first_is (suc x)))
    where
      go : (y : ℕ) → First (suc x) y → First x y
      go y (node! m l e h) = node! (omega arith) l e (λ z k j q. h z (after_other x z ne k q) j q)
      go y (none! e h) = none! e (λ z k j q. h z (after_other x z ne k q) j q)

  pub first_past : (x : ℕ) → t.size ≤ x → first_from t g x ≡ 65535
  first_past x l = first_only x 65535 (none! refl (λ z m k e. absurd (omega arith)))
