-- Laws of the search by halves in a rising list.
use Prim.Native.Nat.{ℕ, ◌+◌, ◌-◌, ◌/◌, ◌≤◌, ◌<◌}
use native.Mathlib.Nat.{eq-or-lt_of_le}
use native.Mathlib.Omega.{arith}
use mathlib.Core.Path.{◌≡◌, ap, ◌∙◌}
use mathlib.Core.Logic.{⊎_elim}
use mathlib.Core.Bool.{Bool, true, false, cond}
use mathlib.Core.List.{List}
use lib.ListN.{length, get_or}
use lib.Dec.{ltb}
use borrow.Author.Tests.{ltb-true, ltb-false}
use Rattle.model.proofs.Booleans.{Seen, yes!, no!, seen, lt_or_le}
use Rattle.index.specs.Parts.{Rising, Holds}

-- the number is in the list, from low on and below high
pub record Within (list : List ℕ) (g low high : ℕ) : Type 0 where
  pub rising : Rising list
  pub holds : Holds list g
  pub some : low < high
  pub most : high ≤ length list
  pub between : (k : ℕ) → k < length list → get_or list k 0 ≡ g → (low ≤ k) × (k < high)

module _ (list : List ℕ) (g : ℕ) where
  pub within_start : Rising list → Holds list g → Within list g 0 (length list)
  within_start r h = record { rising = r; holds = h; some = let l = h.within in omega arith; most = omega arith; between = λ k l e. (omega arith, l) }

  -- a later place has a number that is no less
  no_less : Rising list → (i j : ℕ) → i ≤ j → j < length list → get_or list i 0 ≤ get_or list j 0
  no_less r i j l m = ⊎_elim (λ e. omega (arith, ap (λ (k : ℕ). get_or list k 0) e)) (λ h. let w = r.rises i j h m in omega arith) (eq-or-lt_of_le l)

  module _ (low high middle : ℕ) (w : Within list g low high) (wide : 1 < high - low) (half : middle ≡ low + (high - low) / 2) where
    pub middle_fits : middle < length list
    middle_fits = let m = w.most in omega arith

    lower : g < get_or list middle 0 → Within list g low middle
    lower l = record {
      rising = w.rising;
      holds = w.holds;
      some = omega arith;
      most = let m = w.most in omega arith;
      between = λ k m e. let (a, b) = w.between k m e in (a, ⊎_elim (λ q. q) (λ q. let z = no_less w.rising middle k q m in absurd (omega arith)) (lt_or_le k middle));
    }

    upper : get_or list middle 0 ≤ g → Within list g middle high
    upper l = record {
      rising = w.rising;
      holds = w.holds;
      some = omega arith;
      most = w.most;
      between = λ k m e. let (a, b) = w.between k m e in (⊎_elim (λ q. let z = w.rising.rises k middle q middle_fits in absurd (omega arith)) (λ q. q) (lt_or_le k middle), b);
    }

    module _ (above : Bool) (low' high' : ℕ) (test : above ≡ ltb g (get_or list middle 0)) (l : low' ≡ cond above low middle) (h : high' ≡ cond above middle high) where
      pub within_next : Within list g low' high'
      within_next = rw (l, h, test) (at (seen (ltb g (get_or list middle 0))))
        where
          at : Seen (ltb g (get_or list middle 0)) → Within list g (cond (ltb g (get_or list middle 0)) low middle) (cond (ltb g (get_or list middle 0)) middle high)
          at (yes! p) = rw p (lower (ltb-true g (get_or list middle 0) p))
          at (no! p) = rw p (upper (ltb-false g (get_or list middle 0) p))

      pub within_less : high' - low' < high - low
      within_less = rw (l, h) (at above)
        where
          at : (b : Bool) → cond b middle high - cond b low middle < high - low
          at true = omega arith
          at false = omega arith

  module _ (low high : ℕ) (w : Within list g low high) (narrow : high - low ≤ 1) where
    pub within_place : low < length list
    within_place = let s = w.some in let m = w.most in omega arith

    pub within_there : get_or list low 0 ≡ g
    within_there =
        let (a, b) = w.between w.holds.place w.holds.within w.holds.there in
        let s = w.some in
        ap (λ (k : ℕ). get_or list k 0) (let e : low ≡ w.holds.place = omega arith in e) ∙ w.holds.there
