-- Laws of the loops that write rows to a buffer.
use Prim.Native.Nat.{ℕ, zero, suc, ◌+◌, ◌*◌, ◌/◌, ◌≤◌}
use native.Mathlib.Nat.{add_comm, zero-mul, suc-mul}
use native.Mathlib.Numerals.{add-one}
use native.Mathlib.Omega.{arith}
use mathlib.Core.Path.{◌≡◌, refl, sym, ap, ap₂, ◌∙◌, subst}
use mathlib.Core.Logic.{◌⊎◌}
use mathlib.Core.Bool.{Bool, true, false}
use mathlib.Core.List.{List, [], ◌∷◌, ◌++◌, append_assoc, append-nil, head-eq_of_cons-eq, tail-eq_of_cons-eq}
use lib.ListN.{length, take, drop, length-append, length-drop}
use lib.Seq.{paste, take_all, take_at, drop-append-add, drop-drop}
use Rattle.model.specs.declared.Cursor.{Cursor}
use Rattle.model.specs.Answers.{Row, less, keep}
use Rattle.model.specs.Pages.{after, at_row, moved, flat, some, paged}
use Rattle.model.proofs.Answers.{In, Wide}
use Rattle.std.specs.Prelude.{Some, None}
use Rattle.model.specs.Services.{PageLeaves}
use Rattle.answers.specs.Search.{Spot, row_at, ahead, page_of}
use Rattle.answers.proofs.Paging.{in_take, in_drop, in_after, some_not}

-- one row more

flat_append : (xs ys : List Row) → flat (xs ++ ys) ≡ flat xs ++ flat ys
flat_append [] ys = refl
flat_append (x ∷ xs) ys = rw (flat_append xs ys) (sym (append_assoc x (flat xs) (flat ys)))

pub flat_long : (k : ℕ) (xs : List Row) → Wide k xs → length (flat xs) ≡ length xs * k
flat_long k [] w = sym (zero-mul k)
flat_long k (x ∷ xs) w =
    length-append x (flat xs)
    ∙ rw (suc-mul, w x (◌⊎◌.inl refl), flat_long k xs (λ r i. w r (◌⊎◌.inr i))) (add_comm k (length xs * k))

moved_one : (c : Cursor) (xs : List Row) (r : Row) → moved c (xs ++ (r ∷ [])) ≡ at_row (moved c xs) r
moved_one c [] r = refl
moved_one c (x ∷ xs) r = moved_one (at_row c x) xs r

split_one : (xs : List Row) (j : ℕ) (r : Row) (ys : List Row) → drop j xs ≡ r ∷ ys → (take (suc j) xs ≡ take j xs ++ (r ∷ [])) × (drop (suc j) xs ≡ ys)
split_one [] zero r ys h = let z : ◌≡◌ {A = ℕ} 0 1 = cc in absurd (omega arith)
split_one [] (suc j) r ys h = let z : ◌≡◌ {A = ℕ} 0 1 = cc in absurd (omega arith)
split_one (x ∷ xs) zero r ys h = (ap {B = List Row} (λ z. z ∷ []) (head-eq_of_cons-eq h), tail-eq_of_cons-eq h)
split_one (x ∷ xs) (suc j) r ys h = let w = split_one xs j r ys h in (ap {B = List Row} (λ l. x ∷ l) w.0, w.1)

-- The loop that writes a page of the rows L: so many of the rows after the cursor c stand in the buffer, which was first, and
-- the spot is at the next.

pub record Going (k : ℕ) (L : List Row) (c : Cursor) (first : List ℕ) (at : Spot) (last : Cursor) (count : ℕ) (rows : List ℕ) : Type 0 where
  pub wide : Wide k L
  pub left : ahead k L at ≡ drop count (after k L c)
  pub gone : last ≡ moved c (take count (after k L c))
  pub held : rows ≡ flat (take count (after k L c)) ++ drop (count * k) first
  pub long : length (take count (after k L c)) ≡ count
  pub few : count ≤ length first / k

pub going_start : (k : ℕ) (L : List Row) (c : Cursor) (first : List ℕ) (at : Spot) → ahead k L at ≡ after k L c → Wide k L → Going k L c first at c 0 first
going_start k L c first at e w =
    record {
      wide = w;
      left = e;
      gone = refl;
      held = rw (zero-mul k);
      long = refl;
      few = omega arith;
    }

module _ {k : ℕ} {L : List Row} {c : Cursor} {first : List ℕ} {at : Spot} {last : Cursor} {count : ℕ} {rows : List ℕ} (g : Going k L c first at last count rows) where
  -- the rows so far take up their numbers
  used : length (flat (take count (after k L c))) ≡ count * k
  used = flat_long k (take count (after k L c)) (λ r i. g.wide r (in_after r L k c (in_take count r (after k L c) i))) ∙ ap (λ (z : ℕ). z * k) g.long

  -- the spot is at one of the rows
  module _ (row : List ℕ) (there : at ≡ Some row) where
    next : drop count (after k L c) ≡ row_at k row ∷ keep (less (row_at k row)) L
    next = sym g.left ∙ ap (ahead k L) there

    pub going_in : In (row_at k row) L
    going_in = in_after (row_at k row) L k c (in_drop count (row_at k row) (after k L c) (rw next (◌⊎◌.inl refl)))

    -- one turn
    pub going_turn : (count ≡ length first / k → ⊥) → (rows₁ : List ℕ) → rows₁ ≡ paste rows (count * k) row k
        → (last₁ : Cursor) → last₁ ≡ at_row last (row_at k row)
        → (at₁ : Spot) → ahead k L at₁ ≡ keep (less (row_at k row)) L
        → Going k L c first at₁ last₁ (count + 1) rows₁
    going_turn ne rows₁ er last₁ el at₁ ea =
        record {
          wide = g.wide;
          left = ea ∙ sym D;
          gone = el ∙ ap (λ (z : Cursor). at_row z (row_at k row)) g.gone ∙ sym (ap (moved c) T ∙ moved_one c (take count (after k L c)) (row_at k row));
          held = er ∙ ap₂ (λ (x y : List ℕ). x ++ row_at k row ++ y) front back ∙ sym (ap₂ (λ (x : List ℕ) (m : ℕ). x ++ drop m first) F more);
          long = ap length T ∙ length-append (take count (after k L c)) (row_at k row ∷ []) ∙ omega (arith, g.long);
          few = omega (arith, g.few);
        }
      where
        T : take (count + 1) (after k L c) ≡ take count (after k L c) ++ (row_at k row ∷ [])
        T = rw add-one (split_one (after k L c) count (row_at k row) (keep (less (row_at k row)) L) next).0

        D : drop (count + 1) (after k L c) ≡ keep (less (row_at k row)) L
        D = rw add-one (split_one (after k L c) count (row_at k row) (keep (less (row_at k row)) L) next).1

        F : flat (take (count + 1) (after k L c)) ≡ flat (take count (after k L c)) ++ row_at k row
        F = ap flat T ∙ flat_append (take count (after k L c)) (row_at k row ∷ []) ∙ ap (λ (z : List ℕ). flat (take count (after k L c)) ++ z) (append-nil (row_at k row))

        more : (count + 1) * k ≡ count * k + k
        more = rw (add-one, suc-mul)

        front : take (count * k) rows ≡ flat (take count (after k L c))
        front = ap (take (count * k)) g.held ∙ take_at (flat (take count (after k L c))) (drop (count * k) first) (count * k) used

        back : drop (count * k + k) rows ≡ drop (count * k + k) first
        back =
            ap (drop (count * k + k)) g.held
            ∙ ap (λ (z : ℕ). drop (z + k) (flat (take count (after k L c)) ++ drop (count * k) first)) (sym used)
            ∙ drop-append-add (flat (take count (after k L c))) (drop (count * k) first) k
            ∙ drop-drop k (count * k) first

  -- what a page leaves that is done
  done : (more : Bool) → take (length first / k) (after k L c) ≡ take count (after k L c) → some (drop (length first / k) (after k L c)) ≡ more
      → PageLeaves (paged k L c first) (page_of count more last).reply last rows
  done more T m = (
    (λ i. record { number = 0; place = 0; count = sym (ap length T ∙ g.long) i; more = sym m i }),
    g.gone ∙ ap (moved c) (sym T),
    g.held ∙ ap (λ (x : ℕ). flat (take count (after k L c)) ++ drop x first) (sym used) ∙ ap (λ (z : List Row). flat z ++ drop (length (flat z)) first) (sym T),
  )

  -- the buffer is full, and a row is left
  pub page_full : (row : List ℕ) → at ≡ Some row → count ≡ length first / k → PageLeaves (paged k L c first) (page_of (length first / k) true last).reply last rows
  page_full row there f =
      subst (λ (z : ℕ). PageLeaves (paged k L c first) (page_of z true last).reply last rows) f
      (done true (ap (λ (x : ℕ). take x (after k L c)) (sym f)) (ap (λ (x : ℕ). some (drop x (after k L c))) (sym f) ∙ rw (next row there)))

  -- no row is left
  pub page_out : at ≡ None → PageLeaves (paged k L c first) (page_of count false last).reply last rows
  page_out gone =
      done false (take_all (length first / k) (after k L c) (omega (arith, short, g.few)) ∙ sym (take_all count (after k L c) short))
      (some_not (drop (length first / k) (after k L c)) (omega (arith, length-drop (length first / k) (after k L c), short, g.few)))
    where
      none : [] ≡ drop count (after k L c)
      none = sym (ap (ahead k L) gone) ∙ g.left

      short : length (after k L c) ≤ count
      short = omega (arith, length-drop count (after k L c), ap length none)
