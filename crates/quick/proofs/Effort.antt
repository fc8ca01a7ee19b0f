-- Laws of the evaluations that a page takes.
use Prim.Native.Nat.{ℕ, zero, suc, ◌+◌, ◌-◌, ◌<◌, ◌≤◌}
use native.Mathlib.Omega.{arith}
use mathlib.Core.Path.{◌≡◌, sym, ap, ap₂, ◌∙◌}
use mathlib.Core.List.{List, [], ◌∷◌, ◌++◌, head-eq_of_cons-eq, tail-eq_of_cons-eq}
use lib.ListN.{length, take, drop, get_or, set, length-take, drop_of_length-le}
use lib.Seq.{length-take-le, take-suc-set, drop-append-le, drop-cons}
use borrow.Author.Tests.{eq-eqb, ne_eqb}
use Rattle.model.specs.declared.Cursor.{Cursor}
use Rattle.model.specs.Answers.{Row, less, keep}
use Rattle.model.specs.Pages.{after}
use Rattle.std.specs.Prelude.{Some}
use Rattle.answers.specs.Search.{Spot, row_at, ahead}
use Rattle.quick.specs.Search.{Same}
use Rattle.quick.specs.Effort.{climbed, descended, stepped, sought, effort}

-- one variable more

descended_more : (s : Row) (v : ℕ) → descended (s ++ (v ∷ [])) ≡ descended s + suc v
descended_more [] v = omega arith
descended_more (b ∷ s) v = let h : descended (s ++ (v ∷ [])) ≡ descended s + suc v = descended_more s v in omega arith

pub descended_set : (i j v : ℕ) (w : List ℕ) → i ≤ j → j < length w → descended (drop i (take (j + 1) (set w j v))) ≡ descended (drop i (take j w)) + suc v
descended_set i j v w l m =
    let e : j + 1 ≡ suc j = omega arith in
    rw (e, take-suc-set w j v m, drop-append-le i (take j w) (v ∷ []) (omega (arith, length-take-le j w (omega arith)))) (descended_more (drop i (take j w)) v)

pub climbed_more : (n i : ℕ) (r : Row) → i < length r → climbed n (drop i r) ≡ (n - suc (get_or r i 0)) + climbed n (drop (suc i) r)
climbed_more n i r l = ap (climbed n) (drop-cons r i 0 l)

-- the search that finds a row, from where the rows differ
pub stepped_at : (n i : ℕ) (r s : Row) → i < length r → length s ≡ length r → Same i r s → get_or r i 0 < get_or s i 0
    → stepped n r s ≡ climbed n (drop (suc i) r) + ((get_or s i 0 - get_or r i 0) + descended (drop (suc i) s))
stepped_at n i [] s l e h g = absurd (omega arith)
stepped_at n i (a ∷ r) [] l e h g = absurd (omega arith)
stepped_at n zero (a ∷ r) (b ∷ s) l e h g = let ne : a ≡ b → ⊥ = λ d. omega arith in rw (ne_eqb a b ne)
stepped_at n (suc i) (a ∷ r) (b ∷ s) l e h g = rw (eq-eqb a b (h 0 (omega arith))) (stepped_at n i r s (omega arith) (omega arith) (λ j m. h (suc j) (omega arith)) g)

-- The loop that fills a row.

pub descended_none : (i : ℕ) (w : List ℕ) → descended (drop i (take i w)) ≡ 0
descended_none i w = rw (drop_of_length-le (take i w) {i = i} (omega (arith, length-take i w)))

module _ (i j e before : ℕ) (w : List ℕ) (p : e ≡ before + descended (drop i (take j w))) where
  pub filled_more : (v e₁ : ℕ) → i ≤ j → j < length w → e₁ + 0 ≡ e + suc v → e₁ ≡ before + descended (drop i (take (j + 1) (set w j v)))
  filled_more v e₁ l m h = omega (arith, descended_set i j v w l m)

  pub filled_done : (k : ℕ) → j ≤ k → k ≤ j → e ≡ before + descended (drop i (take k w))
  filled_done k l h = p ∙ ap (λ (z : ℕ). before + descended (drop i (take z w))) (let d : j ≡ k = omega arith in d)

-- The loop that seeks a higher number, which counts i down and has read the number m at i - 1.

module _ (n i m e : ℕ) (r : Row) (p : e ≡ climbed n (drop i r)) (some : 0 < i) (l : i ≤ length r) (h : m ≡ get_or r (i - 1) 0) where
  up : climbed n (drop (i - 1) r) ≡ (n - suc m) + e
  up =
      let d : suc (i - 1) ≡ i = omega arith in
      climbed_more n (i - 1) r (omega arith) ∙ ap₂ (λ (x y : ℕ). (n - suc x) + climbed n (drop y r)) (sym h) d ∙ ap (λ (x : ℕ). (n - suc m) + x) (sym p)

  pub climbed_on : (e₁ : ℕ) → m < n → e₁ + (m + 1) ≡ e + n → e₁ ≡ climbed n (drop (i - 1) r)
  climbed_on e₁ b g = omega (arith, up)

  pub climbed_found : (v e₁ e₂ : ℕ) (s : Row) → m < v → e₁ + (m + 1) ≡ e + suc v → e₂ ≡ e₁ + descended (drop (i - 1 + 1) s)
      → length s ≡ length r → Same (i - 1) r s → v ≡ get_or s (i - 1) 0 → e₂ ≡ stepped n r s
  climbed_found v e₁ e₂ s b g d es same ev =
      let z : suc (i - 1) ≡ i = omega arith in
      let y : i - 1 + 1 ≡ i = omega arith in
      let a : stepped n r s ≡ climbed n (drop (suc (i - 1)) r) + ((get_or s (i - 1) 0 - get_or r (i - 1) 0) + descended (drop (suc (i - 1)) s)) =
      stepped_at n (i - 1) r s (omega arith) es same (omega arith) in
      let a₂ : stepped n r s ≡ climbed n (drop i r) + ((get_or s (i - 1) 0 - get_or r (i - 1) 0) + descended (drop i s)) = rw z at a in
      let d₂ : e₂ ≡ e₁ + descended (drop i s) = rw y at d in
      omega arith

-- Where a search begins.

pub climbed_start : (n k : ℕ) (r : Row) → length r ≡ k → 0 ≡ climbed n (drop k r)
climbed_start n k r e = rw (drop_of_length-le r {i = k} (omega arith))

-- the rows that were sought are those that are found
pub sought_found : (n e : ℕ) (r s : Row) (rest rows : List Row) → e ≡ stepped n r s → (s ∷ rest) ≡ rows → e ≡ sought n r rows
sought_found n e r s rest rows p h = p ∙ ap (sought n r) h

pub sought_none : (n e i : ℕ) (r : Row) (rows : List Row) → e ≡ climbed n (drop i r) → i ≤ 0 → [] ≡ rows → e ≡ sought n r rows
sought_none n e i r rows p l h = p ∙ ap (λ (z : ℕ). climbed n (drop z r)) (let d : i ≡ 0 = omega arith in d) ∙ ap (sought n r) h

-- A row more is written.

drop_at : (rows : List Row) (m : ℕ) (x : Row) (rest : List Row) → drop m rows ≡ x ∷ rest → (get_or rows m [] ≡ x) × (drop (suc m) rows ≡ rest)
drop_at [] zero x rest h = let z : ◌≡◌ {A = ℕ} 0 1 = cc in absurd (omega arith)
drop_at [] (suc m) x rest h = let z : ◌≡◌ {A = ℕ} 0 1 = cc in absurd (omega arith)
drop_at (y ∷ rows) zero x rest h = (head-eq_of_cons-eq h, tail-eq_of_cons-eq h)
drop_at (y ∷ rows) (suc m) x rest h = drop_at rows m x rest h

pub effort_more : (n k : ℕ) (c : Cursor) (L : List Row) (at : Spot) (row : List ℕ) (m e f : ℕ) → e ≡ effort n k c (after k L c) m → f ≡ sought n (row_at k row) (keep (less (row_at k row)) L)
    → ahead k L at ≡ drop m (after k L c) → at ≡ Some row → e + f ≡ effort n k c (after k L c) (m + 1)
effort_more n k c L at row m e f p q h there =
    let w : (row_at k row ∷ keep (less (row_at k row)) L) ≡ drop m (after k L c) = rw there at h in
    let d = drop_at (after k L c) m (row_at k row) (keep (less (row_at k row)) L) (sym w) in
    let z : m + 1 ≡ suc m = omega arith in
    rw (z, d.0, d.1) (ap₂ (λ (x y : ℕ). x + y) p q)
