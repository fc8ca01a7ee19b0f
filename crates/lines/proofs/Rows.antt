-- Laws of the lines of output, and of the loops that write them.
use Prim.Native.Nat.{ℕ, zero, suc, ◌+◌, ◌*◌, ◌^◌, ◌≤◌, ◌<◌}
use native.Mathlib.Numerals.{add-one}
use native.Mathlib.Omega.{arith}
use mathlib.Core.Path.{◌≡◌, refl, sym}
use mathlib.Core.Bool.{cond}
use mathlib.Core.List.{List, [], ◌∷◌, ◌++◌}
use lib.ListN.{length, take, drop, get_or, length-append, length-take, drop_of_length-le}
use lib.Seq.{drop-cons, get_or-drop}
use lib.Dec.{ltb}
use borrow.Author.Tests.{ltb-true, ltb-false}
use Rattle.model.proofs.Booleans.{Seen, yes!, no!, seen}
use Rattle.lines.specs.Lines.{decimal, field, gap, row_line, row_lines, end_line, refused_line, Wrote}
use Rattle.lines.proofs.Writing.{Writing, fits, go_on, first, last_fits, last}
use Rattle.lines.proofs.Decimal.{five_digits, twenty_digits}

-- a number, and the byte that follows it

module _ (n byte at : ℕ) (a : List ℕ) (room : at + length (field n byte) ≤ length a) where
  pub number_fits : at + length (decimal n) ≤ length a
  unfolding field
  number_fits = omega (arith, room, length-append (decimal n) (byte ∷ []))

  module _ (b : List ℕ) (m : ℕ) (w : Wrote (decimal n) at a b m) where
    number_on : Writing (field n byte) at a (byte ∷ []) m b
    unfolding field
    number_on = first (field n byte) at a (decimal n) (byte ∷ []) m b room refl w

    pub byte_fits : m < length b
    byte_fits = omega (arith, last_fits (field n byte) at a m b (byte ∷ []) number_on)

    pub wrote_field : (c : List ℕ) (k : ℕ) → Wrote (byte ∷ []) m b c k → Wrote (field n byte) at a c k
    wrote_field c k v = last (field n byte) at a m b (byte ∷ []) number_on k c v

-- a loop over the numbers of a row

gap_is : (row : List ℕ) (k : ℕ) → gap (drop k row) ≡ cond (ltb k (length row)) 32 10
gap_is row k = go (seen (ltb k (length row)))
  where
    go : Seen (ltb k (length row)) → gap (drop k row) ≡ cond (ltb k (length row)) 32 10
    go (yes! e) = rw (e, drop-cons row k 0 (ltb-true k (length row) e))
    go (no! e) = rw (e, drop_of_length-le row (ltb-false k (length row) e))

pub next_number : (row : List ℕ) (i x s : ℕ) → i < length row → x ≡ get_or row i 0 → s ≡ cond (ltb (i + 1) (length row)) 32 10
    → row_line (drop i row) ≡ field x s ++ row_line (drop (i + 1) row)
unfolding row_line
next_number row i x s h p q = rw (p, q, sym (gap_is row (i + 1)), add-one i, drop-cons row i 0 h)

pub next_number_fits : (whole : List ℕ) (at : ℕ) (before row : List ℕ) (i x s next : ℕ) (now : List ℕ) → i < length row → x ≡ get_or row i 0 → s ≡ cond (ltb (i + 1) (length row)) 32 10
    → Writing whole at before (row_line (drop i row)) next now → next + length (field x s) ≤ length now
next_number_fits whole at before row i x s next now h p q w =
    fits whole at before next now (field x s) (row_line (drop i row)) (row_line (drop (i + 1) row)) w (next_number row i x s h p q)

pub no_number : (row : List ℕ) (i : ℕ) → length row ≤ i → row_line (drop i row) ≡ []
unfolding row_line
no_number row i h = rw (drop_of_length-le row h)

-- a loop over rows of k numbers: one row is taken off those that are left

pub next_row : (k left fewer : ℕ) (rows row rest : List ℕ) → left ≡ suc fewer → row ≡ take k rows → rest ≡ drop k rows
    → row_lines k left rows ≡ row_line row ++ row_lines k fewer rest
unfolding row_lines
next_row k left fewer rows row rest h e f = rw (h, e, f)

pub next_row_fits : (whole : List ℕ) (at : ℕ) (before : List ℕ) (k left fewer : ℕ) (rows row rest : List ℕ) (next : ℕ) (now : List ℕ)
    → left ≡ suc fewer → row ≡ take k rows → rest ≡ drop k rows
    → Writing whole at before (row_lines k left rows) next now → next + length (row_line row) ≤ length now
next_row_fits whole at before k left fewer rows row rest next now h e f w =
    fits whole at before next now (row_line row) (row_lines k left rows) (row_lines k fewer rest) w (next_row k left fewer rows row rest h e f)

-- the numbers of the rows that are left
pub one_row : (left fewer k : ℕ) → left ≡ suc fewer → left * k ≡ k + fewer * k
one_row left fewer k h = rw h (omega arith)

pub no_row : (k left : ℕ) (rows : List ℕ) → left ≡ 0 → row_lines k left rows ≡ []
unfolding row_lines
no_row k left rows h = rw h

-- a number below 65536 takes at most six bytes with what follows it

pub field_length : (n byte : ℕ) → n < 65536 → length (field n byte) ≤ 6
unfolding field
field_length n byte h = omega (arith, five_digits n h, length-append (decimal n) (byte ∷ []))

row_length : (row : List ℕ) → ((i : ℕ) → get_or row i 0 < 65536) → length (row_line row) ≤ 6 * length row
unfolding row_line
row_length [] f = omega arith
row_length (x ∷ xs) f =
    let a : length (field x (gap xs)) ≤ 6 = field_length x (gap xs) (f 0) in
    let b : length (row_line xs) ≤ 6 * length xs = row_length xs (λ i. f (suc i)) in
    rw (length-append (field x (gap xs)) (row_line xs)) (omega arith)

below_take : (n b : ℕ) (l : List ℕ) → 0 < b → ((i : ℕ) → get_or l i 0 < b) → (i : ℕ) → get_or (take n l) i 0 < b
below_take zero b l z f i = z
below_take (suc n) b [] z f i = z
below_take (suc n) b (x ∷ xs) z f zero = f 0
below_take (suc n) b (x ∷ xs) z f (suc i) = below_take n b xs z (λ i. f (suc i)) i

pub rows_length : (k n : ℕ) (rows : List ℕ) → ((i : ℕ) → get_or rows i 0 < 65536) → length (row_lines k n rows) ≤ 6 * (n * k)
unfolding row_lines
rows_length k zero rows f = omega arith
rows_length k (suc n) rows f =
    let a : length (row_line (take k rows)) ≤ 6 * length (take k rows) = row_length (take k rows) (below_take k 65536 rows (omega arith) f) in
    let b : length (row_lines k n (drop k rows)) ≤ 6 * (n * k) = rows_length k n (drop k rows) (λ i. rw (get_or-drop k rows i 0) (f (k + i))) in
    rw (length-append (row_line (take k rows)) (row_lines k n (drop k rows))) (omega (arith, length-take k rows))

-- the line after the rows

module _ (n at : ℕ) (l : List ℕ) (m : ℕ) (a : List ℕ) (h : n < 2 ^ 64) (room : at + 25 ≤ length l) (w : Wrote (101 ∷ 110 ∷ 100 ∷ 32 ∷ []) at l a m) where
  end_length : at + length (end_line n) ≤ length l
  unfolding end_line field
  end_length = rw (length-append (decimal n) (10 ∷ [])) (omega (arith, twenty_digits n h))

  end_on : Writing (end_line n) at l (field n 10) m a
  unfolding end_line
  end_on = first (end_line n) at l (101 ∷ 110 ∷ 100 ∷ 32 ∷ []) (field n 10) m a end_length refl w

  pub end_fits : m + length (field n 10) ≤ length a
  end_fits = last_fits (end_line n) at l m a (field n 10) end_on

  pub wrote_end : (b : List ℕ) (k : ℕ) → Wrote (field n 10) m a b k → Wrote (end_line n) at l b k
  wrote_end b k v = last (end_line n) at l m a (field n 10) end_on k b v

-- the line of a refusal

module _ (x y at : ℕ) (l : List ℕ) (m : ℕ) (a : List ℕ) (p : x < 65536) (q : y < 65536) (room : at + 20 ≤ length l)
    (w : Wrote (114 ∷ 101 ∷ 102 ∷ 117 ∷ 115 ∷ 101 ∷ 100 ∷ 32 ∷ []) at l a m) where
  refused_length : at + length (refused_line x y) ≤ length l
  unfolding refused_line
  refused_length = rw (length-append (field x 32) (field y 10)) (omega (arith, field_length x 32 p, field_length y 10 q))

  refused_on : Writing (refused_line x y) at l (field x 32 ++ field y 10) m a
  unfolding refused_line
  refused_on = first (refused_line x y) at l (114 ∷ 101 ∷ 102 ∷ 117 ∷ 115 ∷ 101 ∷ 100 ∷ 32 ∷ []) (field x 32 ++ field y 10) m a refused_length refl w

  pub refused_fits : m + length (field x 32) ≤ length a
  refused_fits = fits (refused_line x y) at l m a (field x 32) (field x 32 ++ field y 10) (field y 10) refused_on refl

  module _ (k : ℕ) (b : List ℕ) (v : Wrote (field x 32) m a b k) where
    number_written : Writing (refused_line x y) at l (field y 10) k b
    number_written = go_on (refused_line x y) at l m a (field x 32) (field x 32 ++ field y 10) (field y 10) k b refused_on refl v

    pub place_fits : k + length (field y 10) ≤ length b
    place_fits = last_fits (refused_line x y) at l k b (field y 10) number_written

    pub wrote_refused : (number place : ℕ) (c : List ℕ) (j : ℕ) → x ≡ number → y ≡ place → Wrote (field y 10) k b c j → Wrote (refused_line number place) at l c j
    wrote_refused number place c j e f u = rw (sym e, sym f) (last (refused_line x y) at l k b (field y 10) number_written j c u)
