-- Laws of the rows of a table: what is read off a row that was written, and a table from its rows.
use Prim.Native.Nat.{ℕ, ◌+◌, ◌-◌, ◌*◌, ◌/◌, ◌%◌, ◌^◌, ◌≤◌, ◌<◌}
use native.Mathlib.Omega.{arith}
use mathlib.Core.Path.{◌≡◌, sym, ap, ◌∙◌}
use mathlib.Core.Logic.{⊎_elim}
use mathlib.Core.Bool.{Bool}
use mathlib.Core.List.{List, ◌++◌}
use lib.ListN.{length, get_or, drop, length-append, length-drop, get_or-append}
use lib.Seq.{ext_get_or, get_or-append-add, get_or-drop}
use Rattle.model.proofs.Booleans.{lt_or_le}
use Rattle.bits.specs.Words.{test_bit, words, has_bit}
use Rattle.bits.specs.BitTables.{bit_relation}
use Rattle.bits.specs.Rows.{Becomes, RowBecomes}
use Rattle.bits.proofs.Words.{length_words, get_d_words, has_bit_words, has_bit_at, word_at, word_cong}

-- bit y of row x stands in word y / 64 of the row
pub bit_at : (w : List ℕ) (x y : ℕ) → bit_relation w x y ≡ test_bit (get_or w (4 * x + y / 64) 0) (y % 64)
unfolding bit_relation
bit_at w x y =
    ap (has_bit w) (let e : 256 * x + y ≡ 64 * (4 * x + y / 64) + y % 64 = omega arith in e)
    ∙ has_bit_at w (4 * x + y / 64) (y % 64) (omega arith)

-- words that agree on a row agree on its bits
pub row_same : (w o : List ℕ) (x y : ℕ) → y < 256 → get_or o (4 * x + y / 64) 0 ≡ get_or w (4 * x + y / 64) 0 → bit_relation o x y ≡ bit_relation w x y
row_same w o x y l e = bit_at o x y ∙ ap (λ (v : ℕ). test_bit v (y % 64)) e ∙ sym (bit_at w x y)

-- a row that is not the one written
pub row_other : (z x : ℕ) (S : ℕ → Bool) (w o : List ℕ) → RowBecomes x S w o → (z ≡ x → ⊥) → (y : ℕ) → y < 256 → bit_relation o z y ≡ bit_relation w z y
row_other z x S w o r d y l =
    row_same w o z y l (⊎_elim (λ h. r.before (4 * z + y / 64) (omega arith)) (λ h. r.behind (4 * z + y / 64) (let g : x < z = ⊎_elim (λ k. k) (λ k. absurd (d (omega arith))) (lt_or_le x z) in omega arith)) (lt_or_le z x))

-- bit by bit, from the words that were written
pub of_words : (n : ℕ) (R : ℕ → ℕ → Bool) (S : ℕ → Bool) (w o : List ℕ) → o ≡ words (4 * n) S ++ drop (4 * n) w → 4 * n ≤ length w
    → ((x y : ℕ) → x < n → y < 256 → S (256 * x + y) ≡ R x y) → Becomes n R w o
unfolding bit_relation has_bit
of_words n R S w o p h f = record {
  size = rw (p, length-append (words (4 * n) S) (drop (4 * n) w), length_words (4 * n) S, length-drop (4 * n) w) (omega arith);
  bits = λ x y a b.
      ap (λ (l : List ℕ). has_bit l (256 * x + y)) p
      ∙ ap (λ (v : ℕ). test_bit v ((256 * x + y) % 64)) (get_or-append (words (4 * n) S) (drop (4 * n) w) 0 ((256 * x + y) / 64) (rw (length_words (4 * n) S) (omega arith)))
      ∙ has_bit_words (4 * n) S (256 * x + y) (omega arith) ∙ f x y a b;
  rest = λ i g.
      ap (λ (l : List ℕ). get_or l i 0) p
      ∙ ap (λ (k : ℕ). get_or (words (4 * n) S ++ drop (4 * n) w) k 0) (let e : i ≡ length (words (4 * n) S) + (i - 4 * n) = rw (length_words (4 * n) S) (omega arith) in e)
      ∙ get_or-append-add (words (4 * n) S) (drop (4 * n) w) (i - 4 * n) 0 ∙ get_or-drop (4 * n) w (i - 4 * n) 0
      ∙ ap (λ (k : ℕ). get_or w k 0) (let e : 4 * n + (i - 4 * n) ≡ i = omega arith in e);
}

-- the words, from what stands in each bit
pub as_words : (n : ℕ) (R : ℕ → ℕ → Bool) (S : ℕ → Bool) (w o : List ℕ) → Becomes n R w o → 4 * n ≤ length w → ((i : ℕ) → i < 4 * n → get_or o i 0 < 2 ^ 64)
    → ((x y : ℕ) → x < n → y < 256 → S (256 * x + y) ≡ R x y) → o ≡ words (4 * n) S ++ drop (4 * n) w
unfolding bit_relation
as_words n R S w o b h fits f = ext_get_or 0 o (words (4 * n) S ++ drop (4 * n) w)
    (b.size ∙ sym (rw (length-append (words (4 * n) S) (drop (4 * n) w), length_words (4 * n) S, length-drop (4 * n) w) (omega arith)))
    (λ i l. ⊎_elim (λ g. front i g) (λ g. behind i g) (lt_or_le i (4 * n)))
  where
    front : (i : ℕ) → i < 4 * n → get_or o i 0 ≡ get_or (words (4 * n) S ++ drop (4 * n) w) i 0
    front i g =
        word_at o i (fits i g)
        ∙ word_cong 64 (λ k. has_bit o (64 * i + k)) (λ k. S (64 * i + k)) (λ k l.
        let e : 64 * i + k ≡ 256 * (i / 4) + (64 * (i % 4) + k) = omega arith in
        ap (has_bit o) e ∙ b.bits (i / 4) (64 * (i % 4) + k) (omega arith) (omega arith)
        ∙ sym (f (i / 4) (64 * (i % 4) + k) (omega arith) (omega arith)) ∙ ap S (sym e))
        ∙ sym (get_or-append (words (4 * n) S) (drop (4 * n) w) 0 i (rw (length_words (4 * n) S) g) ∙ get_d_words (4 * n) S i g)

    behind : (i : ℕ) → 4 * n ≤ i → get_or o i 0 ≡ get_or (words (4 * n) S ++ drop (4 * n) w) i 0
    behind i g =
        b.rest i g
        ∙ sym (ap (λ (k : ℕ). get_or (words (4 * n) S ++ drop (4 * n) w) k 0) (let e : i ≡ length (words (4 * n) S) + (i - 4 * n) = rw (length_words (4 * n) S) (omega arith) in e)
        ∙ get_or-append-add (words (4 * n) S) (drop (4 * n) w) (i - 4 * n) 0 ∙ get_or-drop (4 * n) w (i - 4 * n) 0
        ∙ ap (λ (k : ℕ). get_or w k 0) (let e : 4 * n + (i - 4 * n) ≡ i = omega arith in e))
