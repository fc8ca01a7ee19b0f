-- There and back loses nothing: bytes to bits and back, bits to bytes and back, for every n up to 256.
use Prim.Native.Nat.{ℕ, zero, suc, ◌+◌, ◌*◌, ◌/◌, ◌%◌, ◌^◌, ◌≤◌, ◌<◌}
use native.Mathlib.Nat.{div-add-mod', mod-lt, div-lt_iff_lt-mul}
use native.Mathlib.Omega.{arith}
use mathlib.Core.Path.{◌≡◌, refl, sym, ap, ◌∙◌}
use mathlib.Core.Bool.{Bool, true, false, not, ◌&&◌}
use mathlib.Core.List.{List, ◌++◌}
use lib.ListN.{length, get_or, take, drop}
use lib.Seq.{take_at}
use lib.Dec.{ltb, eqb}
use borrow.Author.Tests.{ltb-true, ltb-false, lt-ltb, le-ltb, eq-eqb}
use Rattle.model.specs.declared.Reply.{Reply}
use Rattle.model.specs.Sets.{any, bit, memb, upto}
use Rattle.model.specs.Results.{cell}
use Rattle.model.specs.Refusals.{reply, verdict, written}
use Rattle.model.specs.Checks.{bad_byte, room_checks}
use Rattle.model.proofs.Booleans.{Seen, yes!, no!, seen, guarded}
use Rattle.model.proofs.Exists.{any_never, none_of}
use Rattle.model.proofs.Bytes.{tab_of, tab_cong, memb_tab, get_or_tab, length_tab, row_fits, cell_at}
use Rattle.model.proofs.Refusals.{Passes, none_refused}
use Rattle.bits.specs.Words.{words, has_bit}
use Rattle.bits.specs.BitTables.{bit_cell, bit_table, byte_table, bit_relation, byte_relation, packed, unpacked}
use Rattle.bits.proofs.Words.{word_cong, word_at, words_of, words_cong, length_words, has_bit_words}
use Rattle.packing.specs.Services.{bad_size, stray, stray_row, pack_checks, unpack_checks, PackLeaves, UnpackLeaves}
use Rattle.packing.proofs.Rows.{cell_row}
use Rattle.packing.proofs.Verdicts.{size_small, Bytes, Bits, bytes_accepted, bits_accepted}

module _ (n : ℕ) (le : n ≤ 256) where
  -- a table depends on the pairs of nodes below n alone

  pub bit_cong : (A B : ℕ → ℕ → Bool) → ((x y : ℕ) → x < n → y < n → A x y ≡ B x y) → bit_table n A ≡ bit_table n B
  unfolding bit_table bit_cell upto
  bit_cong A B h = words_cong (4 * n) _ _ (λ p l. at p l (seen (ltb (p % 256) n)))
    where
      at : (p : ℕ) → p < 64 * (4 * n) → Seen (ltb (p % 256) n) → (ltb (p % 256) n && A (p / 256) (p % 256)) ≡ (ltb (p % 256) n && B (p / 256) (p % 256))
      at p l (yes! t) = rw (h (p / 256) (p % 256) (omega arith) (ltb-true (p % 256) n t))
      at p l (no! t) = rw t

  pub byte_cong : (A B : ℕ → ℕ → Bool) → ((x y : ℕ) → x < n → y < n → A x y ≡ B x y) → byte_table n A ≡ byte_table n B
  unfolding byte_table cell
  byte_cong A B h = tab_cong (n * n) _ _ (λ p l. let z : 0 < n = some n p l in h (p / n) (p % n) ((div-lt_iff_lt-mul z).1 l) (mod-lt p z))
    where
      some : (n p : ℕ) → p < n * n → 0 < n
      some zero p l = absurd (omega arith)
      some (suc n) p l = omega arith

  -- a table holds its relation

  pub bit_holds : (R : ℕ → ℕ → Bool) (x y : ℕ) → x < n → y < n → bit_relation (bit_table n R) x y ≡ R x y
  unfolding bit_table bit_relation upto
  bit_holds R x y a b = has_bit_words (4 * n) (bit_cell n R) (256 * x + y) (omega arith) ∙ cell_row n R x y (omega arith) ∙ rw (lt-ltb y n b)

  pub byte_holds : (R : ℕ → ℕ → Bool) (x y : ℕ) → x < n → y < n → byte_relation n (byte_table n R) x y ≡ R x y
  unfolding byte_table byte_relation
  byte_holds R x y a b = memb_tab (n * n) (cell n R) (x * n + y) (let f = row_fits n x (x * n) refl a in omega arith) ∙ cell_at n x (x * n) refl R y b

  -- For the reader: the table of bits of a relation, unpacked, is its table of bytes.
  pub unpack_table : (R : ℕ → ℕ → Bool) → unpacked n (bit_table n R) ≡ byte_table n R
  unpack_table R = byte_cong _ _ (bit_holds R)

  -- For the reader: the table of bytes of a relation, packed, is its table of bits.
  pub pack_table : (R : ℕ → ℕ → Bool) → packed n (byte_table n R) ≡ bit_table n R
  pack_table R = bit_cong _ _ (byte_holds R)

  -- an accepted table is that of the relation that it holds

  bytes_are : (b : List ℕ) → length b ≡ n * n → any (length b) (bad_byte b) ≡ false → byte_table n (byte_relation n b) ≡ b
  unfolding byte_table byte_relation cell memb
  bytes_are b size ok = sym (tab_of (n * n) _ b size (λ i l. let h : i < length b = omega arith in
      low (get_or b i 0) (ltb-false 1 (get_or b i 0) (none_of (length b) (bad_byte b) i ok h)) ∙ ap (λ (k : ℕ). bit (memb b k)) (sym (div-add-mod' i n))))
    where
      low : (v : ℕ) → v ≤ 1 → v ≡ bit (not (eqb v 0))
      low zero h = refl
      low (suc zero) h = refl
      low (suc (suc v)) h = absurd (omega arith)

  bits_are : (w : List ℕ) → length w ≡ 4 * n → ((i : ℕ) → get_or w i 0 < 2 ^ 64) → any n (stray_row n w) ≡ false → bit_table n (bit_relation w) ≡ w
  unfolding bit_table bit_relation bit_cell upto stray_row
  bits_are w size fits ok = sym (words_of (4 * n) (bit_cell n (bit_relation w)) w size (λ i l. word_at w i (fits i) ∙ word_cong 64 _ _ (λ k h. at (64 * i + k) (omega arith) (seen (ltb ((64 * i + k) % 256) n)))))
    where
      whole : (p : ℕ) → 256 * (p / 256) + p % 256 ≡ p
      whole p = omega arith

      at : (p : ℕ) → p < 256 * n → Seen (ltb (p % 256) n) → has_bit w p ≡ (ltb (p % 256) n && has_bit w (256 * (p / 256) + p % 256))
      at p l (yes! t) = rw (t, whole p)
      at p l (no! t) =
          rw t (ap (has_bit w) (sym (whole p))
          ∙ guarded (not (ltb (p % 256) n)) (bit_relation w (p / 256) (p % 256))
          (none_of 256 (stray n w (p / 256)) (p % 256) (none_of n (stray_row n w) (p / 256) ok (omega arith)) (omega arith)) (rw t))

  -- For the reader: what pack accepts comes back from unpack.
  pub bytes_kept : (b : List ℕ) → length b ≡ n * n → any (length b) (bad_byte b) ≡ false → unpacked n (packed n b) ≡ b
  bytes_kept b size ok = unpack_table (byte_relation n b) ∙ bytes_are b size ok

  -- For the reader: what unpack accepts comes back from pack; a word is a number below 2 ^ 64.
  pub bits_kept : (w : List ℕ) → length w ≡ 4 * n → ((i : ℕ) → get_or w i 0 < 2 ^ 64) → any n (stray_row n w) ≡ false → packed n (unpacked n w) ≡ w
  bits_kept w size fits ok = pack_table (bit_relation w) ∙ bits_are w size fits ok

  -- a table of a relation is sound

  bits_sound : (R : ℕ → ℕ → Bool) → any n (stray_row n (bit_table n R)) ≡ false
  unfolding bit_table bit_relation stray_row upto
  bits_sound R = any_never n _ (λ x l. any_never 256 _ (λ y h. ap (λ (b : Bool). not (ltb y n) && b) (has_bit_words (4 * n) (bit_cell n R) (256 * x + y) (omega arith) ∙ cell_row n R x y h) ∙ beyond (ltb y n) (R x y)))
    where
      beyond : (a b : Bool) → (not a && (a && b)) ≡ false
      beyond true b = refl
      beyond false b = refl

  bytes_sound : (R : ℕ → ℕ → Bool) → any (length (byte_table n R)) (bad_byte (byte_table n R)) ≡ false
  unfolding byte_table
  bytes_sound R = rw (length_tab (n * n) (cell n R)) (any_never (n * n) _ (λ i l. ap (ltb 1) (get_or_tab (n * n) (cell n R) i l) ∙ small (cell n R i)))
    where
      small : (b : Bool) → ltb 1 (bit b) ≡ false
      small true = refl
      small false = refl

module _ (n : ℕ) (R : ℕ → ℕ → Bool) where
  length_bits : length (bit_table n R) ≡ 4 * n
  unfolding bit_table
  length_bits = length_words (4 * n) (bit_cell n R)

  length_bytes : length (byte_table n R) ≡ n * n
  unfolding byte_table
  length_bytes = length_tab (n * n) (cell n R)

  module _ (ok : bad_size n ≡ false) (room : ℕ) where
    -- For the reader: unpack accepts the table of bits of every relation.
    pub bits_taken : n * n ≤ room → verdict (unpack_checks n (bit_table n R) room) ≡ reply 0 0
    unfolding unpack_checks room_checks Passes
    bits_taken h =
        none_refused (unpack_checks n (bit_table n R) room)
        (ok, (ap not (eq-eqb (length (bit_table n R)) (4 * n) length_bits), (bits_sound n (size_small n (bad_size n) refl ok) R, (le-ltb room (n * n) h, tt))))

    -- For the reader: pack accepts the table of bytes of every relation.
    pub bytes_taken : 4 * n ≤ room → verdict (pack_checks n (byte_table n R) room) ≡ reply 0 0
    unfolding pack_checks room_checks Passes
    bytes_taken h =
        none_refused (pack_checks n (byte_table n R) room)
        (ok, (ap not (eq-eqb (length (byte_table n R)) (n * n) length_bytes), (bytes_sound n (size_small n (bad_size n) refl ok) R, (le-ltb room (4 * n) h, tt))))

-- what an accepted call wrote

accepted_front : (v : Reply) (front to after : List ℕ) (m : ℕ) → after ≡ written v front to → v.number ≡ 0 → length front ≡ m → after ≡ front ++ drop m to
unfolding written
accepted_front v front to after m p z e = p ∙ rw (eq-eqb v.number 0 z, e)

-- For the reader: if pack accepts a table of bytes, then unpack accepts the 4 × n words that it wrote, wherever there is room for the
-- bytes, and writes the same bytes.
pub there_and_back : (n : ℕ) (b to after : List ℕ) (r : Reply) → PackLeaves n b to r after → r.number ≡ 0
    → (room after' : List ℕ) (r' : Reply) → n * n ≤ length room → UnpackLeaves n (take (4 * n) after) room r' after'
    → (r' ≡ reply 0 0) × (after' ≡ b ++ drop (n * n) room)
there_and_back n b to after r p z room after' r' fits q =
    let a : Bytes n b (length to) = bytes_accepted n b (length to) r p.0 z in
    let w : take (4 * n) after ≡ packed n b =
    ap (take (4 * n)) (accepted_front (verdict (pack_checks n b (length to))) (packed n b) to after (4 * n) p.1 (ap (λ (r : Reply). r.number) (sym p.0) ∙ z) (length_bits n (byte_relation n b)))
    ∙ take_at (packed n b) (drop (4 * n) to) (4 * n) (length_bits n (byte_relation n b)) in
    let q' : UnpackLeaves n (packed n b) room r' after' = rw w at q in
    let v : verdict (unpack_checks n (packed n b) (length room)) ≡ reply 0 0 = bits_taken n (byte_relation n b) a.size (length room) fits in (
      q'.0 ∙ v,
      accepted_front (verdict (unpack_checks n (packed n b) (length room))) (unpacked n (packed n b)) room after' (n * n) q'.1 (ap (λ (r : Reply). r.number) v) (length_bytes n (bit_relation (packed n b)))
          ∙ ap (λ (l : List ℕ). l ++ drop (n * n) room) (bytes_kept n (size_small n (bad_size n) refl a.size) b a.long a.sound),
    )

-- For the reader: if unpack accepts a table of bits, then pack accepts the n × n bytes that it wrote, wherever there is room for the
-- words, and writes the same words.
pub back_and_there : (n : ℕ) (w to after : List ℕ) (r : Reply) → ((i : ℕ) → get_or w i 0 < 2 ^ 64) → UnpackLeaves n w to r after → r.number ≡ 0
    → (room after' : List ℕ) (r' : Reply) → 4 * n ≤ length room → PackLeaves n (take (n * n) after) room r' after'
    → (r' ≡ reply 0 0) × (after' ≡ w ++ drop (4 * n) room)
back_and_there n w to after r words p z room after' r' fits q =
    let a : Bits n w (length to) = bits_accepted n w (length to) r p.0 z in
    let b : take (n * n) after ≡ unpacked n w =
    ap (take (n * n)) (accepted_front (verdict (unpack_checks n w (length to))) (unpacked n w) to after (n * n) p.1 (ap (λ (r : Reply). r.number) (sym p.0) ∙ z) (length_bytes n (bit_relation w)))
    ∙ take_at (unpacked n w) (drop (n * n) to) (n * n) (length_bytes n (bit_relation w)) in
    let q' : PackLeaves n (unpacked n w) room r' after' = rw b at q in
    let v : verdict (pack_checks n (unpacked n w) (length room)) ≡ reply 0 0 = bytes_taken n (bit_relation w) a.size (length room) fits in (
      q'.0 ∙ v,
      accepted_front (verdict (pack_checks n (unpacked n w) (length room))) (packed n (unpacked n w)) room after' (4 * n) q'.1 (ap (λ (r : Reply). r.number) v) (length_bits n (byte_relation n (unpacked n w)))
          ∙ ap (λ (l : List ℕ). l ++ drop (4 * n) room) (bits_kept n (size_small n (bad_size n) refl a.size) w a.long words a.sound),
    )
