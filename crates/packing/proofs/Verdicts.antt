-- Laws of the verdicts: what the checks secure, and the buffer after an accepted call.
use Prim.Native.Nat.{ℕ, ◌*◌, ◌≤◌, ◌<◌}
use native.Mathlib.Nat.{mul-le-mul}
use native.Mathlib.Omega.{arith}
use mathlib.Core.Path.{◌≡◌, refl, sym, ◌∙◌}
use mathlib.Core.Bool.{Bool, false, not}
use mathlib.Core.List.{List, ◌++◌}
use lib.ListN.{length, drop}
use lib.Dec.{ltb, eqb}
use borrow.Author.Tests.{ltb-false, eqb-true, not-false}
use Rattle.model.specs.declared.Reply.{Reply}
use Rattle.model.specs.declared.refusal.Refusal.{Refusal}
use Rattle.model.specs.Sets.{any, tab}
use Rattle.model.specs.Results.{cell}
use Rattle.model.specs.Refusals.{refused, verdict, written}
use Rattle.model.specs.Checks.{bad_byte, room_checks}
use Rattle.model.proofs.Booleans.{no_or}
use Rattle.model.proofs.Bytes.{length_tab}
use Rattle.model.proofs.Refusals.{Passes, numbered, accepted, written_not, written_over, refused_some}
use Rattle.checks.proofs.Verdicts.{zero_of}
use Rattle.bits.specs.Words.{words}
use Rattle.bits.specs.BitTables.{bit_cell, bit_table, byte_table}
use Rattle.bits.proofs.Words.{length_words}
use Rattle.packing.specs.Services.{bad_size, stray_row, pack_checks, unpack_checks}

-- sizes

pub size_small : (n : ℕ) (b : Bool) → b ≡ bad_size n → b ≡ false → n ≤ 256
size_small n b p q = ltb-false 256 n (no_or (eqb n 0) (ltb 256 n) (sym p ∙ q)).1

pub square_small : (n : ℕ) (b : Bool) → b ≡ bad_size n → b ≡ false → n * n ≤ 65536
square_small n b p q = let h = size_small n b p q in mul-le-mul h h

pub as_due : (len due : ℕ) (b : Bool) → b ≡ not (eqb len due) → b ≡ false → len ≡ due
as_due len due b p q = eqb-true len due (not-false (eqb len due) (sym p ∙ q))

-- places fit a reply

pub byte_place : (len n x : ℕ) (a b : Bool) → x < len → b ≡ not (eqb len (n * n)) → b ≡ false → a ≡ bad_size n → a ≡ false → x < 65536
byte_place len n x a b l p q r s = let h = square_small n a r s in let e = as_due len (n * n) b p q in omega arith

pub row_place : (n x : ℕ) (a : Bool) → x < n → a ≡ bad_size n → a ≡ false → x < 65536
row_place n x a l r s = let h = size_small n a r s in omega arith

-- a table of bytes that pack accepts, with room for so many words
pub record Bytes (n : ℕ) (b : List ℕ) (room : ℕ) : Type 0 where
  pub size : bad_size n ≡ false
  pub long : length b ≡ n * n
  pub sound : any (length b) (bad_byte b) ≡ false
  pub fits : 4 * n ≤ room

-- a table of bits that unpack accepts, with room for so many bytes
pub record Bits (n : ℕ) (w : List ℕ) (room : ℕ) : Type 0 where
  pub size : bad_size n ≡ false
  pub long : length w ≡ 4 * n
  pub sound : any n (stray_row n w) ≡ false
  pub fits : n * n ≤ room

pub bytes_accepted : (n : ℕ) (b : List ℕ) (room : ℕ) (r : Reply) → r ≡ verdict (pack_checks n b room) → r.number ≡ 0 → Bytes n b room
unfolding pack_checks room_checks Passes numbered
bytes_accepted n b room r p z =
    let w = accepted (pack_checks n b room) refl (zero_of (pack_checks n b room) r p z) in
    record { size = w.0; long = as_due (length b) (n * n) false (sym w.1.0) refl; sound = w.1.1.0; fits = ltb-false room (4 * n) w.1.1.1.0 }

pub bits_accepted : (n : ℕ) (w : List ℕ) (room : ℕ) (r : Reply) → r ≡ verdict (unpack_checks n w room) → r.number ≡ 0 → Bits n w room
unfolding unpack_checks room_checks Passes numbered
bits_accepted n w room r p z =
    let v = accepted (unpack_checks n w room) refl (zero_of (unpack_checks n w room) r p z) in
    record { size = v.0; long = as_due (length w) (4 * n) false (sym v.1.0) refl; sound = v.1.1.0; fits = ltb-false room (n * n) v.1.1.1.0 }

pub pack_ready : (n : ℕ) (b : List ℕ) (room : ℕ) (r : Reply) → r ≡ verdict (pack_checks n b room) → r.number ≡ 0 → (n ≤ 256) × ((length b ≡ n * n) × (4 * n ≤ room))
pack_ready n b room r p z = let a = bytes_accepted n b room r p z in (size_small n (bad_size n) refl a.size, (a.long, a.fits))

pub unpack_ready : (n : ℕ) (w : List ℕ) (room : ℕ) (r : Reply) → r ≡ verdict (unpack_checks n w room) → r.number ≡ 0 → (n ≤ 256) × ((4 * n ≤ length w) × (n * n ≤ room))
unpack_ready n w room r p z = let a = bits_accepted n w room r p z in (size_small n (bad_size n) refl a.size, (let e = a.long in omega arith, a.fits))

-- the buffer

pub buffer_left : (e : Refusal) (v : Reply) (front to : List ℕ) → refused e ≡ v → (refused e ≡ v) × (to ≡ written v front to)
buffer_left e v front to p = (p, written_not (refused e) v front to p (refused_some e))

pub pack_over : (n : ℕ) (R : ℕ → ℕ → Bool) (to after : List ℕ) (r v : Reply) → after ≡ bit_table n R ++ drop (4 * n) to → r ≡ v → r.number ≡ 0 → after ≡ written v (bit_table n R) to
unfolding bit_table
pack_over n R to after r v a p z = written_over r v (words (4 * n) (bit_cell n R)) to after (4 * n) a p z (length_words (4 * n) (bit_cell n R))

pub unpack_over : (n : ℕ) (R : ℕ → ℕ → Bool) (to after : List ℕ) (r v : Reply) → after ≡ byte_table n R ++ drop (n * n) to → r ≡ v → r.number ≡ 0 → after ≡ written v (byte_table n R) to
unfolding byte_table
unpack_over n R to after r v a p z = written_over r v (tab (n * n) (cell n R)) to after (n * n) a p z (length_tab (n * n) (cell n R))
