-- The two conversions as total functions (document 02, §6): the refusals in checking order, and from all that a call is lent to its
-- reply and the buffer afterwards.
use Rattle.std.specs.Prelude.{ℕ, ◌*◌, ◌≡◌, Bool, not, ◌&&◌, ◌||◌, List, ◌∷◌, length, ltb, eqb}
use Rattle.model.specs.declared.Reply.{Reply}
use Rattle.model.specs.Sets.{any}
use Rattle.model.specs.Refusals.{Check, refuse, refuse_at, verdict, written}
use Rattle.model.specs.Checks.{bad_byte, room_checks}
use Rattle.bits.specs.BitTables.{bit_relation, packed, unpacked}

-- 5: a lent n is not from 1 to 256
abbrev pub bad_size : ℕ → Bool
bad_size n = eqb n 0 || ltb 256 n

-- bit y of row x is set, and is at or beyond n (document 02: a stray bit)
abbrev pub stray : ℕ → List ℕ → ℕ → ℕ → Bool
stray n w x y = not (ltb y n) && bit_relation w x y

-- 28: row x has a stray bit
unfoldable pub stray_row : ℕ → List ℕ → ℕ → Bool
stray_row n w x = any 256 (stray n w x)

-- bytes to bits: 5; 18, the table is not n × n bytes; 19 for each byte; 20, for a buffer of so many words
unfoldable pub pack_checks : ℕ → List ℕ → ℕ → List Check
pack_checks n b room =
    refuse 5 (bad_size n)
    ∷ refuse 18 (not (eqb (length b) (n * n)))
    ∷ refuse_at 19 (length b) (bad_byte b)
    ∷ room_checks room (4 * n)

-- bits to bytes: 5; 18, the table is not 4 × n words; 28 for each row; 20, for a buffer of so many bytes
unfoldable pub unpack_checks : ℕ → List ℕ → ℕ → List Check
unpack_checks n w room =
    refuse 5 (bad_size n)
    ∷ refuse 18 (not (eqb (length w) (4 * n)))
    ∷ refuse_at 28 n (stray_row n w)
    ∷ room_checks room (n * n)

-- the reply of pack: to n, a table of bytes, and the buffer
abbrev pub pack_reply : ℕ → List ℕ → List ℕ → Reply
pack_reply n b to = verdict (pack_checks n b (length to))

-- a reply, and a buffer as it was left, are those of pack (document 02: bytes to bits)
abbrev pub PackLeaves : ℕ → List ℕ → List ℕ → Reply → List ℕ → Type 0
PackLeaves n b to r after = (r ≡ pack_reply n b to) × (after ≡ written (pack_reply n b to) (packed n b) to)

-- the reply of unpack: to n, a table of bits, and the buffer
abbrev pub unpack_reply : ℕ → List ℕ → List ℕ → Reply
unpack_reply n w to = verdict (unpack_checks n w (length to))

-- a reply, and a buffer as it was left, are those of unpack (document 02: bits to bytes)
abbrev pub UnpackLeaves : ℕ → List ℕ → List ℕ → Reply → List ℕ → Type 0
UnpackLeaves n w to r after = (r ≡ unpack_reply n w to) × (after ≡ written (unpack_reply n w to) (unpacked n w) to)
