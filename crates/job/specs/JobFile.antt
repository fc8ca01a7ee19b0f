-- The job file (documents 01 and 02, §8): its numbers, its trailer, its two parts, and refusals 1 to 4.
use Rattle.std.specs.Prelude.{ℕ, zero, suc, ◌+◌, ◌-◌, ◌*◌, ◌≡◌, Bool, false, not, ◌&&◌, ◌||◌, cond, List, [], ◌∷◌, Result, Ok, Err, length, get_or, take, ltb, leb, eqb}
use Rattle.model.specs.Sets.{any}
use Rattle.model.specs.Refusals.{Check, refuse, refuse_here, reply, refused, verdict}
use Rattle.model.specs.declared.Reply.{Reply}
use Rattle.model.specs.declared.refusal.Refusal.{Refusal}
use Rattle.job.specs.declared.Span.{Span}
use Rattle.job.specs.declared.Parts.{Parts}
use Rattle.job.specs.declared.Pointer.{Pointer}
use Rattle.job.specs.declared.Trailer.{Trailer}

-- the number at a byte of a file: little-endian, 16 bits
unfoldable pub number_at : List ℕ → ℕ → ℕ
number_at file at = get_or file at 0 + 256 * get_or file (at + 1) 0

-- so many numbers from a byte on
unfoldable pub numbers : List ℕ → ℕ → ℕ → List ℕ
numbers file at zero = []
numbers file at (suc n) = number_at file at ∷ numbers file (at + 2) n

-- the distance and the count of a part, at a byte of the trailer
abbrev pub pointer_at : List ℕ → ℕ → Pointer
pointer_at file at = record { distance = number_at file at; count = number_at file (at + 2) }

-- the last number of a file: its magic number (document 01: the mark). 20565 marks a file with owners and a party (document 02, §8), 20564
-- one of old
abbrev pub magic_of : List ℕ → ℕ
magic_of file = number_at file (length file - 2)

-- how many bytes the trailer has
unfoldable pub trailer_size : ℕ → ℕ
trailer_size magic = cond (eqb magic 20565) 14 12

-- the byte at which it begins
abbrev pub trailer_start : List ℕ → ℕ
trailer_start file = length file - trailer_size (magic_of file)

-- the party: before the magic number; files of old are party 1's
unfoldable pub party_of : List ℕ → ℕ → ℕ → ℕ
party_of file start magic = cond (eqb magic 20565) (number_at file (start + 10)) 1

-- the trailer at a byte: tree distance and count, query distance and count, number of variables, party, magic number
abbrev pub trailer_at : List ℕ → ℕ → ℕ → Trailer
trailer_at file start magic =
    record {
      tree = pointer_at file start;
      query = pointer_at file (start + 4);
      columns = number_at file (start + 8);
      party = party_of file start magic;
      magic = magic;
    }

-- the trailer of a file
abbrev pub trailer_of : List ℕ → Trailer
trailer_of file = trailer_at file (trailer_start file) (magic_of file)

-- 1: shorter than the trailer, or longer than 4,096 bytes
unfoldable pub bad_length : ℕ → ℕ → Bool
bad_length magic n = ltb n (trailer_size magic) || ltb 4096 n

-- 2: neither of the two marks
unfoldable pub bad_magic : ℕ → Bool
bad_magic magic = not (eqb magic 20564) && not (eqb magic 20565)

-- the part that a pointer gives in a file of n bytes: the distance points back from the file's end to its first byte
abbrev pub span_of : ℕ → Pointer → Span
span_of n p = record { start = n - p.distance; count = p.count }

-- the byte after a part; a number is two bytes
abbrev pub end_of : Span → ℕ
end_of s = s.start + 2 * s.count

-- 3: the part begins before the file or ends after the trailer's start. A part of no numbers ends where it begins
unfoldable pub outside : ℕ → ℕ → Pointer → Bool
outside n start p = ltb n p.distance || ltb start (end_of (span_of n p))

-- a byte is one of the part's
abbrev pub covers : Span → ℕ → Bool
covers s byte = leb s.start byte && ltb byte (end_of s)

-- 4: some byte of the file is in both parts
unfoldable pub overlap : ℕ → Span → Span → Bool
overlap n a b = any n (λ byte. covers a byte && covers b byte)

-- 3 and 4 for a file of n bytes whose trailer begins at a byte
unfoldable pub part_checks : ℕ → ℕ → Pointer → Pointer → List Check
part_checks n start tree query =
    refuse_here 3 0 (outside n start tree)
    ∷ refuse_here 3 1 (outside n start query)
    ∷ refuse 4 (overlap n (span_of n tree) (span_of n query))
    ∷ []

-- 1 to 4
unfoldable pub file_checks : List ℕ → List Check
file_checks file =
    refuse 1 (bad_length (magic_of file) (length file))
    ∷ refuse 2 (bad_magic (magic_of file))
    ∷ part_checks (length file) (trailer_start file) (trailer_of file).tree (trailer_of file).query

-- what a file gives: 0 with its parts, its number of variables, its party and whether its nodes have owners, or a refusal with all else 0
pub record Job : Type 0 where
  pub reply : Reply
  pub tree : Span
  pub query : Span
  pub columns : ℕ
  pub party : ℕ
  pub owners : Bool

-- a refusal, with no parts
abbrev pub refused_job : Reply → Job
refused_job r =
    record { reply = r; tree = record { start = 0; count = 0 }; query = record { start = 0; count = 0 }; columns = 0; party = 0; owners = false }

-- a reply with what the trailer says of a file of n bytes
abbrev pub job_with : Reply → ℕ → Trailer → Job
job_with r n t =
    record {
      reply = r;
      tree = span_of n t.tree;
      query = span_of n t.query;
      columns = t.columns;
      party = t.party;
      owners = eqb t.magic 20565;
    }

-- what a file gives: the verdict, with its parts exactly if it is accepted
unfoldable pub job_of : List ℕ → Job
job_of file =
    cond (eqb (verdict (file_checks file)).number 0)
    (job_with (verdict (file_checks file)) (length file) (trailer_of file))
    (refused_job (verdict (file_checks file)))

-- what the opening of a file comes to
abbrev pub opened : Result Parts Refusal → Job
opened (Ok p) =
    record { reply = reply 0 0; tree = p.tree; query = p.query; columns = p.columns; party = p.party; owners = p.owners }
opened (Err e) = refused_job (refused e)

-- a tree table of two numbers a node, as files of old have it, as a shared table: every node is common. A number too many stays at the
-- end, so that a bad length stays one
unfoldable pub widened : List ℕ → List ℕ
widened [] = []
widened (p ∷ []) = p ∷ []
widened (p ∷ g ∷ t) = p ∷ g ∷ 0 ∷ widened t

-- a table stands at the front of a buffer of 3,072 numbers, and so many are its
pub record Fronts (t : List ℕ) (count : ℕ) (buffer : List ℕ) : Type 0 where
  pub long : count ≡ length t
  pub size : length buffer ≡ 3072
  pub front : take count buffer ≡ t
