-- Tag names (document 01). A name table (document 01: a vocabulary) is a run of names, each a length byte and that many bytes.
-- Two tables are lent, the house's and the site's, and tags count through their names.
use Rattle.std.specs.Prelude.{ℕ, zero, suc, ◌+◌, ◌≡◌, Bool, not, ◌||◌, cond, List, [], ◌∷◌, ◌++◌, Result, Ok, Err, length, take, drop, get_or, ltb, eqb}
use Rattle.std.specs.Borrow.{Bor}
use Rattle.model.specs.Refusals.{Check, refuse, refuse_here, reply, refused, verdict}
use Rattle.model.specs.declared.Reply.{Reply}
use Rattle.model.specs.declared.refusal.Refusal.{Refusal}
use Rattle.names.specs.declared.Table.{Table}
use Rattle.names.specs.declared.Table.TheVariants.{House, Site}
use Rattle.names.specs.declared.Part.{Part}

-- a length byte is not 1 to 32
abbrev pub bad_length : ℕ → Bool
bad_length l = eqb l 0 || ltb 32 l

-- the bytes are no run of names, where the first `rest` of them end a name that has begun:
-- a length byte is bad, or a name runs past the end
unfoldable pub malformed_from : ℕ → List ℕ → Bool
malformed_from rest [] = not (eqb rest 0)
malformed_from zero (b ∷ bs) = bad_length b || malformed_from b bs
malformed_from (suc rest) (b ∷ bs) = malformed_from rest bs

-- 21: the table is no run of names
abbrev pub malformed : List ℕ → Bool
malformed table = malformed_from 0 table

-- the part of a table from a position on, of so many bytes
abbrev pub part : Table → ℕ → ℕ → Part
part w start len = record { table = w; start = start; len = len }

-- the names in the bytes that stand from position `at` of a table on, where the first `rest` of them end a name that has begun.
-- A name is the part of the table after its length byte
unfoldable pub names_from : Table → ℕ → ℕ → List ℕ → List Part
names_from w at rest [] = []
names_from w at zero (b ∷ bs) = part w (suc at) b ∷ names_from w (suc at) b bs
names_from w at (suc rest) (b ∷ bs) = names_from w (suc at) rest bs

-- the names of a table, in order
abbrev pub names : Table → List ℕ → List Part
names w table = names_from w 0 0 table

-- the names by their tags: through the house's first, then the site's
abbrev pub by_tag : List ℕ → List ℕ → List Part
by_tag house site = names House house ++ names Site site

-- 22: the tag is above 65533, or has no name
unfoldable pub unnamed : List ℕ → List ℕ → ℕ → Bool
unnamed house site tag = ltb 65533 tag || not (ltb tag (length (by_tag house site)))

-- the two tables: 21
unfoldable pub name_table_checks : List ℕ → List ℕ → List Check
name_table_checks house site =
    refuse_here 21 0 (malformed house)
    ∷ refuse_here 21 1 (malformed site)
    ∷ []

-- a name request: 21 and 22
unfoldable pub name_checks : List ℕ → List ℕ → ℕ → List Check
name_checks house site tag = name_table_checks house site ++ (refuse 22 (unnamed house site tag) ∷ [])

-- what a refused request is given: the empty part at the start of the house's table
abbrev pub nothing : Part
nothing = part House 0 0

-- what a request is given: the tag's name exactly if it is accepted
unfoldable pub part_for : List ℕ → List ℕ → ℕ → Part
part_for house site tag =
    cond (eqb (verdict (name_checks house site tag)).number 0) (get_or (by_tag house site) tag nothing) nothing

-- the slice of a table
abbrev pub table_of : {X : Type 0} → Table → X → X → X
table_of House house site = house
table_of Site house site = site

-- the bytes of a part of a table
abbrev pub bytes : List ℕ → Part → List ℕ
bytes table p = take p.len (drop p.start table)

-- the slice r is a part of the house's or the site's slice: it points to the part's first byte there, and holds the part's bytes
pub record IsPart (house site r : Bor (List ℕ)) (p : Part) : Type 0 where
  pub block : r.ref_ptr.0 ≡ (table_of p.table house site).ref_ptr.0
  pub offset : r.ref_ptr.1 ≡ (table_of p.table house site).ref_ptr.1 + p.start
  pub bytes : r.now ≡ take p.len (drop p.start (table_of p.table house site).now)

-- what the code's cases stand for

-- name number k of a list; past its end, how many are still to pass
unfoldable pub found : List Part → ℕ → Result Part ℕ
found [] k = Err k
found (p ∷ ps) zero = Ok p
found (p ∷ ps) (suc k) = found ps k

-- the reply of a request
abbrev pub reply_of : Result Part Refusal → Reply
reply_of (Ok p) = reply 0 0
reply_of (Err e) = refused e

-- the part that it is given
abbrev pub part_of : Result Part Refusal → Part
part_of (Ok p) = p
part_of (Err e) = nothing

-- what a request comes to is right: its reply is the verdict, and its part the name or nothing
pub record Decided (house site : List ℕ) (tag : ℕ) (l : Result Part Refusal) : Type 0 where
  pub replied : reply_of l ≡ verdict (name_checks house site tag)
  pub given : part_of l ≡ part_for house site tag
