-- The tag of a typed name: the lowest tag up to 65533 whose name has the same bytes. Tags count through the house's names first,
-- then the site's.
use Rattle.std.specs.Prelude.{ℕ, suc, Bool, true, false, cond, List, [], ◌∷◌, Option, Some, None, Result, Ok, Err, map, take, ltb}
use Rattle.model.specs.Lists.{equal}
use Rattle.names.specs.declared.Table.TheVariants.{House}
use Rattle.names.specs.declared.Part.{Part}
use Rattle.names.specs.Names.{names, by_tag, table_of, bytes}

-- the bytes of a name, from the table that it stands in
abbrev pub spelling : List ℕ → List ℕ → Part → List ℕ
spelling house site p = bytes (table_of p.table house site) p

-- the first of these names that has the bytes sought, by its number, counted from k
unfoldable pub first_from : ℕ → List ℕ → List (List ℕ) → Option ℕ
first_from k name [] = None
first_from k name (w ∷ ws) = cond (equal w name) (Some k) (first_from (suc k) name ws)

-- the lowest tag of a name: the first of the names with the tags 0 to 65533 that has its bytes
unfoldable pub tag_of : List ℕ → List ℕ → List ℕ → Option ℕ
tag_of house site name = first_from 0 name (take 65534 (map (spelling house site) (by_tag house site)))

-- what the code's cases stand for

-- whether there is such a tag
abbrev pub is_known : Option ℕ → Bool
is_known (Some t) = true
is_known None = false

-- the tag; 0 where there is none
abbrev pub tag_number : Option ℕ → ℕ
tag_number (Some t) = t
tag_number None = 0

-- the names of one table, as bytes
abbrev pub spellings : List ℕ → List (List ℕ)
spellings table = map (bytes table) (names House table)

-- the search of one table for a name: its number, counted from k; else how many are counted by the table's end, or by tag 65534
unfoldable pub hit_from : ℕ → List ℕ → List (List ℕ) → Result ℕ ℕ
hit_from k name [] = Err k
hit_from k name (w ∷ ws) = cond (ltb 65533 k) (Err k) (cond (equal w name) (Ok k) (hit_from (suc k) name ws))
