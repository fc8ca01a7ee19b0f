-- Laws of the verdicts that the checks of a service are made of.
use Prim.Native.Nat.{ℕ, ◌≤◌}
use mathlib.Core.Path.{◌≡◌, refl, sym, ap, ◌∙◌}
use mathlib.Core.Bool.{Bool, true, false, not, cond}
use mathlib.Core.List.{List, [], ◌∷◌, ◌++◌, append_assoc}
use lib.Dec.{eqb}
use lib.ListN.{length, take}
use lib.Seq.{length-take-le}
use borrow.Author.Tests.{eq-eqb, ne_eqb}
use Rattle.model.specs.declared.Cursor.{Cursor}
use Rattle.model.specs.declared.Reply.{Reply}
use Rattle.model.specs.Tree.{size_of}
use Rattle.model.specs.Sets.{any}
use Rattle.model.specs.Refusals.{Check, lowest, refuse_at, verdict}
use Rattle.model.specs.Checks.{bad_node, tree_checks_at, tree_checks, query_checks, node_checks, cursor_checks, set_checks, room_checks, table_checks}
use Rattle.model.specs.Pages.{row_of, has_begun}
use Rattle.model.specs.Accepted.{AcceptedTree}
use Rattle.model.proofs.Refusals.{Passes-front, numbered, accepted, stop_all, pass_all}
use Rattle.model.proofs.Accepted.{tree_ordered, columns_most, tree_numbered, query_numbered}

-- a verdict of 0, from the reply that equals it
pub zero_of : (cs : List Check) (r : Reply) → r ≡ verdict cs → r.number ≡ 0 → (verdict cs).number ≡ 0
zero_of cs r p z = ap (λ (r : Reply). r.number) (sym p) ∙ z

-- numbers that are to be equal, and are not, and are

pub unlike : (a b : ℕ) → (a ≡ b → ⊥) → not (eqb a b) ≡ true
unlike a b h = rw (ne_eqb a b h)

pub alike : (a b : ℕ) → a ≡ b → not (eqb a b) ≡ false
alike a b h = rw (eq-eqb a b h)

-- The checks have numbers other than 0.

pub tables_numbered : (t q : List ℕ) (columns : ℕ) (nodes : List ℕ) → numbered (table_checks t q columns nodes) ≡ true
unfolding table_checks node_checks numbered tree_checks_at query_checks
tables_numbered t q columns nodes = refl

pub set_numbered : (t from : List ℕ) → numbered (set_checks t from) ≡ true
unfolding set_checks numbered
set_numbered t from = refl

pub cursor_numbered : (t : List ℕ) (columns : ℕ) (c : Cursor) → numbered (cursor_checks t columns c) ≡ true
unfolding cursor_checks numbered
cursor_numbered t columns c = refl

pub listing_numbered : (t q : List ℕ) (columns : ℕ) → numbered (tree_checks t ++ query_checks q 1 columns) ≡ true
unfolding numbered tree_checks_at query_checks
listing_numbered t q columns = refl

-- A verdict over two lists, as the front of one over three.

module _ (a b c : List Check) (r : Reply) (p : r ≡ verdict (a ++ b)) where
  pub stop_both : (r.number ≡ 0 → ⊥) → r ≡ verdict (a ++ (b ++ c))
  stop_both z = stop_all (a ++ b) c r p z ∙ ap verdict (append_assoc a b c)

  pub pass_both : (s : Reply) → s ≡ verdict c → r.number ≡ 0 → numbered (a ++ b) ≡ true → s ≡ verdict (a ++ (b ++ c))
  pass_both s q z n = pass_all (a ++ b) c r s q p z n ∙ ap verdict (append_assoc a b c)

-- What earlier checks give the later ones.

-- an accepted tree leaves the verdict to the checks behind its own
pub tree_first : (t : List ℕ) (b : List Check) (s : Reply) → s ≡ verdict b → AcceptedTree t → s ≡ verdict (tree_checks t ++ b)
tree_first t b s q w = pass_all (tree_checks t) b (verdict (tree_checks t)) s q refl w (tree_numbered t)

-- an accepted query has at most three variables
pub columns_few : (q : List ℕ) (least columns : ℕ) (r : Reply) → r ≡ verdict (query_checks q least columns) → r.number ≡ 0 → columns ≤ 3
columns_few q least columns r p z = columns_most q least columns (accepted (query_checks q least columns) (query_numbered q least columns) (zero_of (query_checks q least columns) r p z))

-- the same of an accepted listing
pub listing_few : (t q : List ℕ) (columns : ℕ) (r : Reply) → r ≡ verdict (tree_checks t ++ query_checks q 1 columns) → r.number ≡ 0 → columns ≤ 3
listing_few t q columns r p z =
    let v = Passes-front (tree_checks t) (query_checks q 1 columns) (tree_numbered t) (zero_of (tree_checks t ++ query_checks q 1 columns) r p z) in
    columns_few q 1 columns (verdict (query_checks q 1 columns)) refl v.1

-- an accepted tree has at most 256 nodes
pub tables_fit : (t q nodes : List ℕ) (columns : ℕ) (r : Reply) → r ≡ verdict (table_checks t q columns nodes) → r.number ≡ 0 → size_of t ≤ 256
unfolding table_checks
tables_fit t q nodes columns r p z =
    let v = Passes-front (tree_checks t) (query_checks q 0 columns ++ node_checks t columns nodes) (tree_numbered t) (zero_of (table_checks t q columns nodes) r p z) in
    (tree_ordered t v.0).sound.at_most

pub room_of : (room size m : ℕ) (s : Reply) → s ≡ verdict (room_checks room size) → size ≡ m → s ≡ verdict (room_checks room m)
room_of room size m s p e = p ∙ ap (λ (k : ℕ). verdict (room_checks room k)) e

-- The check of a cursor.

module _ (t : List ℕ) (columns : ℕ) (c : Cursor) (used : ℕ) where
  abbrev numbers : List ℕ
  numbers = c.first ∷ c.second ∷ c.third ∷ []

  -- the checks of the numbers that are used are those of the cursor
  pub cursor_listed : (r : Reply) → r ≡ verdict (refuse_at 17 (length (take used numbers)) (bad_node t (take used numbers)) ∷ []) → used ≡ cond (has_begun c) columns 0 → columns ≤ 3
      → r ≡ verdict (cursor_checks t columns c)
  unfolding cursor_checks verdict lowest any
  cursor_listed r p e h = p ∙ go (has_begun c) refl
    where
      go : (b : Bool) → has_begun c ≡ b → verdict (refuse_at 17 (length (take used numbers)) (bad_node t (take used numbers)) ∷ []) ≡ verdict (refuse_at 17 (cond (has_begun c) columns 0) (bad_node t (row_of columns c)) ∷ [])
      go true d = let u : used ≡ columns = e ∙ rw d in rw (d, u, length-take-le columns numbers h)
      go false d = let u : used ≡ 0 = e ∙ rw d in rw (d, u)
