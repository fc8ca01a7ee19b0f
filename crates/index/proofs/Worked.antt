-- The calls of specs/Worked.antt, proved from the definitions by computation.
use Prim.Native.Nat.{ℕ}
use mathlib.Core.Path.{◌≡◌, refl, sym, ap, ◌∙◌}
use mathlib.Core.List.{List, [], ◌∷◌, ◌++◌, map}
use Rattle.model.specs.Sets.{any, tab, ones}
use Rattle.model.specs.Tree.{tree_of}
use Rattle.model.specs.Axes.{climbs, descendant, descendant_or_self}
use Rattle.model.specs.Pages.{flat}
use Rattle.model.specs.Refusals.{lowest, verdict}
use Rattle.model.specs.Checks.{bad_parent, tree_checks_at, tree_checks, room_checks}
use Rattle.model.specs.Replies.{given, due}
use Rattle.model.specs.Warehouse.{warehouse}
use Rattle.index.specs.Index.{has_from, first_from, next_of, nexts, index_of, count_of, present_below, present, entry_of, tag_list, buffers_checks, index_checks}
use Rattle.index.specs.Worked.{warehouse_index, warehouse_tags, calls}
use Rattle.index.proofs.Verdicts.{buffers_decide}

-- the warehouse has the index of specs/Worked.antt
pub warehouse_index_lem : index_of (tree_of warehouse) ≡ warehouse_index
unfolding index_of nexts next_of first_from has_from any lowest warehouse warehouse_index
warehouse_index_lem = refl

-- looks at all 65,536 numbers; the laws below cite what it finds
warehouse_present : present (tree_of warehouse) ≡ (1 ∷ 2 ∷ 3 ∷ [])
unfolding present present_below any warehouse
warehouse_present = refl

warehouse_entries : flat (map (entry_of (tree_of warehouse)) (1 ∷ 2 ∷ 3 ∷ [])) ≡ warehouse_tags
unfolding count_of first_from has_from any lowest tab ones warehouse warehouse_tags
warehouse_entries = refl

-- and the list of tags
pub warehouse_tags_lem : tag_list (tree_of warehouse) ≡ warehouse_tags
unfolding tag_list
warehouse_tags_lem = ap (λ (l : List ℕ). flat (map (entry_of (tree_of warehouse)) l)) warehouse_present ∙ warehouse_entries

warehouse_accepted : (verdict (tree_checks warehouse)).number ≡ 0
unfolding warehouse verdict tree_checks_at bad_parent lowest descendant descendant_or_self climbs any
warehouse_accepted = refl

warehouse_size : (tree_of warehouse).size ≡ 6
unfolding warehouse
warehouse_size = refl

warehouse_rooms : (next tags : ℕ) → verdict (index_checks warehouse next tags) ≡ verdict (room_checks next 6 ++ room_checks tags 9)
unfolding buffers_checks
warehouse_rooms next tags = sym (buffers_decide warehouse next tags warehouse_accepted) ∙ rw (warehouse_present, warehouse_size)

-- every call gets the reply that is due
pub index_replies : map given calls ≡ map due calls
unfolding given due calls verdict index_checks tree_checks_at room_checks bad_parent lowest descendant descendant_or_self climbs any
index_replies = rw (warehouse_rooms 6 9, warehouse_rooms 5 9, warehouse_rooms 6 8)
