-- The calls of specs/Replies.antt, proved from the definitions by computation: one list, one claim.
use mathlib.Core.Path.{◌≡◌, refl}
use mathlib.Core.List.{map}
use Rattle.model.specs.Sets.{any}
use Rattle.model.specs.Axes.{climbs, descendant, descendant_or_self}
use Rattle.model.specs.QueryTable.{parse, parse_over, grow, parsed, parsed_at}
use Rattle.model.specs.Refusals.{lowest, verdict}
use Rattle.model.specs.Sharing.{in_path, in_expr, path_breaks, expr_breaks, breaks, sharing_checks}
use Rattle.model.specs.Kinds.{is_path, left_path, left_expr, right_path, right_expr, names_variable}
use Rattle.model.specs.Checks.{bad_parent, tree_checks_at, bad_entry, uses, query_checks, node_checks, cursor_checks, set_checks, room_checks, table_checks, image_checks, pairs_checks, page_checks, quick_checks}
use Rattle.model.specs.Warehouse.{warehouse, child_pallet, self_or_bay, bay_and_pallet}
use Rattle.model.specs.Replies.{given, due, star, roots, twice, twice_at, same_at, calls}

-- every call gets the reply that is due
pub replies_due : map given calls ≡ map due calls
unfolding given due star roots twice twice_at same_at calls warehouse child_pallet self_or_bay bay_and_pallet verdict image_checks pairs_checks set_checks table_checks page_checks quick_checks sharing_checks breaks path_breaks expr_breaks in_path in_expr parsed_at parse_over parsed grow parse tree_checks_at query_checks node_checks cursor_checks room_checks bad_parent bad_entry uses is_path left_path left_expr right_path right_expr names_variable lowest descendant descendant_or_self climbs any
replies_due = refl
