-- The starred lines of document 01, proved from the definitions by computation: one list, one claim.
use mathlib.Core.Path.{refl}
use Rattle.model.specs.Sets.{any, upto, tab, ones, memb, image}
use Rattle.model.specs.Axes.{climbs, child, right, following_sibling, descendant, following, preceding, descendant_or_self, ancestor_or_self, axis, passes, steps}
use Rattle.model.specs.Meaning.{pairs_over, holds_over}
use Rattle.model.specs.QueryTable.{parse, parse_over, grow, parsed, parsed_at}
use Rattle.model.specs.Results.{assigned, related, image_bytes}
use Rattle.model.specs.Answers.{satisfied, answers}
use Rattle.model.specs.Refusals.{lowest, verdict, written}
use Rattle.model.specs.Kinds.{is_path, left_path, left_expr, right_path, right_expr, names_variable}
use Rattle.model.specs.Checks.{bad_parent, tree_checks_at, bad_entry, uses, query_checks, node_checks, cursor_checks, set_checks, room_checks, table_checks, image_checks, page_checks}
use Rattle.model.specs.Services.{page_outcome}
use Rattle.model.specs.Warehouse as w

-- every starred line is correct: its calls are accepted, and leave what the line tells
pub starred_correct : w.AllCorrect w.starred
unfolding w.AllCorrect w.Correct w.Reaches w.InTurn w.starred w.set_of w.among w.warehouse w.one_node w.following_any w.preceding_any w.right_any w.parent_any w.child_pallet w.self_and_right w.below_children w.last_bay w.root_bays w.self_or_bay w.bay_and_pallet w.pages_of_two page_outcome written verdict image_checks set_checks table_checks page_checks tree_checks_at query_checks node_checks cursor_checks room_checks bad_parent bad_entry uses is_path left_path left_expr right_path right_expr names_variable lowest answers satisfied image_bytes related assigned parsed_at parsed grow parse_over parse pairs_over holds_over steps passes axis child right following_sibling descendant following preceding descendant_or_self ancestor_or_self climbs image upto memb ones tab any
starred_correct = ((refl, refl), ((refl, refl), ((refl, refl), ((refl, refl), ((refl, refl), ((refl, refl), ((refl, refl), ((refl, refl), ((refl, refl), ((refl, refl), ((refl, refl), ((refl, tt), ((refl, tt), ((refl, tt), ((refl, (refl, (refl, tt))), ((refl, tt), tt))))))))))))))))
