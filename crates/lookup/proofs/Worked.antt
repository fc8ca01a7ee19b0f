-- The calls of specs/Worked.antt, proved from the definitions by computation: one list, one claim.
use mathlib.Core.Path.{refl}
use Rattle.model.specs.Sets.{any, tab, ones}
use Rattle.model.specs.Axes.{climbs, descendant, descendant_or_self}
use Rattle.model.specs.Refusals.{lowest, verdict, written}
use Rattle.model.specs.Checks.{bad_parent, tree_checks_at, room_checks}
use Rattle.model.specs.Warehouse.{warehouse, among, set_of}
use Rattle.index.specs.Index.{has_from, first_from}
use Rattle.index.specs.Worked.{warehouse_index}
use Rattle.lookup.specs.Chain.{wrong, chain_from, chain_of, is_broken, broken_at, is_met, met_bytes, chain_checks, lookup_checks}
use Rattle.lookup.specs.Worked.{Correct, AllCorrect, damaged, calls}

-- every call leaves what the list tells
pub calls_correct : AllCorrect calls
unfolding AllCorrect Correct calls damaged warehouse warehouse_index set_of among written verdict lookup_checks chain_checks tree_checks_at room_checks bad_parent met_bytes is_met is_broken broken_at chain_of chain_from wrong first_from has_from lowest descendant_or_self descendant climbs ones tab any
calls_correct = ((refl, refl), ((refl, refl), ((refl, refl), ((refl, refl), ((refl, refl), ((refl, refl), ((refl, refl), ((refl, refl), ((refl, refl), ((refl, refl), ((refl, refl), ((refl, refl), ((refl, refl), ((refl, refl), tt))))))))))))))
