use native.Mathlib.Omega.{arith}
use mathlib.Core.Path.{refl}
use borrow.Author.Rules.{rules}
use Rattle.model.specs.Checks.{table_checks}
use Rattle.model.proofs.Refusals.{stop_err, pass_ok}
use Rattle.model.proofs.Accepted.{query_numbered}
use Rattle.checks.proofs.Verdicts.{tree_first, columns_few}
use Rattle.checks.proofs.check_tables.Goals as goal

pub returns-in_err-check_query : goal.returns-in_err-check_query
unfolding table_checks
returns-in_err-check_query c = search (tree_first, stop_err, rules)

pub check_nodes-requires : goal.check_nodes-requires
check_nodes-requires c = omega (arith, columns_few _ _ _ _ c.in_ok-check_query.ensures refl)

pub returns : goal.returns
unfolding table_checks
returns c = search (tree_first, pass_ok, query_numbered, rules)
