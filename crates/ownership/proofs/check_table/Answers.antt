use borrow.Author.Rules.{rules}
use Rattle.model.specs.Checks.{tree_checks_at}
use Rattle.model.specs.Parties.{shared_checks}
use Rattle.model.proofs.Refusals.{stop, pass}
use Rattle.model.proofs.Searches.{stop_one, pass_one}
use Rattle.ownership.proofs.Nodes.{some_nodes}
use Rattle.ownership.proofs.check_table.Goals as goal

pub returns-then-is_bad_tree_length : goal.returns-then-is_bad_tree_length
unfolding shared_checks tree_checks_at
returns-then-is_bad_tree_length c = search (stop, rules)

pub check_parents-requires : goal.check_parents-requires
check_parents-requires c = (some_nodes _ _ c.is_bad_tree_length.ensures c.if-is_bad_tree_length.false).1

pub returns-in_err-check_parents : goal.returns-in_err-check_parents
unfolding shared_checks tree_checks_at
returns-in_err-check_parents c = search (stop_one, pass, rules)

pub check_numbers-requires : goal.check_numbers-requires
check_numbers-requires c = some_nodes _ _ c.is_bad_tree_length.ensures c.if-is_bad_tree_length.false

pub returns : goal.returns
unfolding shared_checks tree_checks_at
returns c = search (pass_one, pass, rules)
