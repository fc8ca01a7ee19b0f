-- Each way out is a line of the verdict.
use Rattle.model.proofs.Refusals.{accept, stop, pass}
use Rattle.names.specs.Names.{name_table_checks}
use borrow.Author.Rules.{rules}
use Rattle.names.proofs.check_tables.Goals as goal

pub returns-then-is_malformed : goal.returns-then-is_malformed
unfolding name_table_checks
returns-then-is_malformed c = search (accept, stop, pass, rules)

pub returns-then-is_malformed-2 : goal.returns-then-is_malformed-2
unfolding name_table_checks
returns-then-is_malformed-2 c = search (accept, stop, pass, rules)

pub returns : goal.returns
unfolding name_table_checks
returns c = search (accept, stop, pass, rules)
