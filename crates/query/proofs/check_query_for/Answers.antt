use borrow.Author.Rules.{rules}
use Rattle.model.proofs.Refusals.{stop, pass}
use Rattle.model.specs.Checks.{query_checks}
use Rattle.query.proofs.Entries.{few_entries}
use Rattle.query.proofs.check_query_for.Goals as goal

pub returns-then-is_bad_query_length : goal.returns-then-is_bad_query_length
unfolding query_checks
returns-then-is_bad_query_length c = search (stop, pass, rules)

pub returns-then-is_bad_variable_count : goal.returns-then-is_bad_variable_count
unfolding query_checks
returns-then-is_bad_variable_count c = search (stop, pass, rules)

pub check_entries-requires : goal.check_entries-requires
check_entries-requires c = few_entries _ _ c.is_bad_query_length.ensures c.if-is_bad_query_length.false

pub returns : goal.returns
unfolding query_checks
returns c = search (stop, pass, rules)
