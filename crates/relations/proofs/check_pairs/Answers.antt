use borrow.Author.Rules.{rules}
use Rattle.model.proofs.Refusals.{stop_err, pass_ok}
use Rattle.checks.proofs.Verdicts.{tables_numbered}
use Rattle.relations.specs.Services.{bit_pairs_checks}
use Rattle.relations.proofs.check_pairs.Goals as goal

pub returns-in_err-check_tables : goal.returns-in_err-check_tables
unfolding bit_pairs_checks
returns-in_err-check_tables c = search (stop_err, rules)

pub returns : goal.returns
unfolding bit_pairs_checks
returns c = search (pass_ok, tables_numbered, rules)
