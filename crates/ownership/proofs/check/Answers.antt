use borrow.Author.Rules.{rules}
use Rattle.model.proofs.Parties.{shared_numbered}
use Rattle.model.proofs.Refusals.{stop_err, pass_ok}
use Rattle.ownership.proofs.check.Goals as goal

pub returns-in_err-check_table : goal.returns-in_err-check_table
returns-in_err-check_table c = search (stop_err, rules)

pub returns : goal.returns
returns c = search (pass_ok, shared_numbered, rules)
