use borrow.Author.Rules.{rules}
use Rattle.model.proofs.Refusals.{stop_err, pass_ok}
use Rattle.checks.proofs.Verdicts.{cursor_numbered}
use Rattle.checks.proofs.check_paging.Goals as goal

pub returns-in_err-check_cursor : goal.returns-in_err-check_cursor
returns-in_err-check_cursor c = search (stop_err, rules)

pub returns : goal.returns
returns c = search (pass_ok, cursor_numbered, rules)
