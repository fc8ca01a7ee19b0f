use borrow.Author.Rules.{rules}
use Rattle.model.proofs.Refusals.{accept, stop, pass}
use Rattle.query.proofs.check_last.Goals as goal

pub returns-then-is_bad_last : goal.returns-then-is_bad_last
returns-then-is_bad_last c = search (stop, rules)

pub returns : goal.returns
returns c = search (accept, pass, rules)
