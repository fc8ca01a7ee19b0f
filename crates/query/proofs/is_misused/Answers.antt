use borrow.Author.Rules.{rules}
use Rattle.query.proofs.Uses.{use_once}
use Rattle.query.proofs.is_misused.Goals as goal

pub returns : goal.returns
returns c = search (use_once, rules)
