use Rattle.opening.proofs.Filling.{front_made}
use borrow.Author.Rules.{rules}
use Rattle.opening.proofs.front.Goals as goal

pub returns : goal.returns
returns c = search (front_made, rules)
