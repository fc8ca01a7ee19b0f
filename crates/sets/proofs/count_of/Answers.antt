use borrow.Author.Rules.{rules}
use Rattle.sets.proofs.Images.{ones_halves}
use Rattle.sets.proofs.count_of.Goals as goal

pub returns : goal.returns
returns c = search (ones_halves, rules)
