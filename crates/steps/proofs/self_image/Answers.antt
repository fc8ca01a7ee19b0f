use borrow.Author.Rules.{rules}
use Rattle.steps.proofs.Images.{self_of}
use Rattle.steps.proofs.self_image.Goals as goal

pub returns : goal.returns
returns c = search (self_of, rules)
