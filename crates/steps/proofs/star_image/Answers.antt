use borrow.Author.Rules.{rules}
use Rattle.steps.proofs.Images.{star_of}
use Rattle.steps.proofs.star_image.Goals as goal

pub returns : goal.returns
returns c = search (star_of, rules)
