use borrow.Author.Rules.{rules}
use Rattle.steps.proofs.Images.{following_by}
use Rattle.steps.proofs.following_image.Goals as goal

pub returns : goal.returns
returns c = search (following_by, rules)
