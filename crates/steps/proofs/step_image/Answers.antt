use borrow.Author.Rules.{rules}
use Rattle.steps.proofs.Images.{step_whole, step_on, step_back}
use Rattle.steps.proofs.step_image.Goals as goal

pub returns-then-all : goal.returns-then-all
returns-then-all c = search (step_whole, rules)

pub returns-then-back : goal.returns-then-back
returns-then-back c = rw c.if-back.true (search (step_back, rules))

pub returns : goal.returns
returns c = rw c.if-back.false (search (step_on, rules))
