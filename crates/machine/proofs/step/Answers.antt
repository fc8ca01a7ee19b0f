use Rattle.machine.proofs.Steps.{step_want, step_axis, step_name, step_have}
use borrow.Author.Rules.{rules}
use Rattle.machine.proofs.step.Goals as goal

pub returns-in-0 : goal.returns-in-0
returns-in-0 c = search (step_want, rules)

pub returns-in-1 : goal.returns-in-1
returns-in-1 c = search (step_axis, rules)

pub returns-in_default : goal.returns-in_default
returns-in_default c = search (step_name, rules)

pub returns-in_default-2 : goal.returns-in_default-2
returns-in_default-2 c = search (step_have, rules)
