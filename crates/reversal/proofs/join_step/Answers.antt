use Rattle.reversal.proofs.Building.{joins_step}
use borrow.Author.Rules.{rules}
use Rattle.reversal.proofs.join_step.Goals as goal

pub returns : goal.returns
returns c = search (joins_step, rules)
