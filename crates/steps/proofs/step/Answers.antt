use borrow.Author.Rules.{rules}
use Rattle.model.proofs.Counts.{ones_bytes}
use Rattle.steps.proofs.step.Goals as goal

pub returns : goal.returns
returns c = search (ones_bytes, rules)
