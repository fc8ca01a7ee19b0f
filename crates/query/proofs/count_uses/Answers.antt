use borrow.Author.Rules.{rules}
use Rattle.query.proofs.Uses.{counted_start, counted_more, counted_end}
use Rattle.query.proofs.count_uses.Goals as goal

pub loop-e-init : goal.loop-e-init
loop-e-init c = counted_start _

pub loop-e-preserved : goal.loop-e-preserved
loop-e-preserved c = search (counted_more, rules)

pub returns : goal.returns
returns c = search (counted_end, rules)
