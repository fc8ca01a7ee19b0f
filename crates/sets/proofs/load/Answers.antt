use borrow.Author.Rules.{rules}
use Rattle.model.specs.Sets.{memb}
use Rattle.model.proofs.Bytes.{fill_start, fill_store}
use Rattle.sets.proofs.load.Goals as goal

pub loop-i-init : goal.loop-i-init
loop-i-init c = search (fill_start, rules)

pub loop-i-preserved : goal.loop-i-preserved
unfolding memb
loop-i-preserved c = fill_store 256 _ _ _ _ c.loop-i.invariant c.byte.ensures
