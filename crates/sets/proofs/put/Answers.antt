use native.Mathlib.Omega.{arith}
use borrow.Author.Rules.{rules}
use Rattle.model.specs.Sets.{memb}
use Rattle.model.proofs.Bytes.{over_start, over_more}
use Rattle.sets.proofs.put.Goals as goal

pub loop-i-init : goal.loop-i-init
loop-i-init c = search (over_start, rules)

pub loop-i-preserved : goal.loop-i-preserved
unfolding memb
loop-i-preserved c = over_more _ _ _ _ _ c.loop-i.invariant c.byte-b.ensures (omega arith)
