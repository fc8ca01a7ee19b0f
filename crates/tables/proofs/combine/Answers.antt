use native.Mathlib.Omega.{arith}
use Rattle.tables.proofs.Tables.{front_start, combine_more, combine_end}
use Rattle.tables.proofs.combine.Goals as goal

pub loop-i-init : goal.loop-i-init
loop-i-init c = front_start _ _

pub loop-i-preserved : goal.loop-i-preserved
loop-i-preserved c = combine_more _ _ _ _ _ _ c.loop-i.invariant _ c.join-v.ensures (omega arith)

pub shape_of-acc : goal.shape_of-acc
shape_of-acc c = c.loop-i.invariant.size

pub returns : goal.returns
returns c = combine_end _ _ _ _ _ _ c.loop-i.invariant _ (omega arith) (omega arith)
