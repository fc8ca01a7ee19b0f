use native.Mathlib.Omega.{arith}
use Rattle.tables.proofs.Tables.{rows_start, rows_end, keep_more}
use Rattle.tables.proofs.keep.Goals as goal

pub loop-x-init : goal.loop-x-init
loop-x-init c = rows_start _ _

pub loop-x-preserved : goal.loop-x-preserved
loop-x-preserved c = keep_more _ _ _ _ _ _ c.loop-x.invariant c.keep_if.ensures c.test.ensures

pub shape_of-acc : goal.shape_of-acc
shape_of-acc c = c.loop-x.invariant.size

pub returns : goal.returns
returns c = rows_end _ _ _ _ _ c.loop-x.invariant (omega arith) (omega arith)
