use native.Mathlib.Omega.{arith}
use Rattle.tables.proofs.Tables.{rows_start, rows_end}
use Rattle.tables.proofs.Closing.{rows_joined}
use Rattle.tables.proofs.closure.join_through.Goals as goal

pub loop-x-init : goal.loop-x-init
loop-x-init c = rows_start _ _

pub loop-x-preserved : goal.loop-x-preserved
loop-x-preserved c = rows_joined _ _ _ _ c.loop-x.invariant _ c.join_row.ensures (omega arith)

pub shape_of-acc : goal.shape_of-acc
shape_of-acc c = c.loop-x.invariant.size

pub returns : goal.returns
returns c = rows_end _ _ _ _ _ c.loop-x.invariant (omega arith) (omega arith)
