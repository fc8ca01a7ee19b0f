use native.Mathlib.Omega.{arith}
use mathlib.Core.Path.{◌∙◌}
use Rattle.tables.proofs.Closing.{close_start, close_more, close_end}
use Rattle.tables.proofs.close.Goals as goal

pub loop-z-init : goal.loop-z-init
loop-z-init c = close_start _ _ _ c.join_diagonal.ensures

pub loop-z-preserved : goal.loop-z-preserved
loop-z-preserved c = close_more _ _ _ _ _ c.loop-z.invariant c.join_through.ensures (omega arith) (omega arith)

pub shape_of-acc : goal.shape_of-acc
shape_of-acc c = c.loop-z.invariant.size ∙ c.join_diagonal.ensures.size

pub returns : goal.returns
returns c = close_end _ _ _ c.join_diagonal.ensures _ _ c.loop-z.invariant (omega arith) (omega arith) (omega arith)
