use Rattle.job.proofs.Files.{none_written, one_written, all_written}
use native.Mathlib.Omega.{arith}
use Rattle.job.proofs.decode.Goals as goal

pub loop-i-init : goal.loop-i-init
loop-i-init c = none_written _ _ _

pub loop-i-preserved : goal.loop-i-preserved
loop-i-preserved c = one_written _ _ _ _ _ _ c.loop-i.invariant c.number_at.ensures (omega arith)

pub returns : goal.returns
returns c = all_written _ _ _ _ _ _ c.loop-i.invariant (omega arith) (omega arith)
