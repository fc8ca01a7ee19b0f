use native.Mathlib.Omega.{arith}
use Rattle.index.proofs.Putting.{put_start, put_next, put_all}
use Rattle.index.proofs.links.put_tags.Goals as goal

pub loop-k-init : goal.loop-k-init
loop-k-init c = put_start _ _ _ _

pub loop-k-preserved : goal.loop-k-preserved
loop-k-preserved c = put_next _ _ _ _ _ _ (omega arith) c.loop-k.invariant

pub returns : goal.returns
returns c = put_all _ _ _ _ _ _ (omega arith) c.loop-k.invariant
