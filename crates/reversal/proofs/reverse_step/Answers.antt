use Rattle.reversal.proofs.Building.{builds_step}
use Rattle.reversal.proofs.reverse_step.Goals as goal

pub returns : goal.returns
returns c = builds_step _ _ _ _ _ _ c.join_step.ensures c.converse_axis.ensures c.put_step.ensures
