use Rattle.reversal.proofs.Building.{builds_root}
use Rattle.reversal.proofs.put_root.Goals as goal

pub returns : goal.returns
returns c = builds_root _ _ _ _ _ _ c.put_binary.ensures c.put_unary-2.ensures c.put_unary.ensures c.put_step-2.ensures c.put_step.ensures
