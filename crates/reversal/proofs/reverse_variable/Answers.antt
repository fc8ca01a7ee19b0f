use Rattle.reversal.proofs.Building.{builds_variable}
use Rattle.reversal.proofs.reverse_variable.Goals as goal

pub returns : goal.returns
returns c = builds_variable _ _ _ _ _ _ _ c.join_step-2.ensures c.join_step.ensures c.put_binary.ensures c.put_leaf.ensures c.put_step.ensures
