use Rattle.reversal.proofs.Building.{builds_binary}
use Rattle.reversal.proofs.put_where.Goals as goal

pub returns : goal.returns
returns c = builds_binary _ _ _ _ _ _ _ c.put_binary.ensures c.copy.ensures c.put_step.ensures
