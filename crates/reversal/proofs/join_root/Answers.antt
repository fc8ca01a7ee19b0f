use Rattle.reversal.proofs.Building.{joins_root}
use Rattle.reversal.proofs.join_root.Goals as goal

pub returns : goal.returns
returns c = joins_root _ _ _ _ c.join_step.ensures c.put_binary.ensures c.put_root.ensures
