use Rattle.reversal.proofs.Building.{builds_leaf}
use Rattle.reversal.proofs.put_step.Goals as goal

pub returns : goal.returns
returns c = rw (← c.number_of.ensures) (builds_leaf _ _ _ _ _ c.put_leaf.ensures)
