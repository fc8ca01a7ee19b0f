use Rattle.emission.proofs.Writing.{wrote_two}
use Rattle.emission.proofs.put_slash.Goals as goal

pub returns-in-6 : goal.returns-in-6
returns-in-6 c = rw c.in-6.is (wrote_two _ _ _ _ _ c.put_step.ensures c.put_binary.ensures)
