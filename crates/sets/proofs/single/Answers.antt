use Rattle.model.proofs.Bytes.{one_of}
use Rattle.sets.proofs.single.Goals as goal

pub returns : goal.returns
returns c = one_of 256 _
