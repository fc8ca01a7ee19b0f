-- One store.
use Rattle.lines.proofs.Writing.{wrote_one}
use Rattle.lines.proofs.put_byte.Goals as goal

pub returns : goal.returns
returns c = wrote_one _ _ _ c.requires
