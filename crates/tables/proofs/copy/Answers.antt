use Rattle.tables.proofs.Tables.{copy_of}
use Rattle.tables.proofs.copy.Goals as goal

pub returns : goal.returns
returns c = copy_of _ _ _ _ c.requires.1.0 c.requires.1.1 c.copy_from_slice.ensures.after
