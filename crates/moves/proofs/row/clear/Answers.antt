use Rattle.moves.proofs.Rows.{row_clear}
use Rattle.moves.proofs.row.clear.Goals as goal

pub returns : goal.returns
returns c = row_clear _ _ _ c.put.ensures
