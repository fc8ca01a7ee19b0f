use Rattle.tables.proofs.Rows.{row_length}
use Rattle.moves.proofs.Rows.{row_copy}
use Rattle.moves.proofs.row.copy.Goals as goal

pub put-requires : goal.put-requires
put-requires c = (c.requires.0, row_length _ _ c.get-other.ensures)

pub returns : goal.returns
returns c = row_copy _ _ _ _ _ c.put.ensures c.get-other.ensures
