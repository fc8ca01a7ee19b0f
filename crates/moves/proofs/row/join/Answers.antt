use Rattle.tables.proofs.Rows.{row_length}
use Rattle.moves.proofs.Rows.{row_join}
use Rattle.moves.proofs.row.join.Goals as goal

pub join-both-requires : goal.join-both-requires
join-both-requires c = (row_length _ _ c.get-own.ensures, c.requires.1)

pub put-requires : goal.put-requires
put-requires c = (c.requires.0, row_length _ _ c.join-both.ensures)

pub returns : goal.returns
returns c = row_join _ _ _ _ _ _ c.put.ensures c.join-both.ensures c.get-own.ensures
