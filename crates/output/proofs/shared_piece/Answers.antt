use Rattle.output.proofs.Page.{shared_refused, shared_rows}
use Rattle.std.proofs.Common.{sym, length-take-le}
use Rattle.output.proofs.shared_piece.Goals as goal

pub slice_bounds-rows_piece-end : goal.slice_bounds-rows_piece-end
slice_bounds-rows_piece-end c = sym (length-take-le _ _ c.in-Ok.ensures.seen.within)

pub rows_piece-requires : goal.rows_piece-requires
rows_piece-requires c = (c.in-Ok.ensures.seen.accepted, c.requires)

pub returns-in-Ok : goal.returns-in-Ok
returns-in-Ok c = shared_rows _ _ _ _ _ _ _ _ _ _ _ c.in-Ok.ensures c.rows_piece.ensures

pub returns-in-Err : goal.returns-in-Err
returns-in-Err c = shared_refused _ _ _ _ _ _ _ _ _ _ _ _ c.in-Err.ensures c.from.ensures c.refused_piece.ensures
