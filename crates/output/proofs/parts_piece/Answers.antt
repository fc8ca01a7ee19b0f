use Rattle.output.proofs.Page.{front_within, parts_are}
use Rattle.std.proofs.Common.{sym, length-take-le, rules}
use Rattle.output.proofs.parts_piece.Goals as goal

pub slice_bounds-shared-end : goal.slice_bounds-shared-end
slice_bounds-shared-end c = front_within c.shared_table-count.ensures

pub slice_bounds-shared_piece-end : goal.slice_bounds-shared_piece-end
slice_bounds-shared_piece-end c = sym (length-take-le _ _ (front_within c.shared_table-count.ensures))

pub slice_bounds-shared_piece-end-2 : goal.slice_bounds-shared_piece-end-2
slice_bounds-shared_piece-end-2 c = sym (length-take-le _ _ (search rules))

pub returns : goal.returns
returns c = parts_are _ _ _ _ _ _ _ _ _ _ _ _ c.shared_table-count.ensures c.decode.ensures c.wide.ensures.0 c.shared_piece.ensures
