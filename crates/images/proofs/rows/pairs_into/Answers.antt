use native.Mathlib.Omega.{arith}
use borrow.Author.Rules.{rules}
use Rattle.model.proofs.Bytes.{over_start, row_next, row_fits}
use Rattle.images.proofs.Tables.{row_room, row_over, rows_length, rows_end}
use Rattle.images.proofs.rows.pairs_into.Goals as goal

pub loop-x-init : goal.loop-x-init
loop-x-init c = (omega arith, over_start _ _)

pub put_row-requires : goal.put_row-requires
put_row-requires c = search (row_room, rules)

pub overflow_add-at : goal.overflow_add-at
overflow_add-at c = let f = row_fits _ _ _ c.loop-x.invariant.0 (search rules) in omega arith

pub loop-x-preserved : goal.loop-x-preserved
loop-x-preserved c = (
  row_next _ _ _ c.loop-x.invariant.0,
  row_over _ _ _ c.loop-x.invariant.0 _ _ _ _ _ c.put_row.ensures c.loop-x.invariant.1 c.row-r.ensures c.requires.0.tree.sound.at_most,
)

pub shape_of-table : goal.shape_of-table
shape_of-table c = search (rows_length, rules)

pub returns : goal.returns
returns c = search (rows_end, rules)
