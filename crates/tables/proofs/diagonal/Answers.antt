use native.Mathlib.Omega.{arith}
use borrow.Author.Rules.{rules}
use Rattle.tables.proofs.Rows.{row_length}
use Rattle.tables.proofs.Tables.{rows_start, rows_end, diagonal_more}
use Rattle.tables.proofs.diagonal.Goals as goal

pub loop-x-init : goal.loop-x-init
loop-x-init c = rows_start _ _

pub put-requires : goal.put-requires
put-requires c = (omega arith, search (row_length, rules))

pub loop-x-preserved : goal.loop-x-preserved
loop-x-preserved c = search (diagonal_more, rules)

pub shape_of-acc : goal.shape_of-acc
shape_of-acc c = c.loop-x.invariant.size

pub returns : goal.returns
returns c = rows_end _ _ _ _ _ c.loop-x.invariant (omega arith) (omega arith)
