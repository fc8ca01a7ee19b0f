use Rattle.lines.proofs.Rows.{next_number, next_number_fits, no_number}
use Rattle.lines.proofs.Writing.{begin, go_on, end}
use Rattle.lines.proofs.row_line.Goals as goal

pub loop-i-init : goal.loop-i-init
loop-i-init c = begin _ _ _ c.requires

pub put_field-next-requires : goal.put_field-next-requires
put_field-next-requires c = next_number_fits _ _ _ _ _ _ _ _ _ c.loop-i-test.true c.from.ensures c.separator.ensures c.loop-i.invariant

pub loop-i-preserved : goal.loop-i-preserved
loop-i-preserved c = go_on _ _ _ _ _ _ _ _ _ _ c.loop-i.invariant (next_number _ _ _ _ c.loop-i-test.true c.from.ensures c.separator.ensures) c.put_field-next.ensures

pub shape_of-out : goal.shape_of-out
shape_of-out c = c.loop-i.invariant.same

pub returns : goal.returns
returns c = end _ _ _ _ _ _ c.loop-i.invariant (no_number _ _ c.loop-i-test.false)
