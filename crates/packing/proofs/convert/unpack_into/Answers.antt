use native.Mathlib.Omega.{arith}
use Rattle.model.proofs.Bytes.{row_next}
use Rattle.packing.proofs.Rows.{bytes_start, bytes_carried, bytes_end}
use Rattle.packing.proofs.convert.unpack_into.Goals as goal

pub loop-x-init : goal.loop-x-init
loop-x-init c = (omega arith, omega arith, bytes_start _ _ _)

pub loop-x-preserved : goal.loop-x-preserved
loop-x-preserved c =
    let i = c.loop-x.invariant in
    (row_next _ _ _ i.0, omega arith, bytes_carried _ _ _ _ _ i.2 _ _ _ i.0 i.1 c.unpack_row.ensures)

pub returns : goal.returns
returns c = bytes_end _ _ _ _ _ c.loop-x.invariant.2 (omega arith) (omega arith)
