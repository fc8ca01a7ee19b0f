use native.Mathlib.Omega.{arith}
use mathlib.Core.Path.{refl}
use Rattle.model.proofs.Bytes.{row_next}
use Rattle.packing.proofs.Rows.{words_start, words_carried, words_end}
use Rattle.packing.proofs.convert.pack_into.Goals as goal

pub loop-x-init : goal.loop-x-init
loop-x-init c = (omega arith, omega arith, words_start _ _)

pub loop-x-preserved : goal.loop-x-preserved
loop-x-preserved c =
    let i = c.loop-x.invariant in
    (row_next _ _ _ i.0, omega arith, words_carried _ _ _ _ _ i.2 _ _ _ _ _ _ i.0 i.1 refl c.copy_from_slice.ensures.after (omega arith) c.pack_row-r.ensures)

pub returns : goal.returns
returns c = words_end _ _ _ _ _ c.loop-x.invariant.2 (omega arith) (omega arith)
