use Rattle.lines.proofs.Rows.{next_row, next_row_fits, one_row, no_row, rows_length}
use Rattle.lines.proofs.Writing.{begin, go_on, end}
use Prim.Native.Nat.{suc, ◌+◌, ◌-◌}
use mathlib.Core.Path.{◌≡◌}
use native.Mathlib.Omega.{arith}
use Rattle.lines.proofs.row_lines.Goals as goal

pub loop-init : goal.loop-init
loop-init c =
    let z : c.args.count - 0 ≡ c.args.count = omega arith in
    rw z (c.requires.0, begin _ _ _ (omega (arith, rows_length c.args.k c.args.count c.args.rows.now (λ i. (c.type_inv.rows i).fits))))

pub split_at-requires : goal.split_at-requires
split_at-requires c = omega (arith, one_row (c.args.count - c.loop.counter) (c.args.count - (c.loop.counter + 1)) c.args.k (omega arith))

pub row_line-next-requires : goal.row_line-next-requires
row_line-next-requires c =
    next_row_fits _ _ _ _ _ (c.args.count - (c.loop.counter + 1)) _ _ _ _ _ (omega arith) c.split_at.ensures.front c.split_at.ensures.back c.loop.invariant.1

pub loop-preserved : goal.loop-preserved
loop-preserved c =
    let h : c.args.count - c.loop.counter ≡ suc (c.args.count - (c.loop.counter + 1)) = omega arith in
    (omega (arith, one_row _ _ c.args.k h), go_on _ _ _ _ _ _ _ _ _ _ c.loop.invariant.1 (next_row _ _ _ _ _ _ h c.split_at.ensures.front c.split_at.ensures.back) c.row_line-next.ensures)

pub shape_of-out : goal.shape_of-out
shape_of-out c = c.loop.invariant.1.same

pub returns : goal.returns
returns c = end _ _ _ _ _ _ c.loop.invariant.1 (no_row _ _ _ (omega arith))
