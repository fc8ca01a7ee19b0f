use Prim.Native.Nat.{ℕ, ◌+◌, ◌-◌}
use native.Mathlib.Omega.{arith}
use mathlib.Core.Path.{◌≡◌}
use Rattle.std.proofs.Common.{length-take, length-drop}
use Rattle.packing.proofs.Rows.{cleared}
use Rattle.packing.proofs.convert.unpack_word.Goals as goal

pub returns-then-empty : goal.returns-then-empty
returns-then-empty c =
    let k : (c.args.at + c.args.count) - c.args.at ≡ c.args.count = omega arith in
    rw k (cleared _ _ _ _ _ _ (c.fill.ensures.after (λ y h. h)) (omega (arith, length-take {A = ℕ}, length-drop {A = ℕ})) c.if-empty.true)
