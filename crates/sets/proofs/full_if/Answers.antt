use Prim.Native.Nat.{ℕ}
use native.Mathlib.Omega.{arith}
use Rattle.std.proofs.Common.{length-take}
use Rattle.sets.proofs.Images.{filled}
use Rattle.sets.proofs.full_if.Goals as goal

pub returns : goal.returns
returns c = filled c.args.b _ _ _ _ c.requires (c.fill.ensures.after (λ y h. h)) (omega (arith, length-take {A = ℕ})) c.byte.ensures
