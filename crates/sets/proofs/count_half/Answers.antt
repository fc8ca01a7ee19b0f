use Prim.Native.Nat.{ℕ}
use native.Mathlib.Omega.{arith}
use Rattle.std.proofs.Common.{length-take}
use Rattle.model.specs.Sets.{memb}
use Rattle.model.proofs.Counts.{ones_start, ones_next, ones_within}
use Rattle.sets.proofs.Images.{part_bit}
use Rattle.sets.proofs.count_half.Goals as goal

pub loop-b-init : goal.loop-b-init
loop-b-init c = ones_start _

pub overflow_add-found : goal.overflow_add-found
unfolding memb
overflow_add-found c =
    omega (arith, length-take {A = ℕ}, ones_within _ _ _ (ones_next _ _ _ _ c.loop-b.invariant (part_bit _ _ _ _ _ c.byte-found.ensures c.loop-b-test.true)))

pub loop-b-preserved : goal.loop-b-preserved
unfolding memb
loop-b-preserved c = ones_next _ _ _ _ c.loop-b.invariant (part_bit _ _ _ _ _ c.byte-found.ensures c.loop-b-test.true)
