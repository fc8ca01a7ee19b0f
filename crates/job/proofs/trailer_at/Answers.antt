use Rattle.job.proofs.Files.{front_fits}
use native.Mathlib.Omega.{arith}
use Rattle.job.proofs.trailer_at.Goals as goal

pub pointer_at-requires : goal.pointer_at-requires
pointer_at-requires c = omega (arith, front_fits _ _ _ c.requires)

pub pointer_at-requires-2 : goal.pointer_at-requires-2
pointer_at-requires-2 c = omega (arith, front_fits _ _ _ c.requires)

pub number_at-requires : goal.number_at-requires
number_at-requires c = omega (arith, front_fits _ _ _ c.requires)

pub returns : goal.returns
returns c = cc
