use mathlib.Core.Path.{◌≡◌}
use Rattle.model.specs.Sets.{any, memb}
use Rattle.sets.proofs.occupied.Given as goal

abbrev pub invariant-loop-b : goal.invariant-loop-b
invariant-loop-b l = l.found ≡ any l.b-index (memb l.fn.s)
