use mathlib.Core.Path.{◌≡◌}
use Rattle.model.specs.Sets.{tab, memb, upto}
use Rattle.sets.proofs.load.Given as goal

abbrev pub invariant-loop-i : goal.invariant-loop-i
invariant-loop-i l = l.r ≡ tab 256 (upto l.i (memb l.set))
