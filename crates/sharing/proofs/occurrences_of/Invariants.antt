use mathlib.Core.Path.{◌≡◌}
use Rattle.model.specs.Sets.{tab, upto}
use Rattle.sharing.specs.Occurrences.{occurs}
use Rattle.sharing.proofs.occurrences_of.Given as goal

abbrev pub invariant-loop-e : goal.invariant-loop-e
invariant-loop-e l = l.found ≡ tab 64 (upto l.e (occurs l.query l.v))
