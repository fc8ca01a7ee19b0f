use mathlib.Core.Path.{◌≡◌}
use Rattle.model.specs.Sets.{tab, ones}
use Rattle.sets.specs.NodeSets.{shifted}
use Rattle.sets.proofs.count_half.Given as goal

abbrev pub invariant-loop-b : goal.invariant-loop-b
invariant-loop-b l = l.found ≡ ones (tab l.b-index (shifted l.fn.at l.fn.s))
