use mathlib.Core.Path.{◌≡◌}
use Rattle.model.specs.Sets.{any}
use Rattle.ownership.specs.Nodes.{number_fails}
use Rattle.ownership.proofs.has_bad_number.Given as goal

abbrev pub invariant-loop-x : goal.invariant-loop-x
invariant-loop-x l = l.found ≡ any l.x (number_fails l.tree)
