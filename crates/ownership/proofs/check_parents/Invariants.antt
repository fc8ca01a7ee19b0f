use mathlib.Core.Path.{◌≡◌}
use mathlib.Core.Bool.{false}
use Rattle.model.specs.Sets.{any}
use Rattle.model.specs.Checks.{bad_parent}
use Rattle.model.specs.Parties.{shared_tree}
use Rattle.ownership.proofs.check_parents.Given as goal

abbrev pub invariant-loop-x : goal.invariant-loop-x
invariant-loop-x l = any l.x (bad_parent (shared_tree l.tree)) ≡ false
