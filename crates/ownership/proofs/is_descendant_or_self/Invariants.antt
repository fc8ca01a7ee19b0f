use Prim.Native.Nat.{◌≤◌}
use mathlib.Core.Path.{◌≡◌}
use Rattle.model.specs.Parties.{shared_tree}
use Rattle.model.specs.Axes.{descendant_or_self}
use Rattle.ownership.proofs.is_descendant_or_self.Given as goal

abbrev pub invariant-loop-z : goal.invariant-loop-z
invariant-loop-z l = (l.z ≤ l.y) × (descendant_or_self (shared_tree l.tree) l.x l.z ≡ descendant_or_self (shared_tree l.tree) l.x l.y)

abbrev pub decreases-loop-z : goal.decreases-loop-z
decreases-loop-z l = l.z
