use mathlib.Core.Path.{◌≡◌}
use mathlib.Core.Bool.{false}
use Rattle.model.specs.Sets.{any}
use Rattle.model.specs.Tree.{tree_of}
use Rattle.model.specs.Axes.{following}
use Rattle.lookup.proofs.subtree_end.Given as goal

abbrev pub invariant-loop-y : goal.invariant-loop-y
invariant-loop-y l = any l.y (following (tree_of l.tree) l.start) ≡ false
