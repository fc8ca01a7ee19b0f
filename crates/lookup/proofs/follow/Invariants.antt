use Prim.Native.Nat.{◌-◌}
use Rattle.model.specs.Tree.{tree_of}
use Rattle.lookup.proofs.Walks.{Walking}
use Rattle.lookup.proofs.follow.Given as goal

abbrev pub invariant-loop-y : goal.invariant-loop-y
invariant-loop-y l = Walking (tree_of l.tree) l.next l.start l.tag l.end l.y l.nodes

abbrev pub decreases-loop-y : goal.decreases-loop-y
decreases-loop-y l = l.end - l.y
