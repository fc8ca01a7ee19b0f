use Rattle.model.specs.Tree.{tree_of}
use Rattle.tree.specs.Links.{PreviousSiblings}
use Rattle.tree.proofs.Siblings.{LastChildren}
use Rattle.tree.proofs.previous_siblings.Given as goal

abbrev pub invariant-loop-y : goal.invariant-loop-y
invariant-loop-y l = PreviousSiblings (tree_of l.tree) l.y l.links × LastChildren (tree_of l.tree) l.y l.last
