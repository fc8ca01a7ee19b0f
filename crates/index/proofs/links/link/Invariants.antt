use Rattle.model.specs.Tree.{tree_of}
use Rattle.index.proofs.Linking.{Linking}
use Rattle.index.proofs.links.link.Given as goal

abbrev pub invariant-loop-x : goal.invariant-loop-x
invariant-loop-x l = Linking (tree_of l.tree) l.list l.initial.next l.initial.first l.initial.counts l.next l.first l.counts l.x
