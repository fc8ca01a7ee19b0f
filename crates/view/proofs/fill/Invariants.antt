use Rattle.view.proofs.Filling.{Filling}
use Rattle.view.proofs.fill.Given as goal

abbrev pub invariant-loop-x : goal.invariant-loop-x
invariant-loop-x l = Filling l.tree l.party l.x l.table l.numbers l.nodes
