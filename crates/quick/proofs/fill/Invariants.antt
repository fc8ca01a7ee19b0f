use Rattle.quick.proofs.Filling.{Filled}
use Rattle.quick.proofs.fill.Given as goal

abbrev pub invariant-loop-j : goal.invariant-loop-j
invariant-loop-j l = Filled l.search.tree.now l.search.query.now l.search.k l.i l.initial.at l.at l.j l.spent l.evaluations
