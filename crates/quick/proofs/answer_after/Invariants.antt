use Rattle.quick.proofs.Seeking.{Seeking}
use Rattle.quick.proofs.answer_after.Given as goal

abbrev pub invariant-loop-i : goal.invariant-loop-i
invariant-loop-i l = Seeking l.search.tree.now l.search.query.now l.search.k l.row l.i l.evaluations
