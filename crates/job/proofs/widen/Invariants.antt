use Rattle.job.proofs.Widening.{Widening}
use Rattle.job.proofs.widen.Given as goal

abbrev pub invariant-loop-x : goal.invariant-loop-x
invariant-loop-x l = Widening l.table l.out l.x
