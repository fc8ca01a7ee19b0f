use Rattle.query.specs.Uses.{Counted}
use Rattle.query.proofs.count_uses.Given as goal

abbrev pub invariant-loop-e : goal.invariant-loop-e
invariant-loop-e l = Counted l.query l.e l.counts
