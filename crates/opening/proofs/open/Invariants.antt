use Rattle.opening.specs.Opening.{OpensTo}
use Rattle.opening.proofs.open.Given as goal

abbrev pub invariant-loop-e : goal.invariant-loop-e
invariant-loop-e l = OpensTo l.query l.filled l.e l.table
