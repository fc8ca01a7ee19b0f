use Rattle.tables.proofs.Compositions.{Pending}
use Rattle.tables.proofs.product.join_word.Given as goal

abbrev pub invariant-loop-rest : goal.invariant-loop-rest
invariant-loop-rest l = Pending l.n l.kept l.base l.initial.r l.w l.r l.rest

abbrev pub decreases-loop-rest : goal.decreases-loop-rest
decreases-loop-rest l = l.rest
