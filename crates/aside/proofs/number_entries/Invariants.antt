use Rattle.aside.specs.Aside.{NumbersTo}
use Rattle.aside.proofs.number_entries.Given as goal

abbrev pub invariant-loop-e : goal.invariant-loop-e
invariant-loop-e g l = NumbersTo g.number l.e l.kept
