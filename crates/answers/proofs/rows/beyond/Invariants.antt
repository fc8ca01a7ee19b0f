use Rattle.answers.proofs.Odometer.{Counting}
use Rattle.answers.proofs.rows.beyond.Given as goal

abbrev pub invariant-loop-j : goal.invariant-loop-j
invariant-loop-j l = Counting l.n l.k l.i l.initial.next l.next l.j
