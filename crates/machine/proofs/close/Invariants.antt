-- The loop keeps what the gaps that it has closed come to.
use Rattle.machine.proofs.Steps.{Closed}
use Rattle.machine.proofs.close.Given as goal

abbrev pub invariant-loop-pops : goal.invariant-loop-pops
invariant-loop-pops l = Closed l.gaps l.depth l.n l.initial.path l.pops l.path
