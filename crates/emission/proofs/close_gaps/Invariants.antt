-- The loop keeps what the gaps that it has closed come to.
use lib.ListN.{length}
use Rattle.entries.specs.Builder.{made_of}
use Rattle.emission.proofs.Writing.{Closing}
use Rattle.emission.proofs.close_gaps.Given as goal

abbrev pub invariant-loop-i : goal.invariant-loop-i
invariant-loop-i l =
    Closing l.gaps (length l.gaps) l.n l.initial.path (made_of l.initial.b) l.i l.path (made_of l.b)
