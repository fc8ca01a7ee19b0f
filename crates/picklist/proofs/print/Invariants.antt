use Rattle.std.proofs.Common.{◌≡◌, length}
use Rattle.output.proofs.Joined.{Printing, left}
use Rattle.picklist.proofs.print.Given as goal

abbrev pub invariant-loop-out : goal.invariant-loop-out
invariant-loop-out g l = record { printing : Printing l.file l.at; room : length l.out ≡ 18432 }

abbrev pub decreases-loop-out : goal.decreases-loop-out
decreases-loop-out g l = left l.file l.at
