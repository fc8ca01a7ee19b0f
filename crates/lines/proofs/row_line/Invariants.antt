-- The loop keeps what is left of the line.
use Rattle.lines.proofs.Writing.{Writing}
use Rattle.lines.specs.Lines.{row_line}
use lib.ListN.{drop}
use Rattle.lines.proofs.row_line.Given as goal

abbrev pub invariant-loop-i : goal.invariant-loop-i
invariant-loop-i l = Writing (row_line l.row) l.at l.initial.out (row_line (drop l.i l.row)) l.next l.out
