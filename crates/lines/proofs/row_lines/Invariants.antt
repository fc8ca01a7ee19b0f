-- The loop keeps the rows that are left, and their lines.
use Rattle.lines.proofs.Writing.{Writing}
use Rattle.lines.specs.Lines.{row_lines}
use lib.ListN.{length}
use Prim.Native.Nat.{◌-◌, ◌*◌, ◌≤◌}
use Rattle.lines.proofs.row_lines.Given as goal

abbrev pub invariant-loop : goal.invariant-loop
invariant-loop l = ((l.count - l.counter) * l.k ≤ length l.rest) × Writing (row_lines l.k l.count l.rows) l.at l.initial.out (row_lines l.k (l.count - l.counter) l.rest) l.next l.out
