-- What is done lies within the buffer.
use Rattle.std.proofs.Common.{◌≤◌, length}
use Rattle.picklist.proofs.streams.write_whole.Given as goal

abbrev pub invariant-loop : goal.invariant-loop
invariant-loop g l = l.done ≤ length l.buf
