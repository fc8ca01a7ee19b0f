-- The loop keeps that the search from `at` on finds what the whole search finds.
use Rattle.names.proofs.Searching.{Goes}
use lib.ListN.{length}
use Prim.Native.Nat.{◌-◌}
use Rattle.names.proofs.spot.Given as goal

abbrev pub invariant-loop-at : goal.invariant-loop-at
invariant-loop-at l = Goes l.table l.name l.from l.at l.number

abbrev pub decreases-loop-at : goal.decreases-loop-at
decreases-loop-at l = length l.table - l.at
