-- The loop keeps that the whole table is malformed exactly if what stands from `at` on is.
use Rattle.names.specs.Names.{malformed_from, malformed}
use lib.ListN.{length}
use mathlib.Core.Path.{◌≡◌}
use Prim.Native.Nat.{◌-◌}
use Rattle.names.proofs.is_malformed.Given as goal

abbrev pub invariant-loop-at : goal.invariant-loop-at
invariant-loop-at l = malformed_from l.at l.table ≡ malformed l.table

abbrev pub decreases-loop-at : goal.decreases-loop-at
decreases-loop-at l = length l.table - l.at
