-- The loop keeps that the name sought is the one that is left to pass in what stands from `at` on.
use Rattle.names.specs.Names.{names_from, names, found}
use lib.ListN.{length}
use mathlib.Core.Path.{◌≡◌}
use Prim.Native.Nat.{◌-◌}
use Rattle.names.proofs.seek.Given as goal

abbrev pub invariant-loop-at : goal.invariant-loop-at
invariant-loop-at l = found (names_from l.which 0 l.at l.table) l.left ≡ found (names l.which l.table) l.number

abbrev pub decreases-loop-at : goal.decreases-loop-at
decreases-loop-at l = length l.table - l.at
