use Prim.Native.Nat.{◌-◌}
use Rattle.index.proofs.Halving.{Within}
use Rattle.index.proofs.links.place_of.Given as goal

abbrev pub invariant-loop-high : goal.invariant-loop-high
invariant-loop-high l = Within l.list l.g l.low l.high

abbrev pub decreases-loop-high : goal.decreases-loop-high
decreases-loop-high l = l.high - l.low
