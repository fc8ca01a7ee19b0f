use mathlib.Core.Path.{◌≡◌}
use Rattle.model.specs.Sets.{tab, upto}
use Rattle.bits.specs.BitTables.{bit_relation}
use Rattle.engines.specs.Reading.{meets}
use Rattle.engines.proofs.reading.meeting.Given as goal

abbrev pub invariant-loop-x : goal.invariant-loop-x
invariant-loop-x l = l.r ≡ tab 256 (upto l.x (meets (bit_relation l.w) l.s))
