use mathlib.Core.Path.{◌≡◌}
use Rattle.bits.specs.Words.{words}
use Rattle.bits.specs.BitTables.{bit_relation}
use Rattle.engines.specs.Reading.{joined_rows}
use Rattle.engines.proofs.reading.joined_rows.Given as goal

abbrev pub invariant-loop-x : goal.invariant-loop-x
invariant-loop-x l = l.r ≡ words 4 (joined_rows l.x (bit_relation l.w) l.s)
