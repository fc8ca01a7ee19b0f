use Rattle.answers.specs.Search.{ZerosFrom}
use Rattle.answers.proofs.blocks.zeros_from.Given as goal

abbrev pub invariant-loop-i : goal.invariant-loop-i
invariant-loop-i l = ZerosFrom l.k l.low l.row l.i
