use Rattle.answers.specs.Search.{ZerosFrom}
use Rattle.answers.proofs.Plan.empty_block.Given as goal

abbrev pub invariant-loop-i : goal.invariant-loop-i
invariant-loop-i l = ZerosFrom l.self.search.k l.self.bound l.row l.i
