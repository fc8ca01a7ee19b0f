use Rattle.answers.proofs.EmptyBlocks.{block_empty}
use native.Mathlib.Omega.{arith}
use Rattle.answers.proofs.Plan.empty_block.Goals as goal

pub returns-then-not-goes_on : goal.returns-then-not-goes_on
returns-then-not-goes_on c = block_empty c.requires.0.listed (omega arith) c.requires.1.0 c.loop-i.i c.loop-i.invariant c.loop-i-test.true c.requires.0.bound _ c.goes_on.ensures c.if-not-goes_on.true
