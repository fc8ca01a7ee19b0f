use Rattle.job.proofs.Widening.{widening_start, widening_turn, widening_even, widening_odd, widening_all}
use native.Mathlib.Omega.{arith}
use borrow.Author.Rules.{rules}
use Rattle.job.proofs.widen.Goals as goal

pub loop-x-init : goal.loop-x-init
loop-x-init c = widening_start _ _ c.requires.1

pub loop-x-preserved : goal.loop-x-preserved
loop-x-preserved c = widening_turn _ _ _ c.loop-x.invariant c.requires.0 (search rules)

pub returns-then-table-eq0 : goal.returns-then-table-eq0
returns-then-table-eq0 c = widening_even _ _ _ (widening_all _ _ _ c.loop-x.invariant (search rules)) c.requires.0 (omega arith) (search rules)

pub returns : goal.returns
returns c = widening_odd _ _ _ (widening_all _ _ _ c.loop-x.invariant (search rules)) c.requires.0 (omega arith) (search rules)
