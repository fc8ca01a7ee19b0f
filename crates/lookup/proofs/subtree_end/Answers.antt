use native.Mathlib.Omega.{arith}
use borrow.Author.Rules.{rules}
use Rattle.model.proofs.Exists.{any_miss}
use Rattle.model.proofs.Refusals.{found, nowhere}
use Rattle.lookup.proofs.Subtree.{end_start, end_test}
use Rattle.lookup.proofs.subtree_end.Goals as goal

pub loop-y-init : goal.loop-y-init
loop-y-init c = search (end_start, rules)

pub returns-then-beyond : goal.returns-then-beyond
returns-then-beyond c = search (found, end_test, rules)

pub loop-y-preserved : goal.loop-y-preserved
loop-y-preserved c = search (any_miss, end_test, rules)

pub returns : goal.returns
returns c = nowhere _ _ _ c.loop-y.invariant (omega arith) (omega arith)
