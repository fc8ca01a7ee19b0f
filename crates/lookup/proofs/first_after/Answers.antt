use native.Mathlib.Omega.{arith}
use borrow.Author.Rules.{rules}
use Rattle.model.proofs.Exists.{any_miss}
use Rattle.lookup.proofs.Tags.{tag_start, tag_test, tag_found, tag_nowhere}
use Rattle.lookup.proofs.first_after.Goals as goal

pub loop-y-init : goal.loop-y-init
loop-y-init c = search (tag_start, rules)

pub returns-then-found : goal.returns-then-found
returns-then-found c = search (tag_found, tag_test, rules)

pub loop-y-preserved : goal.loop-y-preserved
loop-y-preserved c = search (any_miss, tag_test, rules)

pub returns : goal.returns
returns c = tag_nowhere _ _ _ _ c.loop-y.invariant (omega arith) (omega arith)
