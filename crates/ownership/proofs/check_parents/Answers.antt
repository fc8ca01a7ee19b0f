use mathlib.Core.Path.{refl}
use borrow.Author.Rules.{rules}
use Rattle.model.specs.Sets.{any}
use Rattle.model.proofs.Exists.{any_miss}
use Rattle.model.proofs.Refusals.{found, nowhere, stop_at, pass_at, accept}
use Rattle.ownership.proofs.check_parents.Goals as goal

pub loop-x-init : goal.loop-x-init
unfolding any
loop-x-init c = refl

pub returns-then-bad : goal.returns-then-bad
returns-then-bad c = search (stop_at, found, rules)

pub loop-x-preserved : goal.loop-x-preserved
loop-x-preserved c = search (any_miss, rules)

pub returns : goal.returns
returns c = search (pass_at, accept, nowhere, rules)
