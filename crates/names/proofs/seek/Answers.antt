use Rattle.names.proofs.Reading.{here, later, ended}
use mathlib.Core.Path.{refl}
use borrow.Author.Rules.{rules}
use Rattle.names.proofs.seek.Goals as goal

pub loop-at-init : goal.loop-at-init
loop-at-init c = refl

pub returns-then-left-eq0 : goal.returns-then-left-eq0
returns-then-left-eq0 c = search (here, rules)

pub loop-at-preserved : goal.loop-at-preserved
loop-at-preserved c = search (later, rules)

pub returns : goal.returns
returns c = search (ended, rules)
