use Rattle.names.proofs.Reading.{fault, no_fault, no_more}
use mathlib.Core.Path.{refl}
use borrow.Author.Rules.{rules}
use Rattle.names.proofs.is_malformed.Goals as goal

pub loop-at-init : goal.loop-at-init
loop-at-init c = refl

pub returns-then-len : goal.returns-then-len
returns-then-len c = search (fault, rules)

pub loop-at-preserved : goal.loop-at-preserved
loop-at-preserved c = search (no_fault, rules)

pub returns : goal.returns
returns c = search (no_more, rules)
