use Rattle.names.proofs.Searching.{tags_end, is_hit, is_miss, table_ends}
use mathlib.Core.Path.{refl}
use native.Mathlib.Omega.{arith}
use borrow.Author.Rules.{rules}
use Rattle.names.proofs.spot.Goals as goal

pub loop-at-init : goal.loop-at-init
loop-at-init c = refl

pub returns-then-passed : goal.returns-then-passed
returns-then-passed c = tags_end _ _ _ _ _ c.loop-at.invariant (search rules) (omega arith)

pub returns-then-is_name : goal.returns-then-is_name
returns-then-is_name c = is_hit _ _ _ _ _ _ _ c.loop-at.invariant (search rules) (omega arith) c.from-len.ensures c.is_name.ensures c.if-is_name.true

pub loop-at-preserved : goal.loop-at-preserved
loop-at-preserved c = search (is_miss, rules)

pub returns : goal.returns
returns c = search (table_ends, rules)
