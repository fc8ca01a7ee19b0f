use native.Mathlib.Omega.{arith}
use mathlib.Core.Path.{refl}
use borrow.Author.Rules.{rules}
use Rattle.model.specs.Sets.{memb}
use Rattle.tables.proofs.Rows.{starts_none, start_stored, starts_whole}
use Rattle.tables.proofs.set.of_bytes.Goals as goal

pub loop-x-init : goal.loop-x-init
loop-x-init c = starts_none _

pub loop-x-preserved : goal.loop-x-preserved
unfolding memb
loop-x-preserved c = start_stored _ _ _ _ _ _ c.loop-x.invariant refl c.bit_if.ensures c.merge.ensures (omega arith)

pub returns : goal.returns
returns c = search (starts_whole, rules)
