use native.Mathlib.Omega.{arith}
use mathlib.Core.Path.{◌∙◌}
use borrow.Author.Rules.{rules}
use borrow.Author.Tests.{le-ltb}
use Rattle.model.specs.Sets.{memb}
use Rattle.sharing.proofs.Passes.{not_there}
use Rattle.sharing.proofs.has.Goals as goal

pub returns-then-i-lt64 : goal.returns-then-i-lt64
unfolding memb
returns-then-i-lt64 c = search rules

pub returns-else-i-lt64 : goal.returns-else-i-lt64
returns-else-i-lt64 c = le-ltb _ _ c.if-i-lt64.false ∙ not_there c.args.entries.now c.args.i (omega arith) c.if-i-lt64.false
