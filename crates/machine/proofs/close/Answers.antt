use borrow.Author.Rules.{rules}
use mathlib.Core.Path.{refl, sym}
use Rattle.machine.proofs.Steps.{closed_on, closed_stop, closed_end}
use Rattle.machine.proofs.close.Goals as goal

pub returns-then-not-closes : goal.returns-then-not-closes
returns-then-not-closes c = closed_stop _ _ _ _ _ _ _ c.loop-pops.invariant (search rules) refl (sym c.if-not-closes.ensures)

pub loop-pops-preserved : goal.loop-pops-preserved
loop-pops-preserved c = closed_on _ _ _ _ _ _ _ c.loop-pops.invariant (search rules) refl (sym c.if-not-closes.ensures)

pub returns : goal.returns
returns c = closed_end _ _ _ _ _ _ c.loop-pops.invariant (search rules)
