use borrow.Author.Rules.{rules}
use native.Mathlib.Omega.{arith}
use mathlib.Core.Path.{refl}
use Rattle.ownership.proofs.Climb.{climb_lower, climb_under, climb_step, climb_end}
use Rattle.ownership.proofs.is_descendant_or_self.Goals as goal

pub loop-z-init : goal.loop-z-init
loop-z-init c = (omega arith, refl)

pub loop-z-smaller : goal.loop-z-smaller
loop-z-smaller c = search (climb_lower, rules)

pub loop-z-preserved : goal.loop-z-preserved
loop-z-preserved c = search (climb_step, climb_under, rules)

pub returns : goal.returns
returns c = search (climb_end, rules)
