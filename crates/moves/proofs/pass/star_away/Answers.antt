use native.Mathlib.Omega.{arith}
use borrow.Author.Rules.{rules}
use Rattle.moves.proofs.Passes.{star_away_start, star_away_more, star_away_done, lower_least}
use Rattle.moves.proofs.pass.star_away.Goals as goal

pub loop-y-init : goal.loop-y-init
loop-y-init c = star_away_start _ _ _

pub join-requires : goal.join-requires
join-requires c = (let h = lower_least _ _ _ c.link_of-p.ensures in (omega arith, omega arith))

pub loop-y-preserved : goal.loop-y-preserved
loop-y-preserved c = star_away_more _ _ _ _ _ _ _ c.loop-y.invariant c.join.ensures c.link_of-p.ensures (omega arith)

pub shape_of-acc : goal.shape_of-acc
shape_of-acc c = c.loop-y.invariant.size

pub returns : goal.returns
returns c = search (star_away_done, rules)
