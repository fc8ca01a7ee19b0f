use native.Mathlib.Omega.{arith}
use mathlib.Core.Path.{refl}
use borrow.Author.Rules.{rules}
use Rattle.moves.proofs.Passes.{keep_start, keep_more, keep_done}
use Rattle.moves.proofs.keep_named.Goals as goal

pub loop-y-init : goal.loop-y-init
loop-y-init c = (refl, keep_start _ _ _ _)

pub loop-y-preserved : goal.loop-y-preserved
loop-y-preserved c = (c.loop-y.invariant.0, keep_more _ _ _ _ _ _ _ _ _ c.loop-y.invariant.1 c.keep_if.ensures c.matches_tag-kept.ensures c.tag.ensures (omega arith))

pub shape_of-acc : goal.shape_of-acc
shape_of-acc c = c.loop-y.invariant.1.size

pub returns : goal.returns
returns c = search (keep_done, rules)
