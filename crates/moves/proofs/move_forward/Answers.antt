use mathlib.Core.Path.{refl}
use Rattle.steps.proofs.Images.{moves, pair_is}
use Rattle.moves.proofs.Axes.{forward_moved, forward_stay}
use Rattle.moves.proofs.move_forward.Goals as goal

pub returns-in-Itself : goal.returns-in-Itself
returns-in-Itself c = forward_stay _ _ c.requires.0 _ c.args.back _ (rw c.in-Itself.is)

pub returns-in-Child : goal.returns-in-Child
unfolding moves
returns-in-Child c = forward_moved _ _ c.requires.0 _ 1 c.args.back _ _ c.move_hop.ensures (pair_is _ _ _ _ c.in-Child.is refl refl)

pub returns-in-Right : goal.returns-in-Right
unfolding moves
returns-in-Right c = forward_moved _ _ c.requires.0 _ 2 c.args.back _ _ c.move_hop-in-Right.ensures (pair_is _ _ _ _ c.in-Right.is refl refl)

pub returns-in-Descendant : goal.returns-in-Descendant
unfolding moves
returns-in-Descendant c = forward_moved _ _ c.requires.0 _ 3 c.args.back _ _ c.move_plus.ensures (pair_is _ _ _ _ c.in-Descendant.is refl refl)

pub returns-in-Following : goal.returns-in-Following
unfolding moves
returns-in-Following c = forward_moved _ _ c.requires.0 _ 4 c.args.back _ _ c.move_following.ensures (pair_is _ _ _ _ c.in-Following.is refl refl)

pub returns-in-FollowingSibling : goal.returns-in-FollowingSibling
unfolding moves
returns-in-FollowingSibling c = forward_moved _ _ c.requires.0 _ 5 c.args.back _ _ c.move_plus-in-FollowingSibling.ensures (pair_is _ _ _ _ c.in-FollowingSibling.is refl refl)

pub returns-in-DescendantOrSelf : goal.returns-in-DescendantOrSelf
unfolding moves
returns-in-DescendantOrSelf c = forward_moved _ _ c.requires.0 _ 6 c.args.back _ _ c.move_star.ensures (pair_is _ _ _ _ c.in-DescendantOrSelf.is refl refl)
