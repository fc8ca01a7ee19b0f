use mathlib.Core.Path.{refl}
use Rattle.steps.proofs.Images.{moves, forward_by, pair_is}
use Rattle.steps.proofs.forward_image.Goals as goal

pub returns-in-Itself : goal.returns-in-Itself
unfolding moves
returns-in-Itself c = forward_by _ _ c.requires _ 0 c.args.back _ _ c.self_image.ensures (rw c.in-Itself.is)

pub returns-in-Child : goal.returns-in-Child
unfolding moves
returns-in-Child c = forward_by _ _ c.requires _ 1 c.args.back _ _ c.link_image.ensures (pair_is _ _ _ 1 c.in-Child.is refl refl)

pub returns-in-Right : goal.returns-in-Right
unfolding moves
returns-in-Right c = forward_by _ _ c.requires _ 2 c.args.back _ _ c.link_image-in-Right.ensures (pair_is _ _ _ 2 c.in-Right.is refl refl)

pub returns-in-Descendant : goal.returns-in-Descendant
unfolding moves
returns-in-Descendant c = forward_by _ _ c.requires _ 3 c.args.back _ _ c.link_image-in-Descendant.ensures (pair_is _ _ _ 3 c.in-Descendant.is refl refl)

pub returns-in-Following : goal.returns-in-Following
unfolding moves
returns-in-Following c = forward_by _ _ c.requires _ 4 c.args.back _ _ c.following_image.ensures (pair_is _ _ _ 4 c.in-Following.is refl refl)

pub returns-in-FollowingSibling : goal.returns-in-FollowingSibling
unfolding moves
returns-in-FollowingSibling c = forward_by _ _ c.requires _ 5 c.args.back _ _ c.link_image-in-FollowingSibling.ensures (pair_is _ _ _ 5 c.in-FollowingSibling.is refl refl)

pub returns-in-DescendantOrSelf : goal.returns-in-DescendantOrSelf
unfolding moves
returns-in-DescendantOrSelf c = forward_by _ _ c.requires _ 6 c.args.back _ _ c.star_image.ensures (pair_is _ _ _ 6 c.in-DescendantOrSelf.is refl refl)
