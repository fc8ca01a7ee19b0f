use Rattle.moves.proofs.Axes.{following_moved}
use Rattle.moves.proofs.move_following.Goals as goal

pub returns : goal.returns
returns c = following_moved _ _ c.requires.0 c.args.back _ _ _ _ c.move_star-2.ensures c.move_plus.ensures c.move_star.ensures
