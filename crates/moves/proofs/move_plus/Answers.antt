use Rattle.moves.proofs.Axes.{plus_moved}
use Rattle.moves.proofs.move_plus.Goals as goal

pub returns : goal.returns
returns c = plus_moved _ _ c.args.back _ _ _ c.move_hop.ensures c.move_star.ensures c.requires.0
