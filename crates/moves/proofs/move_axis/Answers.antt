use Rattle.moves.proofs.Axes.{axis_moved}
use Rattle.moves.proofs.move_axis.Goals as goal

pub returns : goal.returns
returns c = axis_moved _ _ c.args.a _ _ _ c.move_forward.ensures c.is_converse-back.ensures c.requires.0.tree.sound.at_most
