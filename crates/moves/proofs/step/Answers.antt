use Rattle.moves.proofs.Axes.{step_all, step_named}
use Rattle.moves.proofs.step.Goals as goal

pub returns-then-all : goal.returns-then-all
returns-then-all c = step_all _ _ _ _ _ _ _ c.move_axis.ensures c.passes_all-all.ensures c.if-all.true c.requires.0

pub returns : goal.returns
returns c = step_named _ _ _ _ _ _ _ c.move_axis-2.ensures c.keep_named.ensures c.requires.0.tree.sound.at_most
