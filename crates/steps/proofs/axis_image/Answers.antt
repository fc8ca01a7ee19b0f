use mathlib.Core.Path.{sym, ◌∙◌}
use Rattle.steps.proofs.Images.{axis_turned, axis_straight}
use Rattle.steps.proofs.axis_image.Goals as goal

pub returns-then-turned : goal.returns-then-turned
returns-then-turned c = axis_turned _ _ c.args.a c.args.back _ _ c.requires.tree.sound.at_most c.forward_image.ensures (sym c.is_converse-turned.ensures ∙ c.if-turned.true)

pub returns : goal.returns
returns c = axis_straight _ _ c.args.a c.args.back _ _ c.requires.tree.sound.at_most c.forward_image-2.ensures (sym c.is_converse-turned.ensures ∙ c.if-turned.false)
