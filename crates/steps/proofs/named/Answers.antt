use mathlib.Core.Path.{refl}
use borrow.Author.Rules.{rules}
use Rattle.model.proofs.Bytes.{fill_start, fill_store}
use Rattle.steps.proofs.Images.{named_byte}
use Rattle.steps.proofs.named.Goals as goal

pub loop-y-init : goal.loop-y-init
loop-y-init c = (refl, fill_start 256 _)

pub loop-y-preserved : goal.loop-y-preserved
loop-y-preserved c = (c.loop-y.invariant.0, fill_store 256 _ _ _ _ c.loop-y.invariant.1 (search (named_byte, rules)))
