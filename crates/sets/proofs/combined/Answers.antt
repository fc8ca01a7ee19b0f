use mathlib.Core.Path.{ap, ◌∙◌}
use borrow.Author.Rules.{rules}
use Rattle.model.specs.Sets.{bit, memb}
use Rattle.model.proofs.Bytes.{fill_start, fill_store, fill_whole}
use Rattle.sets.specs.NodeSets.{combination}
use Rattle.sets.proofs.combined.Goals as goal

pub loop-i-init : goal.loop-i-init
loop-i-init c = search (fill_start, rules)

pub loop-i-preserved : goal.loop-i-preserved
unfolding memb combination
loop-i-preserved c = fill_store 256 _ _ _ _ c.loop-i.invariant (c.byte.ensures ∙ ap bit c.merge.ensures)

pub returns : goal.returns
returns c = search (fill_whole, rules)
