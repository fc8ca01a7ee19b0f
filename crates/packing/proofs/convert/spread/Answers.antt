use native.Mathlib.Omega.{arith}
use mathlib.Core.Path.{ap, ◌∙◌}
use borrow.Author.Rules.{rules}
use Rattle.model.specs.Sets.{bit}
use Rattle.packing.proofs.Rows.{part_start, part_more, part_length, part_done}
use Rattle.packing.proofs.convert.spread.Goals as goal

pub loop-k-init : goal.loop-k-init
loop-k-init c = part_start _ _ _

pub bounds-bytes-at : goal.bounds-bytes-at
bounds-bytes-at c = omega (arith, part_length _ _ _ _ _ c.loop-k.invariant (omega arith))

pub loop-k-preserved : goal.loop-k-preserved
loop-k-preserved c = part_more _ _ _ _ _ _ c.loop-k.invariant (c.byte-b.ensures ∙ ap bit c.test.ensures) (omega arith)

pub shape_of-bytes : goal.shape_of-bytes
shape_of-bytes c = part_length _ _ _ _ _ c.loop-k.invariant (omega arith)

pub returns : goal.returns
returns c = search (part_done, rules)
