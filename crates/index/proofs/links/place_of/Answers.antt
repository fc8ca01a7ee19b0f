use native.Mathlib.Omega.{arith}
use borrow.Author.Rules.{rules}
use Rattle.index.proofs.Halving.{within_start, middle_fits, within_next, within_less, within_place, within_there}
use Rattle.index.proofs.links.place_of.Goals as goal

pub loop-high-init : goal.loop-high-init
loop-high-init c = search (within_start, rules)

pub overflow_sub-high : goal.overflow_sub-high
overflow_sub-high c = omega (arith, c.loop-high.invariant.some)

pub overflow_add-middle : goal.overflow_add-middle
overflow_add-middle c = search (middle_fits, rules)

pub offset_bounds-list-middle : goal.offset_bounds-list-middle
offset_bounds-list-middle c = search (middle_fits, rules)

pub bounds-list-middle : goal.bounds-list-middle
bounds-list-middle c = search (middle_fits, rules)

pub loop-high-smaller : goal.loop-high-smaller
loop-high-smaller c = search (within_less, rules)

pub loop-high-preserved : goal.loop-high-preserved
loop-high-preserved c = search (within_next, rules)

pub returns : goal.returns
returns c = (search (within_place, rules), search (within_there, rules))
