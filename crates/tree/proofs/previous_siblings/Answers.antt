use borrow.Author.Rules.{rules}
use native.Mathlib.Omega.{arith}
use Prim.Native.Nat.{◌<◌}
use Rattle.tree.proofs.Siblings.{siblings_start, siblings_more, siblings_done, children_start, children_more, parent_fits}
use Rattle.tree.proofs.previous_siblings.Goals as goal

pub loop-y-init : goal.loop-y-init
loop-y-init c = search (siblings_start, children_start, rules)

pub offset_bounds-last-p : goal.offset_bounds-last-p
offset_bounds-last-p c = let low : c.parent-p.result < 256 = search (parent_fits, rules) in omega arith

pub bounds-last-p : goal.bounds-last-p
bounds-last-p c = search (parent_fits, rules)

pub offset_bounds-last-p-in-loop-y : goal.offset_bounds-last-p-in-loop-y
offset_bounds-last-p-in-loop-y c = let low : c.parent-p.result < 256 = search (parent_fits, rules) in omega arith

pub bounds-last-p-in-loop-y : goal.bounds-last-p-in-loop-y
bounds-last-p-in-loop-y c = search (parent_fits, rules)

pub loop-y-preserved : goal.loop-y-preserved
loop-y-preserved c = search (siblings_more, children_more, rules)

pub returns : goal.returns
returns c = search (siblings_done, rules)
