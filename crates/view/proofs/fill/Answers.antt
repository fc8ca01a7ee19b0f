use borrow.Author.Rules.{rules}
use native.Mathlib.Omega.{arith}
use Prim.Native.Nat.{◌<◌}
use lib.ListN.{get_or}
use mathlib.Core.Path.{refl}
use Rattle.view.proofs.Filling.{some_node, place_within, nodes_most, fill_start, parent_small, node_small, turn_seen, turn_more, fill_end}
use Rattle.view.proofs.fill.Goals as goal

pub bounds-table-0 : goal.bounds-table-0
bounds-table-0 c = omega (arith, c.requires.1)

pub tag-requires : goal.tag-requires
tag-requires c = some_node _ c.args.party c.requires.0

pub bounds-table-1 : goal.bounds-table-1
bounds-table-1 c = place_within c.args.table.now 0 65535 c.requires.1 (omega arith)

pub loop-x-init : goal.loop-x-init
loop-x-init c = fill_start _ _ c.requires.0 c.args.table.now _ c.requires.1 c.tag.ensures

pub offset_bounds-numbers-p : goal.offset_bounds-numbers-p
offset_bounds-numbers-p c = omega (arith, parent_small _ _ c.requires.0 _ _ _ _ c.loop-x.invariant (search rules) _ c.parent-p.ensures)

pub bounds-numbers-p : goal.bounds-numbers-p
bounds-numbers-p c = parent_small _ _ c.requires.0 _ _ _ _ c.loop-x.invariant (search rules) _ c.parent-p.ensures

pub overflow_mul-table : goal.overflow_mul-table
overflow_mul-table c = omega (arith, node_small _ _ c.requires.0 _ _ _ _ c.loop-x.invariant (search rules))

pub offset_bounds-table-nodes : goal.offset_bounds-table-nodes
offset_bounds-table-nodes c = omega (arith, node_small _ _ c.requires.0 _ _ _ _ c.loop-x.invariant (search rules))

pub bounds-table-nodes : goal.bounds-table-nodes
bounds-table-nodes c = omega (arith, node_small _ _ c.requires.0 _ _ _ _ c.loop-x.invariant (search rules), c.loop-x.invariant.long)

pub overflow_mul-table-in-loop-x : goal.overflow_mul-table-in-loop-x
overflow_mul-table-in-loop-x c = omega (arith, node_small _ _ c.requires.0 _ _ _ _ c.loop-x.invariant (search rules))

pub overflow_add-table : goal.overflow_add-table
overflow_add-table c = omega (arith, node_small _ _ c.requires.0 _ _ _ _ c.loop-x.invariant (search rules))

pub offset_bounds-table-nodes-in-loop-x : goal.offset_bounds-table-nodes-in-loop-x
offset_bounds-table-nodes-in-loop-x c = omega (arith, node_small _ _ c.requires.0 _ _ _ _ c.loop-x.invariant (search rules))

pub bounds-table-nodes-in-loop-x : goal.bounds-table-nodes-in-loop-x
bounds-table-nodes-in-loop-x c = place_within c.loop-x.table c.loop-x.nodes (get_or c.loop-x.numbers c.parent-p.result 0) c.loop-x.invariant.long (node_small _ _ c.requires.0 _ _ _ _ c.loop-x.invariant (search rules))

pub overflow_cast-numbers : goal.overflow_cast-numbers
overflow_cast-numbers c = omega (arith, node_small _ _ c.requires.0 _ _ _ _ c.loop-x.invariant (search rules), nodes_most _ c.args.party c.requires.0)

pub offset_bounds-numbers-x : goal.offset_bounds-numbers-x
offset_bounds-numbers-x c = omega (arith, parent_small _ _ c.requires.0 _ _ _ _ c.loop-x.invariant (search rules) _ c.parent-p.ensures)

pub bounds-numbers-x : goal.bounds-numbers-x
bounds-numbers-x c = omega (arith, nodes_most _ c.args.party c.requires.0)

pub overflow_add-nodes : goal.overflow_add-nodes
overflow_add-nodes c = let few : c.loop-x.nodes < 256 = node_small _ _ c.requires.0 _ _ _ _ c.loop-x.invariant (search rules) in search rules

pub loop-x-preserved : goal.loop-x-preserved
loop-x-preserved c = turn_more _ _ c.requires.0 _ _ _ _ c.loop-x.invariant (search rules) _ _ _ _ c.parent-p.ensures refl c.owner.ensures c.tag-in-loop-x.ensures _ _ _ (turn_seen _ _ c.requires.0 _ _ _ _ c.loop-x.invariant (search rules) _ _ _ _ c.parent-p.ensures refl c.owner.ensures c.tag-in-loop-x.ensures _ c.is_open.ensures) (search rules) (search rules)

pub returns : goal.returns
returns c = fill_end _ _ c.requires.0 _ _ _ _ c.loop-x.invariant (search rules)
