use native.Mathlib.Omega.{arith}
use mathlib.Core.Bool.{cond}
use mathlib.Core.Path.{◌≡◌, refl, ap, ◌∙◌}
use borrow.Author.Rules.{rules}
use borrow.Author.Tests.{not-true, not-false}
use Rattle.model.specs.Sets.{bit}
use Rattle.model.proofs.Bytes.{fill_store, fill_done}
use Rattle.model.proofs.Counts.{ones_bytes}
use Rattle.eval.specs.Evaluation.{passed, reached}
use Rattle.model.proofs.KindTests.{path_on_left, path_on_right}
use Rattle.eval.proofs.Calls.{kind_at, other_kind, one_kind, operation_by, turned, straight, known_path, known_expr, either_operand, root_on_left, some_on_left, star_on_left, same_on_both, expr_on_left, filter_on_right, expr_on_right, variable_named, is_named_lem, left_path_lem, right_path_lem, left_expr_lem, right_expr_lem, variable_within, variable_node, variable_small}
use Rattle.eval.proofs.Entries.{did_step, did_compose, did_filter, did_filter_back, rows_start, rows_skip, rows_more, rows_end, row_below, rows_count, did_operands, did_union, variable_one, did_variable, did_root, did_ending, did_exists, did_negate, did_joined, did_is, did_star, same_hit, no_nodes}
use Rattle.eval.proofs.Growing.{start_within, more, fewer, done}
use Rattle.eval.proofs.+evaluation.Goals as goal
use Rattle.eval.proofs.+evaluation.Goals.{by_rows-then-from-x-ne0, by_rows-else-from-x-ne0, path-then-back, path-else-back}

pub by_rows-loop-x-init : goal.by_rows-loop-x-init
by_rows-loop-x-init t c = (refl, search (rows_start, rules))

pub by_rows-returns : goal.by_rows-returns
by_rows-returns t c = (search (rows_end, rules), search (rows_count, rules))

pub by_rows-loop-x-preserved : goal.by_rows-loop-x-preserved
by_rows-loop-x-preserved t c = let p = c.requires in (
  c.loop-x.invariant.0,
  elim c.if-from-x-ne0.branch [
    | by_rows-then-from-x-ne0 w ↦ w.found-is ∙ rows_more p.0 _ _ _ _ _ _ _ _ w.combined-next.ensures c.loop-x.invariant.1 w.operands-row.ensures.0 w.single-s.ensures w.if-from-x-ne0.true (omega arith) p.1.within p.1.least p.1.most
    | by_rows-else-from-x-ne0 w ↦ w.found-is ∙ rows_skip p.0 _ _ _ _ _ c.loop-x.invariant.1 w.if-from-x-ne0.false
  ],
)

pub ends-variable-requires : goal.ends-variable-requires
ends-variable-requires t c = let p = c.requires in let f = c.entry_at-f.ensures.0 in let k = kind_at f in (variable_within f p.0 p.1.within (variable_named (omega arith)), variable_small f p.0 p.1.within (variable_named (omega arith)))

pub ends-returns-in-Variable : goal.ends-returns-in-Variable
ends-returns-in-Variable t c = let p = c.requires in let f = c.entry_at-f.ensures.0 in let k = kind_at f in let h : c.entry_at-f.result.kind ≡ 6 = omega arith in search (did_variable, variable_node, variable_one, variable_named, rules)

pub ends-path-requires : goal.ends-path-requires
ends-path-requires t c = let p = c.requires in let f = c.entry_at-f.ensures.0 in let k = kind_at f in let w = left_path_lem f p.0 p.1.within (root_on_left (omega arith)) in (omega (arith, w.lower), (p.0, w.kinds))

pub ends-returns-in-Root : goal.ends-returns-in-Root
ends-returns-in-Root t c = let p = c.requires in let f = c.entry_at-f.ensures.0 in let k = kind_at f in let h : c.entry_at-f.result.kind ≡ 7 = omega arith in search (did_root, rules)

pub filter-node-s-requires : goal.filter-node-s-requires
filter-node-s-requires t c = let p = c.requires in let f = c.entry_at-f.ensures.0 in let k = kind_at f in let w = right_expr_lem f p.0 p.1.within (filter_on_right (omega arith)) in (omega (arith, w.lower), (p.0, w.kinds))

pub filter-path-requires : goal.filter-path-requires
filter-path-requires t c = let p = c.requires in let f = c.entry_at-f.ensures.0 in let k = kind_at f in let w = left_path_lem f p.0 p.1.within (path_on_left (omega arith) (omega arith)) in (omega (arith, w.lower), (p.0, w.kinds))

pub filter-returns-then-back : goal.filter-returns-then-back
filter-returns-then-back t c = let p = c.requires in let f = c.entry_at-f.ensures.0 in let k = kind_at f in let h : c.entry_at-f.result.kind ≡ 5 = omega arith in search (did_filter_back, rules)

pub filter-path-m-requires : goal.filter-path-m-requires
filter-path-m-requires t c = let p = c.requires in let f = c.entry_at-f.ensures.0 in let k = kind_at f in let w = left_path_lem f p.0 p.1.within (path_on_left (omega arith) (omega arith)) in (omega (arith, w.lower), (p.0, w.kinds))

pub filter-returns : goal.filter-returns
filter-returns t c = let p = c.requires in let f = c.entry_at-f.ensures.0 in let k = kind_at f in let h : c.entry_at-f.result.kind ≡ 5 = omega arith in search (did_filter, rules)

pub node-path-requires : goal.node-path-requires
node-path-requires t c = let p = c.requires in let f = c.entry_at-f.ensures.0 in let k = kind_at f in let w = left_path_lem f p.0 p.1.within (some_on_left (omega arith)) in (omega (arith, w.lower), (p.0, w.kinds))

pub node-node-a-requires : goal.node-node-a-requires
node-node-a-requires t c = let p = c.requires in let f = c.entry_at-f.ensures.0 in let k = kind_at f in let w = left_expr_lem f p.0 p.1.within (expr_on_left (omega arith) (omega arith)) in (omega (arith, w.lower), (p.0, w.kinds))

pub node-variable-requires : goal.node-variable-requires
node-variable-requires t c = let p = c.requires in let f = c.entry_at-f.ensures.0 in let k = kind_at f in (variable_within f p.0 p.1.within (is_named_lem (omega arith)), variable_small f p.0 p.1.within (is_named_lem (omega arith)))

pub node-node-b-requires : goal.node-node-b-requires
node-node-b-requires t c = let p = c.requires in let f = c.entry_at-f.ensures.0 in let k = kind_at f in let s = one_kind c.in-And.is c.kind_of-kind.ensures in let w = right_expr_lem f p.0 p.1.within (expr_on_right (omega arith) (omega arith)) in (omega (arith, w.lower), (p.0, w.kinds))

pub node-returns-in-Exists : goal.node-returns-in-Exists
node-returns-in-Exists t c = let p = c.requires in let f = c.entry_at-f.ensures.0 in let k = kind_at f in let h : c.entry_at-f.result.kind ≡ 8 = omega arith in search (did_exists, rules)

pub node-returns-in-Not : goal.node-returns-in-Not
node-returns-in-Not t c = let p = c.requires in let f = c.entry_at-f.ensures.0 in let k = kind_at f in let h : c.entry_at-f.result.kind ≡ 9 = omega arith in search (did_negate, rules)

pub node-returns-in-Is : goal.node-returns-in-Is
node-returns-in-Is t c = let p = c.requires in let f = c.entry_at-f.ensures.0 in let k = kind_at f in let h : c.entry_at-f.result.kind ≡ 12 = omega arith in search (did_is, variable_node, variable_one, is_named_lem, rules)

pub node-node-a-requires-in-And : goal.node-node-a-requires-in-And
node-node-a-requires-in-And t c = let p = c.requires in let f = c.entry_at-f.ensures.0 in let k = kind_at f in let s = one_kind c.in-And.is c.kind_of-kind.ensures in let w = left_expr_lem f p.0 p.1.within (expr_on_left (omega arith) (omega arith)) in (omega (arith, w.lower), (p.0, w.kinds))

pub node-unreachable-requires : goal.node-unreachable-requires
node-unreachable-requires t c = let p = c.requires in let f = c.entry_at-f.ensures.0 in let k = kind_at f in let m = known_expr f p.0 p.1.within p.1.sort in omega (arith, other_kind c.in_default.not-Exists c.kind_of-kind.ensures, other_kind c.in_default.not-Not c.kind_of-kind.ensures, other_kind c.in_default.not-And c.kind_of-kind.ensures, other_kind c.in_default.not-Or c.kind_of-kind.ensures, other_kind c.in_default.not-Is c.kind_of-kind.ensures, other_kind c.in_default.not-Same c.kind_of-kind.ensures)

pub node-returns-in-And : goal.node-returns-in-And
node-returns-in-And t c = let p = c.requires in (did_joined c.entry_at-f.ensures.0 p.0 p.1.within _ _ _ c.combined_counted-in-And.ensures.0 c.operation.ensures c.kind_of-kind.ensures c.in-And.is c.node-a-in-And.ensures.0 c.node-b.ensures.0, c.combined_counted-in-And.ensures.1)

pub operands-path-a-requires : goal.operands-path-a-requires
operands-path-a-requires t c = let p = c.requires in let f = c.entry_at-f.ensures.0 in let k = kind_at f in let w = left_path_lem f p.0 p.1.within (path_on_left (omega arith) (omega arith)) in (omega (arith, w.lower), (p.0, w.kinds))

pub operands-path-b-requires : goal.operands-path-b-requires
operands-path-b-requires t c = let p = c.requires in let f = c.entry_at-f.ensures.0 in let k = kind_at f in let w = right_path_lem f p.0 p.1.within (path_on_right (omega arith) (omega arith)) in (omega (arith, w.lower), (p.0, w.kinds))

pub operands-returns : goal.operands-returns
operands-returns t c = let p = c.requires in let f = c.entry_at-f.ensures.0 in let k = kind_at f in (did_operands f p.0 p.1.within _ _ _ _ _ _ c.combined_counted.ensures.0 c.path-a.ensures.0 c.path-b.ensures.0 (operation_by c.kind_of.result c.operation-op.ensures c.kind_of.ensures (omega arith) (omega arith)), c.combined_counted.ensures.1)

pub path-ending_image-requires : goal.path-ending_image-requires
path-ending_image-requires t c = search (row_below, rules, c.requires.0)

pub path-returns-in-Step : goal.path-returns-in-Step
path-returns-in-Step t c = let p = c.requires in let f = c.entry_at-f.ensures.0 in let k = kind_at f in let h : c.entry_at-f.result.kind ≡ 0 = omega arith in search (did_step, rules)

pub path-path-m-requires : goal.path-path-m-requires
path-path-m-requires t c = let p = c.requires in let f = c.entry_at-f.ensures.0 in let k = kind_at f in let o : (c.if-back.first.0 ≡ cond c.args.back c.entry_at-f.result.right c.entry_at-f.result.left) × (c.if-back.first.1 ≡ cond c.args.back c.entry_at-f.result.left c.entry_at-f.result.right) = elim c.if-back.branch [ path-then-back w ↦ turned w.first-is w.if-back.true | path-else-back w ↦ straight w.first-is w.if-back.false ] in let w = either_operand c.args.back o.0 (right_path_lem f p.0 p.1.within (path_on_right (omega arith) (omega arith))) (left_path_lem f p.0 p.1.within (path_on_left (omega arith) (omega arith))) in (omega (arith, w.lower), (p.0, w.kinds))

pub path-path-requires : goal.path-path-requires
path-path-requires t c = let p = c.requires in let f = c.entry_at-f.ensures.0 in let k = kind_at f in let o : (c.if-back.first.0 ≡ cond c.args.back c.entry_at-f.result.right c.entry_at-f.result.left) × (c.if-back.first.1 ≡ cond c.args.back c.entry_at-f.result.left c.entry_at-f.result.right) = elim c.if-back.branch [ path-then-back w ↦ turned w.first-is w.if-back.true | path-else-back w ↦ straight w.first-is w.if-back.false ] in let w = either_operand c.args.back o.1 (left_path_lem f p.0 p.1.within (path_on_left (omega arith) (omega arith))) (right_path_lem f p.0 p.1.within (path_on_right (omega arith) (omega arith))) in (omega (arith, w.lower), (p.0, w.kinds))

pub path-returns-after-back : goal.path-returns-after-back
path-returns-after-back t c = let p = c.requires in let f = c.entry_at-f.ensures.0 in let k = kind_at f in let o : (c.if-back.first.0 ≡ cond c.args.back c.entry_at-f.result.right c.entry_at-f.result.left) × (c.if-back.first.1 ≡ cond c.args.back c.entry_at-f.result.left c.entry_at-f.result.right) = elim c.if-back.branch [ path-then-back w ↦ turned w.first-is w.if-back.true | path-else-back w ↦ straight w.first-is w.if-back.false ] in (did_compose f p.0 p.1.within _ _ _ _ _ _ c.path.ensures.0 c.path-m.ensures.0 o.1 o.0 (omega arith), c.path.ensures.1)

pub path-returns-in-Union : goal.path-returns-in-Union
path-returns-in-Union t c = let p = c.requires in let f = c.entry_at-f.ensures.0 in let k = kind_at f in let h : c.entry_at-f.result.kind ≡ 2 = omega arith in search (did_union, rules)

pub path-returns-in-Variable : goal.path-returns-in-Variable
path-returns-in-Variable t c = let p = c.requires in let f = c.entry_at-f.ensures.0 in let k = kind_at f in let s = one_kind c.in-Variable.is c.kind_of.ensures in (did_ending f p.0 p.1.within _ _ _ _ c.ending_image.ensures.0 c.ends-to.ensures.0 (omega arith) (omega arith), c.ending_image.ensures.1)

pub path-unreachable-requires : goal.path-unreachable-requires
path-unreachable-requires t c = let p = c.requires in let f = c.entry_at-f.ensures.0 in let k = kind_at f in let m = known_path f p.0 p.1.within p.1.sort (other_kind c.in_default.not-Star c.kind_of.ensures) in omega (arith, other_kind c.in_default.not-Step c.kind_of.ensures, other_kind c.in_default.not-Compose c.kind_of.ensures, other_kind c.in_default.not-Union c.kind_of.ensures, other_kind c.in_default.not-Intersect c.kind_of.ensures, other_kind c.in_default.not-Except c.kind_of.ensures, other_kind c.in_default.not-Filter c.kind_of.ensures, other_kind c.in_default.not-Variable c.kind_of.ensures, other_kind c.in_default.not-Root c.kind_of.ensures)

pub same-path-a-requires : goal.same-path-a-requires
same-path-a-requires t c = let p = c.requires in let f = c.entry_at-f.ensures.0 in let k = kind_at f in let w = left_path_lem f p.0 p.1.within (same_on_both (omega arith)).0 in (omega (arith, w.lower), (p.0, w.kinds))

pub same-path-b-requires : goal.same-path-b-requires
same-path-b-requires t c = let p = c.requires in let f = c.entry_at-f.ensures.0 in let k = kind_at f in let w = right_path_lem f p.0 p.1.within (same_on_both (omega arith)).1 in (omega (arith, w.lower), (p.0, w.kinds))

pub same-loop-x-init : goal.same-loop-x-init
same-loop-x-init t c = (refl, no_nodes _ _ c.full-starts.ensures)

pub same-loop-x-preserved : goal.same-loop-x-preserved
same-loop-x-preserved t c = let p = c.requires in let f = c.entry_at-f.ensures.0 in let k = kind_at f in (c.loop-x.invariant.0, fill_store 256 _ _ _ _ c.loop-x.invariant.1 (c.byte.ensures ∙ ap bit (same_hit f p.0 p.1.within _ _ _ _ _ _ c.occupied-some.ensures c.combined-met.ensures c.path-a.ensures.0 c.path-b.ensures.0 c.single-start.ensures (omega arith) (omega arith))))

pub same-returns : goal.same-returns
unfolding passed
same-returns t c = (fill_done 256 _ _ _ _ c.loop-x.invariant.1 (omega arith) (omega arith), ones_bytes _ _ _ c.count_of.ensures c.loop-x.invariant.1)

pub star-loop-fresh-init : goal.star-loop-fresh-init
star-loop-fresh-init t c = let p = c.requires in (refl, start_within _ p.0.linked.tree.sound.at_most _ _ _ _ c.combined-known.ensures c.full-all.ensures)

pub star-path-next-requires : goal.star-path-next-requires
star-path-next-requires t c = let p = c.requires in let f = c.entry_at-f.ensures.0 in let k = kind_at f in let w = left_path_lem f p.0 p.1.within (star_on_left (omega arith)) in (omega (arith, w.lower), (p.0, w.kinds))

pub star-returns-then-not-more : goal.star-returns-then-not-more
unfolding reached
star-returns-then-not-more t c = let p = c.requires in let f = c.entry_at-f.ensures.0 in let k = kind_at f in let w = c.loop-fresh.invariant.1 in (did_star f p.0 p.1.within _ _ _ _ _ (done _ p.0.linked.tree.sound.at_most _ _ _ _ _ _ w c.path-next.ensures.0 c.combined-fresh.ensures _ c.occupied-more.ensures (not-true _ c.if-not-more.true-raw)) c.combined-known.ensures c.full-all.ensures (omega arith), ones_bytes _ _ _ c.count_of.ensures w.nodes)

pub star-loop-fresh-smaller : goal.star-loop-fresh-smaller
unfolding reached
star-loop-fresh-smaller t c = let p = c.requires in fewer _ p.0.linked.tree.sound.at_most _ _ _ _ _ _ c.loop-fresh.invariant.1 c.path-next.ensures.0 c.combined-fresh.ensures _ c.combined-grown.ensures _ c.occupied-more.ensures (not-false _ c.if-not-more.false-raw)

pub star-loop-fresh-preserved : goal.star-loop-fresh-preserved
unfolding reached
star-loop-fresh-preserved t c = let p = c.requires in (c.loop-fresh.invariant.0, more _ p.0.linked.tree.sound.at_most _ _ _ _ _ _ c.loop-fresh.invariant.1 c.path-next.ensures.0 c.combined-fresh.ensures _ c.combined-grown.ensures)
