use native.Mathlib.Omega.{arith}
use mathlib.Core.Path.{◌≡◌, refl, sym, ap, ◌∙◌}
use mathlib.Core.Bool.{cond}
use lib.ListN.{get_or}
use lib.Dec.{ltb}
use borrow.Author.Tests.{lt-ltb, le-ltb}
use Rattle.model.proofs.KindTests.{path_on_left, path_on_right}
use Rattle.eval.proofs.Calls.{axis_known, other_kind, known_path, known_expr, root_on_left, some_on_left, star_on_left, expr_on_left, expr_on_right, filter_on_right, variable_named, is_named_lem, variable_within, variable_node, variable_small}
use Rattle.relations.specs.Evaluation.{operation}
use Rattle.relations.proofs.Algebra.{leaves, leaves_on, leaves_none, becomes_on}
use Rattle.relations.proofs.Entries.{did_step, did_compose, did_filter, did_variable, did_root, did_closure, joined_path, did_tables, did_combine, applied_step, applied_compose, applied_filter, applied_variable, applied_root, did_product, did_exists, did_same, did_negate, did_both, did_either, did_is, did_keep}
use Rattle.relations.proofs.Calls.{small_tree, ask_left, ask_right, ask_left_expr, ask_right_expr, left_index, first_of, second_of, ask_spare, joins_path, joins_same, combining, ask_first, waits, ask_second, held_first, straight_left, straight_right}
use Rattle.relations.proofs.table.Evaluation.+tables.Goals as goal
use Rattle.relations.proofs.table.Evaluation.+tables.Goals.{operands-then-turned, operands-else-turned, second-then-turned, second-else-turned, table-in_default-via-in-Compose+else-from-room, table-in_default-via-in_default}

pub apply-apply-requires : goal.apply-apply-requires
apply-apply-requires t c = let a = c.requires in let f = c.entry_at-f.ensures.0 in let w = ask_right a f refl (path_on_right (omega (arith, c.in-Compose.ensures)) (omega (arith, c.in-Compose.ensures))) in (omega (arith, w.0), w.1)

pub apply-apply-requires-in-Compose : goal.apply-apply-requires-in-Compose
apply-apply-requires-in-Compose t c = let a = c.requires in let f = c.entry_at-f.ensures.0 in let w = ask_left a f c.apply.auto.acc (path_on_left (omega (arith, c.in-Compose.ensures)) (omega (arith, c.in-Compose.ensures))) in (omega (arith, w.0), w.1)

pub apply-keep-requires : goal.apply-keep-requires
apply-keep-requires t c = let a = c.requires in let f = c.entry_at-f.ensures.0 in let w = ask_right_expr a f refl (filter_on_right (sym c.in-Filter.ensures)) in (omega (arith, w.0), w.1)

pub apply-apply-requires-in-Filter : goal.apply-apply-requires-in-Filter
apply-apply-requires-in-Filter t c = let a = c.requires in let f = c.entry_at-f.ensures.0 in let w = ask_left a f c.keep.auto.acc (path_on_left (omega (arith, c.in-Filter.ensures)) (omega (arith, c.in-Filter.ensures))) in (omega (arith, w.0), w.1)

pub apply-variable-requires : goal.apply-variable-requires
apply-variable-requires t c = let a = c.requires in let f = c.entry_at-f.ensures.0 in variable_within f a.ready a.kinds.within (variable_named (sym c.in-Variable.ensures))

pub apply-spread-requires : goal.apply-spread-requires
apply-spread-requires t c = let a = c.requires in let f = c.entry_at-f.ensures.0 in (small_tree a, (a.table, omega (arith, c.variable.ensures, variable_node f a.ready a.kinds.within (variable_named (sym c.in-Variable.ensures)))))

pub apply-apply-requires-in-Root : goal.apply-apply-requires-in-Root
apply-apply-requires-in-Root t c = let a = c.requires in let f = c.entry_at-f.ensures.0 in let w = ask_left a f refl (root_on_left (sym c.in-Root.ensures)) in (omega (arith, w.0), w.1)

pub apply-axis_of-axis-requires : goal.apply-axis_of-axis-requires
apply-axis_of-axis-requires t c = let a = c.requires in axis_known c.entry_at-f.ensures.0 a.ready a.kinds.within (sym c.in-Step.ensures)

pub apply-returns-in-Step : goal.apply-returns-in-Step
apply-returns-in-Step t c = let a = c.requires in let f = c.entry_at-f.ensures.0 in applied_step f a.ready a.kinds.within (rw c.axis_of-axis.ensures at c.step.ensures) (sym c.in-Step.ensures)

pub apply-returns-in-Compose : goal.apply-returns-in-Compose
apply-returns-in-Compose t c = let a = c.requires in let f = c.entry_at-f.ensures.0 in applied_compose f a.ready a.kinds.within c.apply-in-Compose.ensures c.apply.ensures (sym c.in-Compose.ensures)

pub apply-returns-in-Filter : goal.apply-returns-in-Filter
apply-returns-in-Filter t c = let a = c.requires in let f = c.entry_at-f.ensures.0 in applied_filter f a.ready a.kinds.within c.apply-in-Filter.ensures c.keep.ensures (sym c.in-Filter.ensures)

pub apply-returns-in-Variable : goal.apply-returns-in-Variable
apply-returns-in-Variable t c = let a = c.requires in let f = c.entry_at-f.ensures.0 in applied_variable f a.ready a.kinds.within _ c.spread.ensures c.variable.ensures (sym c.in-Variable.ensures)

pub apply-returns-in-Root : goal.apply-returns-in-Root
apply-returns-in-Root t c = let a = c.requires in let f = c.entry_at-f.ensures.0 in applied_root f a.ready a.kinds.within c.spread-in-Root.ensures c.apply-in-Root.ensures (sym c.in-Root.ensures)

pub keep-returns : goal.keep-returns
keep-returns t c = let a = c.requires in did_keep _ _ _ _ _ (small_tree a) c.keep.ensures c.copy-2.ensures c.node-s.ensures.0 c.node-s.ensures.1 c.copy.ensures

pub node-table-requires : goal.node-table-requires
node-table-requires t c = let a = c.requires in let f = c.entry_at-f.ensures.0 in let w = ask_left a f refl (some_on_left (sym c.in-Exists.ensures)) in (omega (arith, w.0), w.1)

pub node-variable-requires : goal.node-variable-requires
node-variable-requires t c = let a = c.requires in let f = c.entry_at-f.ensures.0 in variable_within f a.ready a.kinds.within (is_named_lem (sym c.in-Is.ensures))

pub node-single-requires : goal.node-single-requires
node-single-requires t c = let a = c.requires in let f = c.entry_at-f.ensures.0 in omega (arith, c.variable.ensures, variable_small f a.ready a.kinds.within (is_named_lem (sym c.in-Is.ensures)))

pub node-operands-requires : goal.node-operands-requires
node-operands-requires t c = let a = c.requires in let f = c.entry_at-f.ensures.0 in (omega arith, joins_same a f (sym c.in-Same.ensures))

pub node-node-a-requires : goal.node-node-a-requires
node-node-a-requires t c = let a = c.requires in let f = c.entry_at-f.ensures.0 in let w = ask_left_expr a f refl (expr_on_left (omega (arith, c.in-Not.ensures)) (omega (arith, c.in-Not.ensures))) in (omega (arith, w.0), w.1)

pub node-node-a-requires-in-And : goal.node-node-a-requires-in-And
node-node-a-requires-in-And t c = let a = c.requires in let f = c.entry_at-f.ensures.0 in let w = ask_left_expr a f refl (expr_on_left (omega (arith, c.in-And.ensures)) (omega (arith, c.in-And.ensures))) in (omega (arith, w.0), w.1)

pub node-node-b-requires : goal.node-node-b-requires
node-node-b-requires t c = let a = c.requires in let f = c.entry_at-f.ensures.0 in let w = ask_right_expr a f c.node-a-in-And.auto.acc (expr_on_right (omega (arith, c.in-And.ensures)) (omega (arith, c.in-And.ensures))) in (omega (arith, w.0), w.1)

pub node-node-a-requires-in-Or : goal.node-node-a-requires-in-Or
node-node-a-requires-in-Or t c = let a = c.requires in let f = c.entry_at-f.ensures.0 in let w = ask_left_expr a f refl (expr_on_left (omega (arith, c.in-Or.ensures)) (omega (arith, c.in-Or.ensures))) in (omega (arith, w.0), w.1)

pub node-node-b-requires-in-Or : goal.node-node-b-requires-in-Or
node-node-b-requires-in-Or t c = let a = c.requires in let f = c.entry_at-f.ensures.0 in let w = ask_right_expr a f c.node-a-in-Or.auto.acc (expr_on_right (omega (arith, c.in-Or.ensures)) (omega (arith, c.in-Or.ensures))) in (omega (arith, w.0), w.1)

pub node-unreachable-requires : goal.node-unreachable-requires
node-unreachable-requires t c =
    let a = c.requires in
    let x = known_expr c.entry_at-f.ensures.0 a.ready a.kinds.within a.kinds.sort in
    omega (arith, x.0, x.1.0, x.1.1, other_kind c.in_default.not-Exists c.kind_of.ensures, other_kind c.in_default.not-Not c.kind_of.ensures, other_kind c.in_default.not-And c.kind_of.ensures, other_kind c.in_default.not-Or c.kind_of.ensures, other_kind c.in_default.not-Is c.kind_of.ensures, other_kind c.in_default.not-Same c.kind_of.ensures)

pub node-returns-in-Exists : goal.node-returns-in-Exists
node-returns-in-Exists t c = let a = c.requires in let f = c.entry_at-f.ensures.0 in (did_exists f a.ready a.kinds.within _ c.starts.ensures c.table.ensures (sym c.in-Exists.ensures), leaves c.table.ensures)

pub node-returns-in-Is : goal.node-returns-in-Is
node-returns-in-Is t c = let a = c.requires in let f = c.entry_at-f.ensures.0 in (did_is f a.ready a.kinds.within _ _ c.single.ensures c.variable.ensures (sym c.in-Is.ensures), leaves_none)

pub node-returns-in-Same : goal.node-returns-in-Same
node-returns-in-Same t c = let a = c.requires in let f = c.entry_at-f.ensures.0 in (did_same f a.ready a.kinds.within _ c.starts-in-Same.ensures c.operands.ensures (sym c.in-Same.ensures), leaves c.operands.ensures)

pub node-returns-in-Not : goal.node-returns-in-Not
node-returns-in-Not t c = let a = c.requires in let f = c.entry_at-f.ensures.0 in (did_negate f a.ready a.kinds.within _ _ _ c.merged.ensures c.full.ensures c.node-a.ensures.0 (sym c.in-Not.ensures), c.node-a.ensures.1)

pub node-returns-in-And : goal.node-returns-in-And
node-returns-in-And t c = let a = c.requires in let f = c.entry_at-f.ensures.0 in (did_both f a.ready a.kinds.within _ _ _ c.merged-in-And.ensures c.node-a-in-And.ensures.0 c.node-b.ensures.0 (sym c.in-And.ensures), leaves_on c.node-a-in-And.ensures.1 c.node-b.ensures.1)

pub node-returns-in-Or : goal.node-returns-in-Or
node-returns-in-Or t c = let a = c.requires in let f = c.entry_at-f.ensures.0 in (did_either f a.ready a.kinds.within _ _ _ c.merged-in-Or.ensures c.node-a-in-Or.ensures.0 c.node-b-in-Or.ensures.0 (sym c.in-Or.ensures), leaves_on c.node-a-in-Or.ensures.1 c.node-b-in-Or.ensures.1)

pub operands-table-requires : goal.operands-table-requires
operands-table-requires t c = let f = c.entry_at-f.ensures.0 in let p : c.if-turned.first ≡ cond (ltb (get_or c.args.self.now.counts c.entry_at-f.result.left 0) (get_or c.args.self.now.counts c.entry_at-f.result.right 0)) c.entry_at-f.result.right c.entry_at-f.result.left = elim c.if-turned.branch [ operands-then-turned w ↦ first_of _ _ _ (lt-ltb _ _ w.if-turned.true) w.first-is | operands-else-turned w ↦ second_of _ _ _ (le-ltb _ _ w.if-turned.false) w.first-is ] in let w = ask_first c.requires f _ _ refl p in (omega (arith, w.0), w.1)

pub operands-second-requires : goal.operands-second-requires
operands-second-requires t c = let f = c.entry_at-f.ensures.0 in let p : c.if-turned.first ≡ cond (ltb (get_or c.args.self.now.counts c.entry_at-f.result.left 0) (get_or c.args.self.now.counts c.entry_at-f.result.right 0)) c.entry_at-f.result.right c.entry_at-f.result.left = elim c.if-turned.branch [ operands-then-turned w ↦ first_of _ _ _ (lt-ltb _ _ w.if-turned.true) w.first-is | operands-else-turned w ↦ second_of _ _ _ (le-ltb _ _ w.if-turned.false) w.first-is ] in (omega arith, waits c.requires f _ p c.table.ensures)

pub operands-returns : goal.operands-returns
operands-returns t c = becomes_on (leaves c.table.ensures) c.second.ensures (λ x y lx ly. refl)

pub product-returns : goal.product-returns
product-returns t c = let a = c.requires in did_product _ _ _ _ (small_tree a) c.compose.ensures c.table.ensures c.copy.ensures

pub second-overflow_sub-room : goal.second-overflow_sub-room
second-overflow_sub-room t c = let f = c.entry_at-f.ensures.0 in let p : c.if-turned.i ≡ cond c.args.turned c.entry_at-f.result.left c.entry_at-f.result.right = elim c.if-turned.branch [ second-then-turned w ↦ first_of _ _ _ w.if-turned.true w.i-is | second-else-turned w ↦ second_of _ _ _ w.if-turned.false w.i-is ] in (ask_second c.requires f _ p).1.0

pub second-table-requires : goal.second-table-requires
second-table-requires t c = let f = c.entry_at-f.ensures.0 in let p : c.if-turned.i ≡ cond c.args.turned c.entry_at-f.result.left c.entry_at-f.result.right = elim c.if-turned.branch [ second-then-turned w ↦ first_of _ _ _ w.if-turned.true w.i-is | second-else-turned w ↦ second_of _ _ _ w.if-turned.false w.i-is ] in let w = ask_second c.requires f _ p in (omega (arith, w.0), w.1.1)

pub second-operation-requires : goal.second-operation-requires
second-operation-requires t c = let f = c.entry_at-f.ensures.0 in let n = other_kind c.in_default.not-Compose c.kind_of.ensures in let w = combining c.requires.joins f n in (rw c.kind_of.ensures (rw f c.requires.joins.both), omega (arith, w.0, c.kind_of.ensures))

pub second-returns-in-Compose : goal.second-returns-in-Compose
second-returns-in-Compose t c = let f = c.entry_at-f.ensures.0 in let p : c.if-turned.i ≡ cond c.args.turned c.entry_at-f.result.left c.entry_at-f.result.right = elim c.if-turned.branch [ second-then-turned w ↦ first_of _ _ _ w.if-turned.true w.i-is | second-else-turned w ↦ second_of _ _ _ w.if-turned.false w.i-is ] in let a = c.requires.joins.asks in let k = sym c.in-Compose.ensures in did_tables f a.ready a.kinds.within _ _ c.requires.holds c.copy.ensures c.table.ensures _ c.copy-in-Compose.ensures c.compose.ensures (straight_left c.requires f k) (p ∙ straight_right c.requires f k) k

pub second-returns-in_default : goal.second-returns-in_default
second-returns-in_default t c = let f = c.entry_at-f.ensures.0 in let p : c.if-turned.i ≡ cond c.args.turned c.entry_at-f.result.left c.entry_at-f.result.right = elim c.if-turned.branch [ second-then-turned w ↦ first_of _ _ _ w.if-turned.true w.i-is | second-else-turned w ↦ second_of _ _ _ w.if-turned.false w.i-is ] in let n = other_kind c.in_default.not-Compose c.kind_of.ensures in let a = c.requires.joins.asks in did_combine f a.ready a.kinds.within _ _ c.requires.holds c.copy.ensures c.table.ensures _ c.args.turned c.combine.ensures (held_first c.args.self.now.call.now.query.now c.args.e c.args.turned f) p (c.operation.ensures ∙ ap operation c.kind_of.ensures) (rw f c.requires.joins.both) n

pub table-node-s-requires : goal.table-node-s-requires
table-node-s-requires t c = let a = c.requires in let f = c.entry_at-f.ensures.0 in let w = ask_right_expr a f refl (filter_on_right (sym c.in-Filter.ensures)) in (omega (arith, w.0), w.1)

pub table-table-requires : goal.table-table-requires
table-table-requires t c = let a = c.requires in let f = c.entry_at-f.ensures.0 in let w = ask_left a f c.node-s.auto.acc (path_on_left (omega (arith, c.in-Filter.ensures)) (omega (arith, c.in-Filter.ensures))) in (omega (arith, w.0), w.1)

pub table-variable-requires : goal.table-variable-requires
table-variable-requires t c = let a = c.requires in let f = c.entry_at-f.ensures.0 in variable_within f a.ready a.kinds.within (variable_named (sym c.in-Variable.ensures))

pub table-spread-requires : goal.table-spread-requires
table-spread-requires t c = let a = c.requires in let f = c.entry_at-f.ensures.0 in (small_tree a, (omega (arith, a.table, c.diagonal-in-Variable.auto.acc), omega (arith, c.variable.ensures, variable_node f a.ready a.kinds.within (variable_named (sym c.in-Variable.ensures)))))

pub table-table-requires-in-Root : goal.table-table-requires-in-Root
table-table-requires-in-Root t c = let a = c.requires in let f = c.entry_at-f.ensures.0 in let w = ask_left a f refl (root_on_left (sym c.in-Root.ensures)) in (omega (arith, w.0), w.1)

pub table-table-requires-in-Star : goal.table-table-requires-in-Star
table-table-requires-in-Star t c = let a = c.requires in let f = c.entry_at-f.ensures.0 in let w = ask_left a f refl (star_on_left (sym c.in-Star.ensures)) in (omega (arith, w.0), w.1)

pub table-bounds-self-f : goal.table-bounds-self-f
table-bounds-self-f t c = let a = c.requires in let f = c.entry_at-f.ensures.0 in omega (arith, left_index a f (path_on_left (omega (arith, c.in-Compose.ensures)) (omega (arith, c.in-Compose.ensures))), a.counted.size)

pub table-table-requires-in-Compose : goal.table-table-requires-in-Compose
table-table-requires-in-Compose t c = let a = c.requires in let f = c.entry_at-f.ensures.0 in let w = ask_right a f refl (path_on_right (omega (arith, c.in-Compose.ensures)) (omega (arith, c.in-Compose.ensures))) in (omega (arith, w.0), w.1)

pub table-apply-requires : goal.table-apply-requires
table-apply-requires t c = let a = c.requires in let f = c.entry_at-f.ensures.0 in let w = ask_spare a f (path_on_left (omega (arith, c.in-Compose.ensures)) (omega (arith, c.in-Compose.ensures))) (omega (arith, c.from.ensures)) c.table-in-Compose.auto.acc in (omega (arith, w.0), w.1)

pub table-operands-requires : goal.table-operands-requires
table-operands-requires t c = let a = c.requires in let f = c.entry_at-f.ensures.0 in
    elim c.in_default.branch [
      | table-in_default-via-in-Compose+else-from-room w ↦ (omega arith, joins_path a f (omega (arith, w.in-Compose.ensures)) (omega (arith, w.in-Compose.ensures)) (λ z. omega (arith, w.from.ensures)))
      | table-in_default-via-in_default w ↦
          let m = known_path f a.ready a.kinds.within a.kinds.sort (other_kind w.in_default.not-Star c.kind_of.ensures) in let n0 = other_kind w.in_default.not-Step c.kind_of.ensures in let n1 = other_kind w.in_default.not-Compose c.kind_of.ensures in let n2 = other_kind w.in_default.not-Filter c.kind_of.ensures in let n3 = other_kind w.in_default.not-Variable c.kind_of.ensures in let n4 = other_kind w.in_default.not-Root c.kind_of.ensures in (omega arith, joins_path a f (omega (arith, m, n0)) (omega (arith, m, n2, n3, n4)) (λ z. absurd (n1 z)))
    ]

pub table-axis_of-axis-requires : goal.table-axis_of-axis-requires
table-axis_of-axis-requires t c = let a = c.requires in axis_known c.entry_at-f.ensures.0 a.ready a.kinds.within (sym c.in-Step.ensures)

pub table-returns-in-Step : goal.table-returns-in-Step
table-returns-in-Step t c = let a = c.requires in let f = c.entry_at-f.ensures.0 in did_step f a.ready a.kinds.within (rw c.axis_of-axis.ensures at c.step.ensures) c.diagonal.ensures (sym c.in-Step.ensures)

pub table-returns-in-Filter : goal.table-returns-in-Filter
table-returns-in-Filter t c = let a = c.requires in let f = c.entry_at-f.ensures.0 in did_filter f a.ready a.kinds.within _ c.filter.ensures c.table.ensures c.node-s.ensures.0 _ c.node-s.ensures.1 (sym c.in-Filter.ensures)

pub table-returns-in-Variable : goal.table-returns-in-Variable
table-returns-in-Variable t c = let a = c.requires in let f = c.entry_at-f.ensures.0 in did_variable f a.ready a.kinds.within _ c.spread.ensures c.diagonal-in-Variable.ensures c.variable.ensures (sym c.in-Variable.ensures)

pub table-returns-in-Root : goal.table-returns-in-Root
table-returns-in-Root t c = let a = c.requires in let f = c.entry_at-f.ensures.0 in did_root f a.ready a.kinds.within c.spread-in-Root.ensures c.table-in-Root.ensures (sym c.in-Root.ensures)

pub table-returns-in-Star : goal.table-returns-in-Star
table-returns-in-Star t c = let a = c.requires in let f = c.entry_at-f.ensures.0 in did_closure f a.ready a.kinds.within c.close.ensures c.table-in-Star.ensures (sym c.in-Star.ensures)

pub table-returns-in-Compose : goal.table-returns-in-Compose
table-returns-in-Compose t c = let a = c.requires in let f = c.entry_at-f.ensures.0 in did_compose f a.ready a.kinds.within c.apply.ensures c.table-in-Compose.ensures (sym c.in-Compose.ensures)

pub table-returns-in_default : goal.table-returns-in_default
table-returns-in_default t c = let a = c.requires in becomes_on leaves_none c.operands.ensures (λ x y lx ly. joined_path c.entry_at-f.ensures.0 a.ready a.kinds.within (rw c.entry_at-f.ensures.0 a.kinds.sort) x y)
