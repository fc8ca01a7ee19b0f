use Prim.Native.Nat.{◌+◌, ◌-◌}
use native.Mathlib.Omega.{arith}
use Rattle.model.specs.Tree.{size_of}
use Rattle.quick.specs.Search.{goes_on}
use Rattle.quick.proofs.Search.{nodes, seeks_some, seeks_none}
use Rattle.quick.proofs.Seeking.{seeking_start, seeking_few, seeking_on, seeking_begins, seeking_nodes, seeking_found, seeking_none}
use Rattle.quick.proofs.answer_after.Goals as goal

pub loop-i-init : goal.loop-i-init
loop-i-init c = seeking_start c.requires.0 c.args.row (omega arith)

pub lowest_from-t-requires : goal.lowest_from-t-requires
lowest_from-t-requires c =
    let l = c.loop-i in
    let n = nodes c.requires.0 c.args.row (omega arith) c.requires.1 in
    (c.requires.0, (n, (omega (arith, l.invariant.climbing.within, c.loop-i-test.true), (omega (arith, c.wide-from.ensures.0, n (l.i - 1) (omega (arith, l.invariant.climbing.within, c.loop-i-test.true))), omega (arith, seeking_few c.requires.0 c.args.row (omega arith) l.i _ l.invariant c.loop-i-test.true _ c.wide-from.ensures.0, c.requires.0.listed.searchable.linked.tree.sound.at_most)))))

pub overflow_cast-at : goal.overflow_cast-at
overflow_cast-at c =
    let s = c.args.search.now in
    let l = c.loop-i in
    let w = seeks_some (goes_on s.tree.now s.query.now s.k c.args.row (l.i - 1)) (c.wide-from.result + 1) (size_of s.tree.now) l.evaluations c.lowest_from-t.result c.lowest_from-t.ensures c.in-Some.v c.in-Some.is in
    record { fits = omega (arith, w.0, c.requires.0.listed.searchable.linked.tree.sound.at_most) }

pub fill-requires : goal.fill-requires
fill-requires c =
    let s = c.args.search.now in
    let l = c.loop-i in
    let w = seeks_some (goes_on s.tree.now s.query.now s.k c.args.row (l.i - 1)) (c.wide-from.result + 1) (size_of s.tree.now) l.evaluations c.lowest_from-t.result c.lowest_from-t.ensures c.in-Some.v c.in-Some.is in
    let n = nodes c.requires.0 c.args.row (omega arith) c.requires.1 in
    (c.requires.0, (seeking_nodes c.requires.0 c.args.row (omega arith) l.i _ l.invariant c.loop-i-test.true _ c.wide-from.ensures.0 n _ _ w.1.0 w.1.1.0 w.1.1.1 w.0, (omega (arith, l.invariant.climbing.within, c.loop-i-test.true), (seeking_begins c.requires.0 c.args.row (omega arith) l.i _ l.invariant c.loop-i-test.true _ c.wide-from.ensures.0 n _ _ w.1.0 w.1.1.0 w.1.1.1 w.0, omega (arith, w.1.1.0, seeking_few c.requires.0 c.args.row (omega arith) l.i _ l.invariant c.loop-i-test.true _ c.wide-from.ensures.0, c.requires.0.listed.searchable.linked.tree.sound.at_most)))))

pub returns-in-Some : goal.returns-in-Some
returns-in-Some c =
    let s = c.args.search.now in
    let l = c.loop-i in
    let w = seeks_some (goes_on s.tree.now s.query.now s.k c.args.row (l.i - 1)) (c.wide-from.result + 1) (size_of s.tree.now) l.evaluations c.lowest_from-t.result c.lowest_from-t.ensures c.in-Some.v c.in-Some.is in
    let n = nodes c.requires.0 c.args.row (omega arith) c.requires.1 in
    seeking_found c.requires.0 c.args.row (omega arith) l.i _ l.invariant c.loop-i-test.true _ c.wide-from.ensures.0 n _ _ w.1.0 w.1.1.0 w.1.1.1 w.0 c.fill.result c.fill.ensures

pub loop-i-preserved : goal.loop-i-preserved
loop-i-preserved c =
    let s = c.args.search.now in
    let l = c.loop-i in
    let w = seeks_none (goes_on s.tree.now s.query.now s.k c.args.row (l.i - 1)) (c.wide-from.result + 1) (size_of s.tree.now) l.evaluations c.lowest_from-t.result c.lowest_from-t.ensures c.in_default.is in
    seeking_on c.requires.0 c.args.row (omega arith) l.i _ l.invariant c.loop-i-test.true _ c.wide-from.ensures.0 (nodes c.requires.0 c.args.row (omega arith) c.requires.1) _ _ w.0 w.1.0 w.1.1 (omega arith)

pub returns : goal.returns
returns c = let l = c.loop-i in seeking_none c.requires.0 c.args.row (omega arith) l.i _ l.invariant (omega (arith, c.loop-i-test.false)) _ c.no_answer.ensures
