use borrow.Author.Rules.{rules}
use Rattle.lookup.proofs.Walks.{walk_start, walk_fits, walk_read, walk_breaks, walk_less, walk_next, walk_ends}
use Rattle.lookup.proofs.follow.Goals as goal

pub loop-y-init : goal.loop-y-init
loop-y-init c = search (walk_start, rules)

pub bounds-next-y : goal.bounds-next-y
bounds-next-y c = search (walk_read, rules)

pub returns-then-broken : goal.returns-then-broken
returns-then-broken c = search (walk_breaks, rules)

pub bounds-nodes-y : goal.bounds-nodes-y
bounds-nodes-y c = search (walk_fits, rules)

pub loop-y-smaller : goal.loop-y-smaller
loop-y-smaller c = search (walk_less, rules)

pub loop-y-preserved : goal.loop-y-preserved
loop-y-preserved c = search (walk_next, rules)

pub returns : goal.returns
returns c = walk_ends _ _ _ _ _ _ _ c.loop-y.invariant c.requires.0 c.loop-y-test.false
