use Rattle.model.specs.Tree.{size_of}
use lib.ListN.{take}
use Rattle.answers.proofs.Search.{stands_next, seek_hit, seek_on, seek_less}
use Rattle.answers.proofs.Plan.seek.Goals as goal

pub returns-then-holds : goal.returns-then-holds
returns-then-holds c = let s = c.args.self.now.search in seek_hit s.tree.now s.query.now s.k c.loop-at.at c.args.spot c.loop-at.invariant.1 c.in-Some.row c.in-Some.is _ c.holds.ensures c.if-holds.true

pub loop-at-smaller : goal.loop-at-smaller
loop-at-smaller c = let s = c.args.self.now.search in seek_less s.tree.now s.query.now s.k c.loop-at.at c.args.spot c.loop-at.invariant.1 c.in-Some.row c.in-Some.is c.empty_block-i.result c.empty_block-i.ensures c.beyond-at.result c.beyond-at.ensures

pub loop-at-preserved : goal.loop-at-preserved
loop-at-preserved c =
    let s = c.args.self.now.search in (
      stands_next (size_of s.tree.now) s.k c.beyond-at.result (take c.empty_block-i.result c.in-Some.row) c.beyond-at.ensures,
      seek_on s.tree.now s.query.now s.k c.loop-at.at c.args.spot c.loop-at.invariant.1 c.in-Some.row c.in-Some.is c.empty_block-i.result c.empty_block-i.ensures c.beyond-at.result c.beyond-at.ensures _ c.holds.ensures c.if-holds.false,
    )
