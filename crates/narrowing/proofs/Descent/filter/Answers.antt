use Rattle.narrowing.proofs.Turns.{test_asked, test_decided, turn_filter}
use Rattle.narrowing.proofs.Descent.filter.Goals as goal

pub is_fixed-requires : goal.is_fixed-requires
is_fixed-requires c = test_asked c.requires.0 c.entry_at-f.ensures.0 c.requires.1

pub node-s-requires : goal.node-s-requires
node-s-requires c = test_decided c.requires.0 c.entry_at-f.ensures.0 c.requires.1 c.is_fixed.ensures c.if-is_fixed.true

pub returns-then-is_fixed : goal.returns-then-is_fixed
returns-then-is_fixed c = turn_filter c.requires.0 c.entry_at-f.ensures.0 c.requires.1 _ _ c.combined-end.ensures c.node-s.ensures
