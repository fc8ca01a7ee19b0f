use Rattle.pruning.proofs.Entries.{bound_nothing, bound_left, bound_both}
use Rattle.pruning.proofs.bound_of.Goals as goal

pub returns-in-None : goal.returns-in-None
returns-in-None c = bound_nothing c.requires.0 c.requires.1 c.in-None.ensures

pub returns-in-One : goal.returns-in-One
returns-in-One c = bound_left c.requires.0 c.requires.1 _ c.kind_of-kind.ensures c.entry_at.ensures.0 c.in-One.ensures _ c.eq.ensures _ c.operand.ensures

pub returns-in-Two : goal.returns-in-Two
returns-in-Two c = bound_both c.requires.0 c.requires.1 _ c.kind_of-kind.ensures c.entry_at.ensures.0 c.in-Two.ensures _ c.eq-in-Two.ensures _ c.operand-in-Two.ensures _ c.max.ensures
