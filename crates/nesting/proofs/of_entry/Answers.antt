use Rattle.nesting.proofs.Depths.{deep_none, one_small, deep_one, both_small, deep_two}
use Rattle.nesting.proofs.of_entry.Goals as goal

pub returns-in-None : goal.returns-in-None
returns-in-None c = deep_none c.requires c.in-None.ensures

pub deeper-requires : goal.deeper-requires
deeper-requires c = one_small c.requires c.in-One.ensures

pub returns-in-One : goal.returns-in-One
returns-in-One c = deep_one c.requires c.in-One.ensures c.kind_of-kind.ensures c.entry_at.ensures.0 _ c.deeper.ensures

pub deeper-requires-in-Two : goal.deeper-requires-in-Two
deeper-requires-in-Two c = both_small c.requires c.in-Two.ensures _ c.max.ensures

pub returns-in-Two : goal.returns-in-Two
returns-in-Two c = deep_two c.requires c.in-Two.ensures _ c.max.ensures c.kind_of-kind.ensures c.entry_at.ensures.0 _ c.deeper-in-Two.ensures
