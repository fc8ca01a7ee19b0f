use Rattle.pruning.proofs.Entries.{reached_name, reached_none, reached_one, reached_two}
use Rattle.pruning.proofs.reach_of.Goals as goal

pub returns-then-names : goal.returns-then-names
returns-then-names c = reached_name c.requires.1 c.entry_at-f.ensures.0 c.names_variable-names.ensures c.if-names.true _ c.up_to.ensures

pub returns-else-names : goal.returns-else-names
returns-else-names c = reached_none c.requires.1 c.entry_at-f.ensures.0 c.names_variable-names.ensures c.if-names.false c.in-None.ensures

pub returns-in-One : goal.returns-in-One
returns-in-One c = reached_one c.requires.1 c.in-One.ensures

pub returns-in-Two : goal.returns-in-Two
returns-in-Two c = reached_two c.requires.1 c.in-Two.ensures _ c.max.ensures
