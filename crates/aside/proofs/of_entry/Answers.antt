use mathlib.Core.Path.{sym}
use Rattle.aside.proofs.Entries.{did_none, left_small, did_one, did_two, did_larger}
use Rattle.aside.proofs.of_entry.Goals as goal

pub returns-in-None : goal.returns-in-None
returns-in-None c = did_none c.requires c.in-None.ensures

pub returns-in-One : goal.returns-in-One
returns-in-One c = did_one c.requires c.in-One.ensures

pub in_turn-requires : goal.in_turn-requires
in_turn-requires c = left_small c.requires c.in-Two.ensures

pub returns-then-tables : goal.returns-then-tables
returns-then-tables c = did_two c.requires c.in-Two.ensures c.kind_of-kind.ensures c.entry_at.ensures.0 _ c.in_turn.ensures (sym c.if-tables.ensures)

pub returns-else-tables : goal.returns-else-tables
returns-else-tables c = did_larger c.requires c.in-Two.ensures c.kind_of-kind.ensures c.entry_at.ensures.0 _ c.max.ensures (sym c.if-tables.ensures)
