use borrow.Author.Rules.{rules}
use Rattle.packing.proofs.Rows.{part_none, part_full, part_short}
use Rattle.packing.proofs.convert.pack_part.Goals as goal

pub returns-then-n-base : goal.returns-then-n-base
returns-then-n-base c = search (part_none, rules)

pub returns-then-left-gt64 : goal.returns-then-left-gt64
returns-then-left-gt64 c = search (part_full, rules)

pub returns : goal.returns
returns c = search (part_short, rules)
