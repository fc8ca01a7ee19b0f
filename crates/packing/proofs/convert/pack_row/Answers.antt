use borrow.Author.Rules.{rules}
use Rattle.packing.proofs.Rows.{four_parts}
use Rattle.packing.proofs.convert.pack_row.Goals as goal

pub returns : goal.returns
returns c = search (four_parts, rules)
