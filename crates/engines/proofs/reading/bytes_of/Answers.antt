use borrow.Author.Rules.{rules}
use Rattle.engines.proofs.Images.{row_bytes}
use Rattle.engines.proofs.reading.bytes_of.Goals as goal

pub returns : goal.returns
returns c = search (row_bytes, rules)
