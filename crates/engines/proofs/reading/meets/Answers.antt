use borrow.Author.Rules.{rules}
use Rattle.engines.proofs.Images.{row_meets}
use Rattle.engines.proofs.reading.meets.Goals as goal

pub returns : goal.returns
returns c = search (row_meets, rules)
