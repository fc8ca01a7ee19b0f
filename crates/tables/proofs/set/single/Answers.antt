use borrow.Author.Rules.{rules}
use Rattle.tables.proofs.Rows.{single_set}
use Rattle.tables.proofs.set.single.Goals as goal

pub returns : goal.returns
returns c = search (single_set, rules)
