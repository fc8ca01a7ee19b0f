use Rattle.images.proofs.Tables.{row_of}
use borrow.Author.Rules.{rules}
use Rattle.images.proofs.rows.row.Goals as goal

pub returns : goal.returns
returns c = search (row_of, rules)
