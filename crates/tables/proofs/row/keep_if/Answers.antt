use borrow.Author.Rules.{rules}
use Rattle.tables.proofs.Rows.{row_stays, row_cleared}
use Rattle.tables.proofs.row.keep_if.Goals as goal

pub returns-then-b : goal.returns-then-b
returns-then-b c = search (row_stays, rules)

pub returns : goal.returns
returns c = search (row_cleared, rules)
