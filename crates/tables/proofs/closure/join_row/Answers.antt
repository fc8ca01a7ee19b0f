use borrow.Author.Rules.{rules}
use Rattle.tables.proofs.Closing.{row_apart, row_joined}
use Rattle.tables.proofs.closure.join_row.Goals as goal

pub returns-then-not-there : goal.returns-then-not-there
returns-then-not-there c = search (row_apart, rules)

pub returns : goal.returns
returns c = search (row_joined, rules)
