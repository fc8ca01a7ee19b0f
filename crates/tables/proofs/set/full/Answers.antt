use borrow.Author.Rules.{rules}
use Rattle.tables.proofs.Rows.{four_words}
use Rattle.tables.proofs.set.full.Goals as goal

pub returns : goal.returns
returns c = search (four_words, rules)
