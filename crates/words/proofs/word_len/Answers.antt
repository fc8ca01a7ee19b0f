use Rattle.words.specs.Words.{word_table}
use Rattle.words.proofs.Scanning.{table_length}
use borrow.Author.Rules.{rules}
use Rattle.words.proofs.word_len.Goals as goal

pub returns : goal.returns
unfolding word_table
returns c = table_length _ _ (search rules) c.from.ensures
