use Rattle.words.specs.Words.{word_table}
use borrow.Author.Rules.{rules}
use Rattle.words.proofs.find_word.Goals as goal

pub returns : goal.returns
unfolding word_table
returns c = search rules
