use Rattle.tables.proofs.Rows.{four_words, merged_word}
use Rattle.tables.proofs.set.merged.Goals as goal

pub returns : goal.returns
returns c = four_words _ _ _ _ _ (merged_word _ _ _ 0 _ c.merge-p.ensures) (merged_word _ _ _ 1 _ c.merge-q.ensures) (merged_word _ _ _ 2 _ c.merge-s.ensures) (merged_word _ _ _ 3 _ c.merge-t.ensures)
