use borrow.Author.Rules.{rules}
use Rattle.model.proofs.Counts.{ones_bytes, ones_zero}
use Rattle.eval.proofs.Entries.{ending_back, ending_none, ending_some, ending_count}
use Rattle.eval.proofs.ending_image.Goals as goal

pub returns-then-back : goal.returns-then-back
returns-then-back c = search (ending_back, ones_bytes, rules)

pub returns-then-some : goal.returns-then-some
returns-then-some c = search (ending_some, ending_count, rules)

pub returns : goal.returns
returns c = search (ending_none, ones_zero, rules)
