-- The two halves of the rule.
use Rattle.job.proofs.Files.{before_file, past_trailer}
use borrow.Author.Rules.{rules}
use Rattle.job.proofs.is_outside.Goals as goal

pub returns-then-n-wide : goal.returns-then-n-wide
returns-then-n-wide c = search (before_file, rules)

pub returns : goal.returns
returns c = search (past_trailer, rules)
