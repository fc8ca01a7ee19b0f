use borrow.Author.Rules.{rules}
use Rattle.query.proofs.Entries.{entry_of}
use Rattle.query.proofs.entry_at.Goals as goal

pub returns : goal.returns
returns c = search (entry_of, rules)
