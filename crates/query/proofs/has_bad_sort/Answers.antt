use borrow.Author.Rules.{rules}
use Rattle.query.proofs.Entries.{fails_sort}
use Rattle.query.proofs.has_bad_sort.Goals as goal

pub returns : goal.returns
returns c = search (fails_sort, rules)
