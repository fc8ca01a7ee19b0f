use Rattle.answers.proofs.Search.{has_pair_lem}
use borrow.Author.Rules.{rules}
use Rattle.answers.proofs.satisfies.Goals as goal

pub returns : goal.returns
returns c = search (has_pair_lem, rules)
