use borrow.Author.Rules.{rules}
use Rattle.checks.proofs.Verdicts.{tree_first}
use Rattle.checks.proofs.check_listing.Goals as goal

pub returns : goal.returns
returns c = search (tree_first, rules)
