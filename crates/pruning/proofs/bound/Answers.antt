use borrow.Author.Rules.{rules}
use Rattle.pruning.proofs.bound.Goals as goal

pub number_entries-kept-requires : goal.number_entries-kept-requires
number_entries-kept-requires c = search rules depth 9 fits 40000
