use mathlib.Core.Path.{refl}
use borrow.Author.Rules.{rules}
use Rattle.model.proofs.Refusals.{refused_some, written_not}
use Rattle.relations.proofs.Services.{pairs_accepted, pairs_over_lem}
use Rattle.relations.proofs.pairs.Goals as goal

pub returns-in_err-check_pairs : goal.returns-in_err-check_pairs
returns-in_err-check_pairs c = search (written_not, refused_some, rules)

pub pairs_into-requires : goal.pairs_into-requires
pairs_into-requires c = pairs_accepted _ _ _ _ _ _ c.in_ok-check_pairs.ensures refl

pub returns : goal.returns
returns c = search (pairs_over_lem, rules)
