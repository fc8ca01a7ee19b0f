use mathlib.Core.Path.{refl}
use Rattle.model.specs.Refusals.{reply}
use Rattle.checks.proofs.Accepted.{pairs_accepted}
use Rattle.images.proofs.Tables.{pairs_made}
use Rattle.images.proofs.pairs.Goals as goal

pub pairs_into-requires : goal.pairs_into-requires
pairs_into-requires c = pairs_accepted _ _ _ _ _ (reply 0 0) c.in_ok-check_pairs.ensures refl

pub returns : goal.returns
returns c = pairs_made _ _ _ _ _ _ c.in_ok-check_pairs.ensures c.pairs_into.ensures
