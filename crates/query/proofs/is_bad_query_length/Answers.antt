use mathlib.Core.Path.{refl}
use Rattle.query.proofs.is_bad_query_length.Goals as goal

pub returns : goal.returns
returns c = refl
