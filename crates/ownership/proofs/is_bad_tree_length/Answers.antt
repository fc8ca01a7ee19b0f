use mathlib.Core.Path.{refl}
use Rattle.ownership.proofs.is_bad_tree_length.Goals as goal

pub returns : goal.returns
returns c = refl
