use mathlib.Core.Path.{refl}
use native.Mathlib.Omega.{arith}
use Rattle.reader.proofs.Took.{took}
use Rattle.reader.proofs.take_word.Goals as goal

pub returns : goal.returns
returns c =
    took _ _ _ _ _ _ _ _ _ _ _ _ (omega arith) refl c.place_after.ensures c.name_before-s.ensures c.make-depth.ensures.1 c.write_word.ensures
