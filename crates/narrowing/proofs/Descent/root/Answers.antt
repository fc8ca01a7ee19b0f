use Rattle.narrowing.proofs.Turns.{turn_root}
use Rattle.narrowing.proofs.Descent.root.Goals as goal

pub returns : goal.returns
returns c = turn_root c.requires.0.left _ _ c.entry_at-f.ensures.0 c.full_if-start.ensures c.occupied-some.ensures c.requires.1
