use Rattle.narrowing.proofs.Turns.{turn_whole}
use Rattle.narrowing.proofs.Search.nothing_left.Goals as goal

pub returns : goal.returns
returns c = turn_whole c.requires.0 _ c.image-start.ensures
