use Rattle.narrowing.proofs.Calls.{did_meet}
use Rattle.narrowing.proofs.meet.Goals as goal

pub returns : goal.returns
returns c = did_meet _ _ _ _ _ c.occupied.ensures c.combined-both.ensures c.requires
