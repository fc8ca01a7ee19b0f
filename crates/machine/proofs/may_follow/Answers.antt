use Rattle.machine.proofs.Steps.{follow}
use Rattle.machine.proofs.may_follow.Goals as goal

pub returns : goal.returns
returns c = follow _ _ _ _ _ _ _ c.have_may.ensures c.innermost-outer.ensures c.innermost_after-inner.ensures c.innermost_after-both.ensures c.innermost_after-pair.ensures
