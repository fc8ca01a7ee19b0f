use Rattle.ownership.proofs.is_bad_owner.Goals as goal

pub returns : goal.returns
returns c = cc
