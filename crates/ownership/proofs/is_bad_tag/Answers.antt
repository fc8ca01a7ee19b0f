use Rattle.ownership.proofs.is_bad_tag.Goals as goal

pub returns : goal.returns
returns c = cc
