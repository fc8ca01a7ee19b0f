use Rattle.query.proofs.has_right.Goals as goal

pub returns : goal.returns
returns c = cc
