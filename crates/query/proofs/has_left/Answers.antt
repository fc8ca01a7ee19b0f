use Rattle.query.proofs.has_left.Goals as goal

pub returns : goal.returns
returns c = cc
