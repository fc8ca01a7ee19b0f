use Rattle.query.proofs.is_bad_last.Goals as goal

pub returns : goal.returns
returns c = cc
