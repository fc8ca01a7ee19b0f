use Rattle.query.proofs.is_bad_sort.Goals as goal

pub returns : goal.returns
returns c = cc
