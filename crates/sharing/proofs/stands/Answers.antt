use Rattle.sharing.proofs.stands.Goals as goal

pub returns : goal.returns
returns c = cc
