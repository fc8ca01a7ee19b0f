use Rattle.machine.proofs.have_may.Goals as goal

pub returns : goal.returns
returns c = cc
