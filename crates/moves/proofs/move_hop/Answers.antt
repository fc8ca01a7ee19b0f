use Rattle.moves.proofs.move_hop.Goals as goal

pub returns-then-back : goal.returns-then-back
returns-then-back c = rw c.if-back.true c.hop_back.ensures

pub returns : goal.returns
returns c = rw c.if-back.false c.hop_away.ensures
