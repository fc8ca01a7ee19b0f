use Rattle.moves.proofs.move_star.Goals as goal

pub returns-then-back : goal.returns-then-back
returns-then-back c = rw c.if-back.true c.star_back.ensures

pub returns : goal.returns
returns c = rw c.if-back.false c.star_away.ensures
