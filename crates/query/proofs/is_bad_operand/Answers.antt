use Rattle.query.proofs.is_bad_operand.Goals as goal

pub returns : goal.returns
returns c = rw (c.has_left.ensures, c.has_right.ensures)
