use Rattle.query.proofs.is_bad_field.Goals as goal

pub returns : goal.returns
returns c = rw (c.is_step-step.ensures, c.names_variable.ensures, c.has_right.ensures)
