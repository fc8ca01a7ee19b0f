use Rattle.aside.proofs.Turns.{tables_of, no_tables}
use Rattle.aside.proofs.two_tables.Goals as goal

pub returns-in-Compose : goal.returns-in-Compose
returns-in-Compose c = tables_of _ c.in-Compose.is

pub returns-in_default : goal.returns-in_default
returns-in_default c = let w = c.in_default in no_tables _ w.not-Compose w.not-Union w.not-Intersect w.not-Except w.not-Same
