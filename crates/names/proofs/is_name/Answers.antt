-- The part of the table that is compared is the name, or what of it the table has.
use Rattle.names.proofs.Searching.{name_compared}
use Rattle.names.proofs.is_name.Goals as goal

pub returns : goal.returns
returns c = name_compared _ _ _ _ _ _ c.requires c.min.ensures c.eq.ensures
