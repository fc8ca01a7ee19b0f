use Rattle.reader.proofs.Places.{unknown_name}
use Rattle.reader.proofs.name_before.Goals as goal

pub returns-in-None : goal.returns-in-None
returns-in-None c = unknown_name _ _ _ _ _ _ c.unwrap_or.ensures c.in-None.ensures c.if-not-named.false
