use Rattle.grammar.proofs.NameBytes.{name_byte_within}
use Rattle.grammar.proofs.is_name_byte.Goals as goal

pub returns : goal.returns
returns c = name_byte_within _
