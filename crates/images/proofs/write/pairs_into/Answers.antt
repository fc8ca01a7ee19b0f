use Rattle.images.proofs.Tables.{pairs_unpacked}
use borrow.Author.Rules.{rules}
use Rattle.images.proofs.write.pairs_into.Goals as goal

pub returns : goal.returns
returns c = pairs_unpacked _ _ _ _ _ _ _ c.unpack_into.ensures c.pairs_into.ensures (search rules) c.requires.0.tree.sound.at_most
