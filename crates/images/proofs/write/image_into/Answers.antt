use Rattle.images.proofs.Tables.{suits, image_front, image_counted}
use borrow.Author.Rules.{rules}
use Rattle.images.proofs.write.image_into.Goals as goal

pub image-r-requires : goal.image-r-requires
image-r-requires c = search (suits, rules)

pub returns : goal.returns
returns c = search (image_front, image_counted, rules)
