use Rattle.narrowing.proofs.Calls.{suits_zeros, always_reached}
use Rattle.narrowing.proofs.Search.image.Goals as goal

pub image-requires : goal.image-requires
image-requires c = suits_zeros c.requires

pub returns : goal.returns
returns c = always_reached _ _ _ _ c.image.ensures.0 c.requires
