use mathlib.Core.Path.{refl}
use Rattle.model.specs.Refusals.{reply}
use Rattle.checks.proofs.Accepted.{image_accepted}
use Rattle.images.proofs.Tables.{image_refused, image_made}
use Rattle.images.proofs.image.Goals as goal

pub image_into-count-requires : goal.image_into-count-requires
image_into-count-requires c = image_accepted _ _ _ _ _ _ (reply 0 0) c.in-Ok.ensures refl

pub returns-in-Ok : goal.returns-in-Ok
returns-in-Ok c = image_made _ _ _ _ _ _ _ _ _ c.in-Ok.ensures c.image_into-count.ensures.0 c.image_into-count.ensures.1

pub returns-in-Err : goal.returns-in-Err
returns-in-Err c = image_refused _ _ _ _ _ _ _ _ c.in-Err.ensures
