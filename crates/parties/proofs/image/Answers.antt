use Rattle.std.proofs.lemmas.Result.{err_from_is_err_and}
use Rattle.model.specs.Services.{seen_image}
use Rattle.parties.proofs.Over.{front_length, one_refused, one_seen}
use Rattle.parties.proofs.image.Goals as goal

pub returns-in_err-count : goal.returns-in_err-count
unfolding seen_image
returns-in_err-count c =
    let p = err_from_is_err_and c.from_residual.result c.from_residual.ensures.1 in
    rw (p.1, p.2) (one_refused c.in_err-count.ensures _ _ _)

pub slice_bounds-image-end : goal.slice_bounds-image-end
slice_bounds-image-end c = front_length c.in_ok-count.ensures

pub image-requires : goal.image-requires
image-requires c = c.in_ok-count.ensures.seen.accepted

pub returns : goal.returns
unfolding seen_image
returns c = one_seen c.in_ok-count.ensures _ _ _ _ _ c.image.ensures
