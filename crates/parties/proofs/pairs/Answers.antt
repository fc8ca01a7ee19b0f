use Rattle.std.proofs.lemmas.Result.{err_from_is_err_and}
use Rattle.model.specs.Services.{seen_pairs}
use Rattle.parties.proofs.Over.{front_length, one_refused, one_seen}
use Rattle.parties.proofs.pairs.Goals as goal

pub returns-in_err-count : goal.returns-in_err-count
unfolding seen_pairs
returns-in_err-count c =
    let p = err_from_is_err_and c.from_residual.result c.from_residual.ensures.1 in
    rw (p.1, p.2) (one_refused c.in_err-count.ensures _ _ _)

pub slice_bounds-pairs-end : goal.slice_bounds-pairs-end
slice_bounds-pairs-end c = front_length c.in_ok-count.ensures

pub pairs-requires : goal.pairs-requires
pairs-requires c = c.in_ok-count.ensures.seen.accepted

pub returns : goal.returns
unfolding seen_pairs
returns c = one_seen c.in_ok-count.ensures _ _ _ _ _ c.pairs.ensures
