use Rattle.std.proofs.lemmas.Result.{err_from_is_err_and}
use Rattle.parties.proofs.Over.{front_length, quick_refused, quick_seen}
use Rattle.parties.proofs.quick_page_from.Goals as goal

pub returns-in_err-count : goal.returns-in_err-count
returns-in_err-count c =
    let p = err_from_is_err_and c.from_residual.result c.from_residual.ensures.1 in
    rw (p.1, p.2) (quick_refused c.in_err-count.ensures _ _ _ _)

pub slice_bounds-page_from-end : goal.slice_bounds-page_from-end
slice_bounds-page_from-end c = front_length c.in_ok-count.ensures

pub page_from-requires : goal.page_from-requires
page_from-requires c = c.in_ok-count.ensures.seen.accepted

pub returns : goal.returns
returns c = quick_seen c.in_ok-count.ensures _ _ _ _ _ _ _ c.page_from.ensures
