-- `trial::call::pairs_by_rows` is safe and ends.
use Rattle.parties.proofs.Over.{front_length}
use Rattle.trial.proofs.call.pairs_by_rows.Goals as goal

pub slice_bounds-pairs_by_rows-end : goal.slice_bounds-pairs_by_rows-end
slice_bounds-pairs_by_rows-end c = front_length c.in_ok-count.ensures

pub pairs_by_rows-requires : goal.pairs_by_rows-requires
pairs_by_rows-requires c = c.in_ok-count.ensures.seen.accepted
