use Rattle.parties.proofs.Over.{front_length, both_refused, both_seen}
use Rattle.parties.proofs.build_index.Goals as goal

pub returns-in-Err : goal.returns-in-Err
returns-in-Err c = both_refused c.in-Err.ensures _ _

pub slice_bounds-build-end : goal.slice_bounds-build-end
slice_bounds-build-end c = front_length c.in-Ok.ensures

pub build-requires : goal.build-requires
build-requires c = c.in-Ok.ensures.seen.accepted

pub returns-in-Ok : goal.returns-in-Ok
returns-in-Ok c = both_seen c.in-Ok.ensures _ _ _ _ _ c.build.ensures
