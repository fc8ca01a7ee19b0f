use Rattle.emission.proofs.Writing.{end_items_lem}
use Rattle.emission.proofs.write_end.Goals as goal

pub returns : goal.returns
returns c = end_items_lem _ _ _ _ _ _ _ c.close_gaps.ensures.3 c.put_pending.ensures
