use Rattle.model.proofs.Refusals.{pass_ok}
use Rattle.index.proofs.Verdicts.{room_numbered}
use Rattle.index.proofs.check_buffers.Goals as goal

pub returns : goal.returns
returns c = pass_ok _ _ _ c.check_room-2.ensures c.in_ok-check_room.ensures (room_numbered _ _)
