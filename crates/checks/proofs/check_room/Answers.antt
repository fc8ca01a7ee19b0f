use mathlib.Core.Path.{refl}
use borrow.Author.Tests.{lt-ltb, le-ltb}
use Rattle.model.specs.Checks.{room_checks}
use Rattle.model.proofs.Refusals.{accept, stop, pass}
use Rattle.checks.proofs.check_room.Goals as goal

pub returns-then-room-needed : goal.returns-then-room-needed
unfolding room_checks
returns-then-room-needed c = stop 20 _ 0 _ _ _ refl refl (lt-ltb _ _ c.if-room-needed.true)

pub returns : goal.returns
unfolding room_checks
returns c = pass 20 _ 0 _ _ _ (accept _ refl) refl (le-ltb _ _ c.if-room-needed.false)
