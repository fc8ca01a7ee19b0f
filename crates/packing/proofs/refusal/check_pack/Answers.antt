use native.Mathlib.Omega.{arith}
use mathlib.Core.Path.{refl, sym}
use Rattle.model.proofs.Refusals.{stop, stop_at, pass_at, pass}
use Rattle.checks.proofs.Verdicts.{unlike, alike}
use Rattle.packing.specs.Services.{pack_checks}
use Rattle.packing.proofs.refusal.check_pack.Goals as goal

pub returns-then-is_bad_size : goal.returns-then-is_bad_size
unfolding pack_checks
returns-then-is_bad_size c = stop 5 _ 0 _ _ _ refl c.is_bad_size.ensures c.if-is_bad_size.true

pub returns-then-bytes-n : goal.returns-then-bytes-n
unfolding pack_checks
returns-then-bytes-n c = pass 5 _ 0 _ _ _ (stop 18 _ 0 _ _ _ refl refl (unlike _ _ c.if-bytes-n.true)) c.is_bad_size.ensures c.if-is_bad_size.false

pub returns-in-Some : goal.returns-in-Some
unfolding pack_checks
returns-in-Some c =
    pass 5 _ 0 _ _ _
    (pass 18 _ 0 _ _ _ (stop_at 19 _ _ _ _ _ refl c.in-Some.ensures.1 c.in-Some.ensures.0) refl (alike _ _ c.if-bytes-n.false))
    c.is_bad_size.ensures c.if-is_bad_size.false

pub returns : goal.returns
unfolding pack_checks
returns c =
    pass 5 _ 0 _ _ _
    (pass 18 _ 0 _ _ _ (pass_at 19 _ _ _ _ _ c.check_room.ensures (sym c.in_default.ensures) (omega arith)) refl (alike _ _ c.if-bytes-n.false))
    c.is_bad_size.ensures c.if-is_bad_size.false
