use native.Mathlib.Omega.{arith}
use mathlib.Core.Path.{refl, sym}
use Rattle.model.proofs.Refusals.{stop, stop_at, pass_at, pass}
use Rattle.checks.proofs.Verdicts.{unlike, alike}
use Rattle.packing.specs.Services.{unpack_checks}
use Rattle.packing.proofs.refusal.check_unpack.Goals as goal

pub returns-then-is_bad_size : goal.returns-then-is_bad_size
unfolding unpack_checks
returns-then-is_bad_size c = stop 5 _ 0 _ _ _ refl c.is_bad_size.ensures c.if-is_bad_size.true

pub returns-then-words-n : goal.returns-then-words-n
unfolding unpack_checks
returns-then-words-n c = pass 5 _ 0 _ _ _ (stop 18 _ 0 _ _ _ refl refl (unlike _ _ c.if-words-n.true)) c.is_bad_size.ensures c.if-is_bad_size.false

pub returns-in-Some : goal.returns-in-Some
unfolding unpack_checks
returns-in-Some c =
    pass 5 _ 0 _ _ _
    (pass 18 _ 0 _ _ _ (stop_at 28 _ _ _ _ _ refl c.in-Some.ensures.1 c.in-Some.ensures.0) refl (alike _ _ c.if-words-n.false))
    c.is_bad_size.ensures c.if-is_bad_size.false

pub returns : goal.returns
unfolding unpack_checks
returns c =
    pass 5 _ 0 _ _ _
    (pass 18 _ 0 _ _ _ (pass_at 28 _ _ _ _ _ c.check_room.ensures (sym c.in_default.ensures) (omega arith)) refl (alike _ _ c.if-words-n.false))
    c.is_bad_size.ensures c.if-is_bad_size.false
