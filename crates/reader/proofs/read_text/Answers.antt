use Prim.Native.Nat.{ℕ}
use native.Mathlib.Omega.{arith}
use borrow.Author.Rules.{rules}
use mathlib.Core.Path.{refl}
use Rattle.std.proofs.lemmas.Result.{err_from_is_err_and}
use lib.ListN.{length-replicate}
use Rattle.reader.proofs.Keeping.{within_text, kept_end}
use Rattle.reader.proofs.Loop.{kept_first, turn_stuck, turn_on, turn_less}
use Rattle.reader.proofs.read_text.Goals as goal

pub loop-p-init : goal.loop-p-init
loop-p-init c = kept_first _ _ _ _ _ _ c.first_place-p.ensures (length-replicate {A = ℕ} 1024 0) c.args.b.now.sound

pub advance-requires : goal.advance-requires
advance-requires c =
    let i = c.loop-p.invariant in
    (within_text _ _ _ _ _ _ _ i (search rules) _ refl, search rules, c.requires.0, i.started, i.place.shallow, i.place.room)

pub returns-in_err-p : goal.returns-in_err-p
returns-in_err-p c =
    let p = err_from_is_err_and c.from_residual.result c.from_residual.ensures.1 in
    rw (p.1, p.2) (turn_stuck _ _ _ _ _ _ _ c.loop-p.invariant (search rules) c.requires.0 _ _ _ c.advance.ensures _ c.in_err-p.was)

pub loop-p-smaller : goal.loop-p-smaller
loop-p-smaller c = turn_less _ _ _ _ _ _ _ c.loop-p.invariant (search rules) c.requires.0 _ _ _ c.advance.ensures c.in_ok-p.p c.in_ok-p.was

pub loop-p-preserved : goal.loop-p-preserved
loop-p-preserved c = turn_on _ _ _ _ _ _ _ c.loop-p.invariant (search rules) c.requires.0 _ _ _ c.advance.ensures _ c.in_ok-p.was

pub finish-requires : goal.finish-requires
finish-requires c =
    let i = c.loop-p.invariant in
    (i.started, i.place.inside, c.requires.0, omega (arith, i.place.shallow, i.place.inside, i.place.room), i.placed)

pub returns : goal.returns
returns c = kept_end _ _ _ _ _ _ _ c.loop-p.invariant (search rules) _ _ c.finish.ensures c.args.b.now.sound c.requires.1
