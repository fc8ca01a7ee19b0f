use native.Mathlib.Omega.{arith}
use mathlib.Core.Path.{refl}
use Rattle.emission.proofs.Writing.{closing_below, closing_on, closing_end}
use Rattle.emission.proofs.close_gaps.Goals as goal

pub put_gap-requires : goal.put_gap-requires
put_gap-requires c =
    closing_below _ _ _ _ _ _ _ _ c.loop-i.invariant _ (omega (arith, c.close-c.ensures.0)) (omega (arith, c.close-c.ensures.0, c.close-c.ensures.2)) refl

pub loop-i-preserved : goal.loop-i-preserved
loop-i-preserved c =
    closing_on _ _ _ _ _ _ _ _ c.loop-i.invariant _ (omega (arith, c.close-c.ensures.0)) (omega (arith, c.close-c.ensures.0, c.close-c.ensures.2)) refl _ c.put_gap.ensures

pub returns : goal.returns
returns c =
    let e = c.close-c.ensures in
    (e.0, e.1, e.2, closing_end _ _ _ _ _ _ _ _ c.loop-i.invariant (omega (arith, e.0)) c.loop-i.b.sound)
