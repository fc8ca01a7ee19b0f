use native.Mathlib.Omega.{arith}
use Rattle.packing.proofs.Stray.{stray_none, stray_all, stray_some}
use Rattle.packing.proofs.refusal.is_stray_word.Goals as goal

pub returns-then-first-n : goal.returns-then-first-n
returns-then-first-n c = stray_none _ _ _ (omega arith)

pub returns-then-n-first : goal.returns-then-n-first
returns-then-n-first c = stray_all _ _ _ c.ranges.w.fits (omega arith)

pub returns : goal.returns
returns c = stray_some _ _ _ c.ranges.w.fits
