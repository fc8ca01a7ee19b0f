use borrow.Author.Rules.{rules}
use Rattle.packing.proofs.Stray.{stray_start, stray_more, stray_done}
use Rattle.packing.proofs.refusal.is_stray_row.Goals as goal

pub loop-i-init : goal.loop-i-init
loop-i-init c = stray_start _ _ _

pub loop-i-preserved : goal.loop-i-preserved
loop-i-preserved c = stray_more _ _ _ _ _ _ c.loop-i.invariant c.is_stray_word-found.ensures

pub returns : goal.returns
returns c = search (stray_done, rules)
