use borrow.Author.Rules.{rules}
use Rattle.model.proofs.Bytes.{fill_start, fill_done}
use Rattle.sharing.specs.Occurrences.{occurrences}
use Rattle.sharing.proofs.Passes.{occurrences_more}
use Rattle.sharing.proofs.occurrences_of.Goals as goal

pub loop-e-init : goal.loop-e-init
loop-e-init c = fill_start 64 _

pub loop-e-preserved : goal.loop-e-preserved
loop-e-preserved c = search (occurrences_more, rules)

pub returns : goal.returns
unfolding occurrences
returns c = search (fill_done, rules)
