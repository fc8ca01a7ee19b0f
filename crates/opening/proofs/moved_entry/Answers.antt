use Rattle.opening.specs.Opening.{moved_entry}
use Rattle.opening.proofs.moved_entry.Goals as goal

pub returns : goal.returns
unfolding moved_entry
returns c = cc
