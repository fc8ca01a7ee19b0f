use borrow.Author.Rules.{rules}
use mathlib.Core.Bool.{or_comm}
use mathlib.Core.Path.{refl}
use Rattle.model.specs.Sets.{any}
use Rattle.model.proofs.Exists.{any_seen}
use Rattle.checks.proofs.has_bad_byte.Goals as goal

pub loop-b-init : goal.loop-b-init
unfolding any
loop-b-init c = refl

pub loop-b-preserved : goal.loop-b-preserved
loop-b-preserved c = rw or_comm (search (any_seen, rules))
