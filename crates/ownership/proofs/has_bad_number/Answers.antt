use borrow.Author.Rules.{rules}
use mathlib.Core.Bool.{or_comm}
use Rattle.ownership.proofs.Nodes.{numbers_start, numbers_next}
use Rattle.ownership.proofs.has_bad_number.Goals as goal

pub loop-x-init : goal.loop-x-init
loop-x-init c = search (numbers_start, rules)

pub loop-x-preserved : goal.loop-x-preserved
loop-x-preserved c = rw or_comm (search (numbers_next, rules))
