use lib.ListN.{length}
use Prim.Native.Nat.{◌-◌, ◌/◌}
use Rattle.answers.specs.Search.{answers_by}
use Rattle.answers.proofs.Writing.{Going}
use Rattle.answers.proofs.Plan.write_page.Given as goal

abbrev pub invariant-loop-at : goal.invariant-loop-at
invariant-loop-at l = Going l.self.search.k (answers_by l.self.search) l.initial.last l.initial.rows l.at l.last l.count l.rows

abbrev pub decreases-loop-at : goal.decreases-loop-at
decreases-loop-at l = length l.initial.rows / l.self.search.k - l.count
