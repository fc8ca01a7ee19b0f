use Prim.Native.Nat.{◌-◌, ◌/◌}
use lib.ListN.{length}
use Rattle.quick.proofs.Writing.{Written}
use Rattle.quick.proofs.write_page.Given as goal

abbrev pub invariant-loop-at : goal.invariant-loop-at
invariant-loop-at l = Written l.search.tree.now l.search.query.now l.search.k l.initial.last l.initial.rows l.at l.evaluations l.last l.count l.rows

abbrev pub decreases-loop-at : goal.decreases-loop-at
decreases-loop-at l = length l.initial.rows / l.search.k - l.count
