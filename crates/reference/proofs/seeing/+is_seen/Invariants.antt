-- The measure is the number of the node: a parent is an earlier one.
use Rattle.reference.proofs.seeing.+is_seen.Given as goal

abbrev pub decreases-is_seen : goal.decreases-is_seen
decreases-is_seen l = l.x
