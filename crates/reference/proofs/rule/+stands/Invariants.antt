-- The measure is the number of the entry: an operand is an earlier one.
use Rattle.reference.proofs.rule.+stands.Given as goal

abbrev pub decreases-stands : goal.decreases-stands
decreases-stands l = l.e
