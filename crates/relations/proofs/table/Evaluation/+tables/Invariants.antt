-- Evaluation by whole tables meets its contracts, as one cycle. Measure: five times the entry number, and more in those functions that
-- hand their own entry on.
use Prim.Native.Nat.{◌+◌, ◌*◌}
use Rattle.relations.proofs.table.Evaluation.+tables.Given as goal

abbrev pub decreases-apply : goal.decreases-apply
decreases-apply l = 5 * l.e + 4

abbrev pub decreases-keep : goal.decreases-keep
decreases-keep l = 5 * l.e + 3

abbrev pub decreases-node : goal.decreases-node
decreases-node l = 5 * l.e + 2

abbrev pub decreases-operands : goal.decreases-operands
decreases-operands l = 5 * l.e + 1

abbrev pub decreases-product : goal.decreases-product
decreases-product l = 5 * l.e + 3

abbrev pub decreases-second : goal.decreases-second
decreases-second l = 5 * l.e + 0

abbrev pub decreases-table : goal.decreases-table
decreases-table l = 5 * l.e + 2
