use Prim.Native.Nat.{◌*◌}
use mathlib.Core.Path.{◌≡◌}
use mathlib.Core.Bool.{false}
use mathlib.Core.List.{◌++◌}
use lib.ListN.{drop}
use Rattle.model.specs.Sets.{tab}
use Rattle.model.specs.QueryTable.{last_of}
use Rattle.model.specs.Results.{related, cell}
use Rattle.images.proofs.rows.pairs_into.Given as goal

abbrev pub invariant-loop-x : goal.invariant-loop-x
invariant-loop-x l = (l.at ≡ l.x * l.n) × (l.table ≡ tab l.at (cell l.n (related l.tree l.query l.nodes (last_of l.query) false)) ++ drop l.at l.initial.table)
