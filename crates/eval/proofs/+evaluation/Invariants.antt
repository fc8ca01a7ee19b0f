-- Path and node evaluation meet their contracts, as one cycle. Measure: three times the entry number; in a path 2 more, and in a node
-- expression and in by_rows 1 more, since they hand their own entry on.
use Prim.Native.Nat.{◌+◌, ◌*◌}
use mathlib.Core.Path.{◌≡◌}
use Rattle.model.specs.Sets.{tab, upto}
use Rattle.model.specs.Tree.{size_of}
use Rattle.model.specs.Results.{related}
use Rattle.eval.specs.Evaluation.{passing}
use Rattle.eval.proofs.Entries.{part}
use Rattle.eval.proofs.Growing.{Growing, missing}
use Rattle.eval.proofs.+evaluation.Given as goal

abbrev pub decreases-by_rows : goal.decreases-by_rows
decreases-by_rows l = 3 * l.e + 1

abbrev pub decreases-ends : goal.decreases-ends
decreases-ends l = 3 * l.e

abbrev pub decreases-filter : goal.decreases-filter
decreases-filter l = 3 * l.e

abbrev pub decreases-node : goal.decreases-node
decreases-node l = 3 * l.e + 1

abbrev pub decreases-operands : goal.decreases-operands
decreases-operands l = 3 * l.e

abbrev pub decreases-path : goal.decreases-path
decreases-path l = 3 * l.e + 2

abbrev pub decreases-same : goal.decreases-same
decreases-same l = 3 * l.e

abbrev pub decreases-star : goal.decreases-star
decreases-star l = 3 * l.e

abbrev pub invariant-by_rows-loop-x : goal.invariant-by_rows-loop-x
invariant-by_rows-loop-x l = (l.n ≡ size_of l.call.tree.now) × (l.found ≡ part l.call.tree.now l.call.query.now l.call.nodes.now l.e l.back l.from l.x)

abbrev pub invariant-same-loop-x : goal.invariant-same-loop-x
invariant-same-loop-x l = (l.n ≡ size_of l.call.tree.now) × (l.starts ≡ tab 256 (upto l.x (passing l.call.tree.now l.call.query.now l.call.nodes.now l.e)))

abbrev pub invariant-star-loop-fresh : goal.invariant-star-loop-fresh
invariant-star-loop-fresh l = (l.n ≡ size_of l.call.tree.now) × Growing (size_of l.call.tree.now) (related l.call.tree.now l.call.query.now l.call.nodes.now l.l l.back) l.initial.known l.known l.last

abbrev pub decreases-star-loop-fresh : goal.decreases-star-loop-fresh
decreases-star-loop-fresh l = missing (size_of l.call.tree.now) l.known
