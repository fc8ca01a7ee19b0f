use Prim.Native.Nat.{◌+◌}
use mathlib.Core.Path.{◌≡◌}
use Rattle.model.specs.Tree.{size_of}
use Rattle.quick.specs.Search.{passes}
use Rattle.quick.proofs.Search.{Trying}
use Rattle.quick.proofs.lowest_passing.Given as goal

abbrev pub invariant-loop-v : goal.invariant-loop-v
invariant-loop-v l =
    let s = l.search in
    Trying (passes s.tree.now s.query.now s.k l.row l.i) l.from (size_of s.tree.now) l.v × (l.evaluations + l.from ≡ l.spent + l.v)
