-- The loop keeps that the first k entries are written.
use lib.ListN.{drop}
use mathlib.Core.List.{◌++◌}
use mathlib.Core.Path.{◌≡◌}
use Prim.Native.Nat.{◌*◌}
use Rattle.index.specs.Parts.{triples}
use Rattle.index.proofs.links.put_tags.Given as goal

abbrev pub invariant-loop-k : goal.invariant-loop-k
invariant-loop-k l = l.tags ≡ triples l.list l.first l.counts l.k ++ drop (3 * l.k) l.initial.tags
