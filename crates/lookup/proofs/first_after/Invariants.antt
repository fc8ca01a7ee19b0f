use Prim.Native.Nat.{suc}
use mathlib.Core.Path.{◌≡◌}
use mathlib.Core.Bool.{false}
use Rattle.model.specs.Sets.{any}
use Rattle.model.specs.Tree.{tree_of}
use Rattle.index.specs.Index.{has_from}
use Rattle.lookup.proofs.first_after.Given as goal

abbrev pub invariant-loop-y : goal.invariant-loop-y
invariant-loop-y l = any l.y (has_from (tree_of l.tree) l.tag (suc l.start)) ≡ false
