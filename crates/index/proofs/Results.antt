-- What holds of the index and the list of every accepted tree.
use Prim.Native.Nat.{ℕ, ◌+◌, ◌*◌, ◌<◌}
use mathlib.Core.Path.{◌≡◌}
use mathlib.Core.List.{List}
use lib.ListN.{length, get_or}
use Rattle.model.specs.Tree.{tree_of, size_of}
use Rattle.model.specs.Refusals.{verdict}
use Rattle.model.specs.Checks.{tree_checks}
use Rattle.index.specs.Index.{index_of, present, tag_list}
use Rattle.index.specs.Parts.{Tagged}
use Rattle.index.specs.Following.{total, trail, Bearers}
use Rattle.index.proofs.Totals.{counts_total}
use Rattle.index.proofs.Chains.{index_chains}
use Rattle.index.proofs.Verdicts.{tree_tagged}

module _ (t : List ℕ) (h : (verdict (tree_checks t)).number ≡ 0) where
  tagged : Tagged (tree_of t)
  tagged = tree_tagged t h

  -- for the reader: the counts in the list add up to the number of nodes
  pub list_total : total (tag_list (tree_of t)) ≡ size_of t
  list_total = counts_total (tree_of t) tagged

  -- for the reader: from the first node that the list has of a tag, following the index meets exactly the nodes that have the tag, in
  -- order and each once, and they are as many as the list has for its count
  pub list_chains : (i : ℕ) → i < length (present (tree_of t))
      → Bearers (tree_of t) (get_or (tag_list (tree_of t)) (3 * i) 0) 0
      (trail (index_of (tree_of t)) (size_of t) (get_or (tag_list (tree_of t)) (3 * i + 1) 0))
      (get_or (tag_list (tree_of t)) (3 * i + 2) 0)
  list_chains i l = index_chains (tree_of t) tagged i l
