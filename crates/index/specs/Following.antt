-- What the theorems about the index and the list of the tags speak of.
use Rattle.std.specs.Prelude.{ℕ, zero, suc, ◌+◌, ◌≤◌, ◌<◌, ◌≡◌, ◌↔◌, cond, List, [], ◌∷◌, length, get_or, eqb}
use Rattle.model.specs.Tree.{Tree}
use Rattle.model.proofs.Counts.{Among, Ascending}

-- the sum of the counts in a list of tag, first node and count
abbrev pub total : List ℕ → ℕ
total [] = 0
total (tag ∷ []) = 0
total (tag ∷ first ∷ []) = 0
total (tag ∷ first ∷ count ∷ rest) = count + total rest

-- the nodes that are met from x on by following an index until 65535, at most k of them
unfoldable pub trail : List ℕ → ℕ → ℕ → List ℕ
trail next zero x = []
trail next (suc k) x = cond (eqb x 65535) [] (x ∷ trail next k (get_or next x 0))

-- the numbers are the nodes of a tree from x on that have a tag, in order, each once, and they are so many
pub record Bearers (t : Tree) (tag x : ℕ) (nodes : List ℕ) (count : ℕ) : Type 0 where
  pub ascending : Ascending nodes
  pub member : (y : ℕ) → Among y nodes ↔ ((x ≤ y) × (y < t.size) × (t.tag y ≡ tag))
  pub many : length nodes ≡ count
