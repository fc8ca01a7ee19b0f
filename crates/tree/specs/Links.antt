-- Links: for each node a number, which is its link where it is a lower node, and no link else. A tree table holds the
-- parents so, and an array of the same stride the previous siblings.
use Rattle.std.specs.Prelude.{ℕ, ◌*◌, ◌≤◌, ◌<◌, ◌≡◌, true, List, length, get_or}
use Rattle.model.specs.Tree.{Tree}
use Rattle.model.specs.Axes.{following_sibling}

-- the link of node y: two numbers a node, and the first is the link
abbrev pub links : List ℕ → ℕ → ℕ
links l y = get_or l (2 * y) 0

-- the links of 256 nodes, of which those of the nodes below n are the previous siblings: a link is a sibling before its node,
-- and no sibling before the node comes after it; the link of a node that has no sibling before it is no node of the tree
pub record PreviousSiblings (t : Tree) (n : ℕ) (l : List ℕ) : Type 0 where
  pub long : length l ≡ 512
  pub before : (y : ℕ) → y < n → links l y < t.size → following_sibling t (links l y) y ≡ true
  pub latest : (x y : ℕ) → y < n → following_sibling t x y ≡ true → (x ≤ links l y) × (links l y < y)
