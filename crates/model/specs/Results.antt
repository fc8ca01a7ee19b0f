-- What an evaluation gives, as bytes: the image of a set under the query, either way, and the table of all pairs.
use Rattle.std.specs.Prelude.{ℕ, ◌*◌, ◌/◌, ◌%◌, Bool, false, List, get_or}
use Rattle.model.specs.Sets.{tab, memb, turn, image}
use Rattle.model.specs.Tree.{size_of, tree_of}
use Rattle.model.specs.Meaning.{pairs}
use Rattle.model.specs.QueryTable.{path_at, last_of}

-- the node of variable k, where the assignment is lent as a list (document 01: the column nodes)
unfoldable pub assigned : List ℕ → ℕ → ℕ
assigned nodes k = get_or nodes k 0

-- the relation of the path at entry e of q, over the tree t under an assignment; its converse where back is set
unfoldable pub related : List ℕ → List ℕ → List ℕ → ℕ → Bool → ℕ → ℕ → Bool
related t q nodes e back = turn back (pairs (tree_of t) (assigned nodes) (path_at q e))

-- the nodes that a set reaches by the query; where back is set, those that reach it (document 01: forwards, backwards)
unfoldable pub image_bytes : List ℕ → List ℕ → List ℕ → Bool → List ℕ → List ℕ
image_bytes t q nodes back from = tab (size_of t) (image (size_of t) (related t q nodes (last_of q) back) (memb from))

-- cell p of a relation's table of n rows of n cells: the pair (x, y) stands at x * n + y
unfoldable pub cell : ℕ → (ℕ → ℕ → Bool) → ℕ → Bool
cell n R p = R (p / n) (p % n)

-- all pairs of the query (document 01: the pair table)
unfoldable pub pairs_bytes : List ℕ → List ℕ → List ℕ → List ℕ
pairs_bytes t q nodes = tab (size_of t * size_of t) (cell (size_of t) (related t q nodes (last_of q) false))
