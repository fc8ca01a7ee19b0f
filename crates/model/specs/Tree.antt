-- A tree, and the tree table that holds it. The axes and the meaning see the record alone.
use Rattle.std.specs.Prelude.{ℕ, ◌+◌, ◌*◌, ◌/◌, List, length, get_or}

-- nodes are numbered from 0 in document order; node 0 has no parent, and the number that stands for it means nothing
pub record Tree : Type 0 where
  pub size : ℕ
  pub parent : ℕ → ℕ
  pub tag : ℕ → ℕ

-- the number of nodes of a table (document 01: n)
abbrev pub size_of : List ℕ → ℕ
size_of t = length t / 2

-- the tree of a table of k numbers a node, of which the first two are parent and tag
abbrev pub tree_at : ℕ → List ℕ → Tree
tree_at k t = record { size = length t / k; parent = λ x. get_or t (k * x) 0; tag = λ x. get_or t (k * x + 1) 0 }

-- the tree of a table of two numbers a node
abbrev pub tree_of : List ℕ → Tree
tree_of t = tree_at 2 t
