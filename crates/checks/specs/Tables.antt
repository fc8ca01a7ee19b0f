-- What an accepted call gives to the functions that evaluate and write. No service asks for it.
use Rattle.std.specs.Prelude.{ℕ, ◌<◌, ◌≡◌, true, List}
use Rattle.model.specs.Tree.{tree_of}
use Rattle.model.specs.QueryTable.{entries_of, kind, last_of}
use Rattle.model.specs.Kinds.{is_path}
use Rattle.model.specs.Checks.{uses}
use Rattle.model.specs.Accepted.{Ordered, Shaped, Evaluable}

-- an accepted tree, and an accepted query that can be evaluated over it under the assignment, each entry but its last used once
pub record Tables (t q nodes : List ℕ) : Type 0 where
  pub tree : Ordered (tree_of t)
  pub query : Evaluable t q nodes
  pub last : last_of q < entries_of q
  pub path : is_path (kind q (last_of q)) ≡ true
  pub shaped : Shaped q
  pub once : (i : ℕ) → i < last_of q → uses q i (entries_of q) ≡ 1
