-- What the checks secure, in the form in which inner functions ask for it. No service asks for any of this.
use Rattle.std.specs.Prelude.{ℕ, suc, ◌<◌, ◌≤◌, ◌≡◌, true, false, List, length, get_or}
use Rattle.model.specs.Tree.{Tree, size_of}
use Rattle.model.specs.Axes.{is_document, descendant_or_self}
use Rattle.model.specs.QueryTable.{entries_of, kind, left, right}
use Rattle.model.specs.Refusals.{verdict}
use Rattle.model.specs.Kinds.{is_path, left_path, left_expr, right_path, right_expr, names_variable}
use Rattle.model.specs.Checks.{tree_checks}

-- a tree table that its checks accept: what the services ask for that run on the tree that a party sees
abbrev pub AcceptedTree : List ℕ → Type 0
AcceptedTree t = (verdict (tree_checks t)).number ≡ 0

-- each of these numbers is below n: a row or an assignment of nodes of a tree of n nodes
abbrev pub Below : ℕ → List ℕ → Type 0
Below n r = (i : ℕ) → i < length r → get_or r i 0 < n

-- up to a node, every node's parent comes before it
pub record Falling (t : Tree) (top : ℕ) : Type 0 where
  pub falls : (x : ℕ) → 0 < x → x ≤ top → t.parent x < x

-- a tree of 1 to 256 nodes whose nodes' parents come before them
pub record Sound (t : Tree) : Type 0 where
  pub some_node : 0 < t.size
  pub at_most : t.size ≤ 256
  pub falls : (x : ℕ) → 0 < x → x < t.size → t.parent x < x

-- a sound tree in document order: a node's parent is the node before it, or an ancestor of that node; no node past node 0 is a
-- document node
pub record Ordered (t : Tree) : Type 0 where
  pub sound : Sound t
  pub rule : (y : ℕ) → suc y < t.size → descendant_or_self t (t.parent (suc y)) y ≡ true
  pub document : (y : ℕ) → 0 < y → y < t.size → is_document t y ≡ false

-- a query table of known kinds whose operands come before their entry and are of the sort that is due
pub record Formed (q : List ℕ) : Type 0 where
  pub known : (e : ℕ) → e < entries_of q → kind q e ≤ 14
  pub left_path_lem : (e : ℕ) → e < entries_of q → left_path (kind q e) ≡ true → (left q e < e) × (is_path (kind q (left q e)) ≡ true)
  pub left_expr_lem : (e : ℕ) → e < entries_of q → left_expr (kind q e) ≡ true → (left q e < e) × (is_path (kind q (left q e)) ≡ false)
  pub right_path_lem : (e : ℕ) → e < entries_of q → right_path (kind q e) ≡ true → (right q e < e) × (is_path (kind q (right q e)) ≡ true)
  pub right_expr_lem : (e : ℕ) → e < entries_of q → right_expr (kind q e) ≡ true → (right q e < e) × (is_path (kind q (right q e)) ≡ false)

-- of what the checks secure, the part that speaks of the query alone
pub record Shaped (q : List ℕ) : Type 0 where
  pub few : entries_of q ≤ 64
  pub formed : Formed q

-- a query table whose entries can be evaluated under an assignment to nodes of a tree
pub record Evaluable (t q nodes : List ℕ) : Type 0 where
  pub formed : Formed q
  pub axis : (e : ℕ) → e < entries_of q → kind q e ≡ 0 → left q e ≤ 12
  pub variable : (e : ℕ) → e < entries_of q → names_variable (kind q e) ≡ true → left q e < length nodes
  pub node : (k : ℕ) → k < length nodes → get_or nodes k 0 < size_of t
