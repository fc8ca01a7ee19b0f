-- What the evaluator asks for, and what it gives: node sets as 256 bytes.
use Rattle.std.specs.Prelude.{ℕ, ◌-◌, ◌≤◌, ◌<◌, ◌≡◌, Bool, List}
use Rattle.model.specs.declared.Call.{Call}
use Rattle.model.specs.declared.kind.Kind.{Kind}
use Rattle.model.specs.Sets.{tab, memb, upto, image}
use Rattle.model.specs.Tree.{tree_of, size_of}
use Rattle.model.specs.Meaning.{holds}
use Rattle.model.specs.QueryTable.{entries_of, kind, left, right, expr_at}
use Rattle.model.specs.Kinds.{is_path}
use Rattle.model.specs.Results.{assigned, related}
use Rattle.model.specs.Accepted.{Evaluable}
use Rattle.sets.specs.declared.Operation.{Operation}
use Rattle.sets.specs.NodeSets.{combination}
use Rattle.steps.specs.Moves.{Linked}

-- a tree with its links, and a query that can be evaluated over it under an assignment
pub record Ready (t prev q nodes : List ℕ) : Type 0 where
  pub linked : Linked t prev
  pub query : Evaluable t q nodes

-- entry e is one of q, of a kind from low to high
pub record OfKind (q : List ℕ) (e low high : ℕ) : Type 0 where
  pub within : e < entries_of q
  pub least : low ≤ kind q e
  pub most : kind q e ≤ high

-- entry e is one of q: a path where the flag is set, else a node expression
pub record Sorted (q : List ℕ) (e : ℕ) (path : Bool) : Type 0 where
  pub within : e < entries_of q
  pub sort : is_path (kind q e) ≡ path

-- the node expression at entry e of q holds at x
unfoldable pub passing : List ℕ → List ℕ → List ℕ → ℕ → ℕ → Bool
passing t q nodes e = holds (tree_of t) (assigned nodes) (expr_at q e)

-- the nodes where it holds
unfoldable pub passed : List ℕ → List ℕ → List ℕ → ℕ → List ℕ
passed t q nodes e = tab 256 (upto (size_of t) (passing t q nodes e))

-- what the set s reaches by the path at entry e, or what reaches it where back is set
unfoldable pub reached : List ℕ → List ℕ → List ℕ → ℕ → Bool → List ℕ → List ℕ
reached t q nodes e back s = tab 256 (image (size_of t) (related t q nodes e back) (memb s))

-- what the node x alone reaches by it
unfoldable pub row : List ℕ → List ℕ → List ℕ → ℕ → Bool → ℕ → List ℕ
row t q nodes e back x = tab 256 (upto (size_of t) (related t q nodes e back x))

-- what s reaches by the one operand of entry e and by the other, combined by its kind: 2 union, 3 intersect, 4 except
unfoldable pub joined : List ℕ → List ℕ → List ℕ → ℕ → Bool → List ℕ → List ℕ
joined t q nodes e back s =
    tab 256 (combination (kind q e - 2) (reached t q nodes (left q e) back s) (reached t q nodes (right q e) back s))

-- how the operands of an entry of a kind are combined: of a union and an `or`, of an intersect and an `and`, and else as of an except
abbrev pub operation_of : Kind → Operation
operation_of Kind.Union = Operation.Union
operation_of Kind.Or = Operation.Union
operation_of Kind.Intersect = Operation.Intersection
operation_of Kind.And = Operation.Intersection
operation_of k = Operation.Difference

-- the pairs that end in a set, whatever node they start from
abbrev pub ending : List ℕ → ℕ → ℕ → Bool
ending to x y = memb to y

-- the same of what an evaluation is lent

-- the tree has its links, and the query can be evaluated over it
abbrev pub ReadyFor : Call → Type 0
ReadyFor c = Ready c.tree.now c.prev.now c.query.now c.nodes.now

-- entry e is one of the query's, of a kind from low to high
abbrev pub KindIn : Call → ℕ → ℕ → ℕ → Type 0
KindIn c e low high = OfKind c.query.now e low high

-- entry e is one of the query's: a path where the flag is set, else a node expression
abbrev pub SortIn : Call → ℕ → Bool → Type 0
SortIn c e path = Sorted c.query.now e path

-- the nodes where the node expression at entry e holds
abbrev pub passed_for : Call → ℕ → List ℕ
passed_for c e = passed c.tree.now c.query.now c.nodes.now e

-- what the set s reaches by the path at entry e, or what reaches it where back is set
abbrev pub reached_for : Call → ℕ → Bool → List ℕ → List ℕ
reached_for c e back s = reached c.tree.now c.query.now c.nodes.now e back s

-- what the node x alone reaches by it
abbrev pub row_for : Call → ℕ → Bool → ℕ → List ℕ
row_for c e back x = row c.tree.now c.query.now c.nodes.now e back x

-- what s reaches by the two operands of entry e, combined by its kind
abbrev pub joined_for : Call → ℕ → Bool → List ℕ → List ℕ
joined_for c e back s = joined c.tree.now c.query.now c.nodes.now e back s
