-- The query table, read as syntax: entry after entry, each over the list of those before it.
use Rattle.std.specs.Prelude.{ℕ, zero, suc, ◌+◌, ◌-◌, ◌*◌, ◌/◌, List, [], ◌∷◌, ◌++◌, length, get_or}
use Rattle.model.specs.declared.Entry.{Entry}
use Rattle.model.specs.Syntax.{Path, NodeExpr}
use Rattle.model.specs.Syntax.Path.{step, compose, union, intersect, except, filter, variable, from_root, closure}
use Rattle.model.specs.Syntax.NodeExpr.{exists, negate, both, either, is, same}

-- the number of entries of a table
abbrev pub entries_of : List ℕ → ℕ
entries_of q = length q / 4

-- four numbers an entry; the first is its kind
abbrev pub kind : List ℕ → ℕ → ℕ
kind q e = get_or q (4 * e) 0

-- the second, left
abbrev pub left : List ℕ → ℕ → ℕ
left q e = get_or q (4 * e + 1) 0

-- the third, right
abbrev pub right : List ℕ → ℕ → ℕ
right q e = get_or q (4 * e + 2) 0

-- the fourth, tag
abbrev pub tag : List ℕ → ℕ → ℕ
tag q e = get_or q (4 * e + 3) 0

-- entry e, as its four numbers
abbrev pub entry : List ℕ → ℕ → Entry
entry q e = record { kind = kind q e; left = left q e; right = right q e; tag = tag q e }

-- what an entry is read as: a path or a node expression; the other part is then of no account
pub record Parsed : Type 0 where
  pub path : Path
  pub expr : NodeExpr

-- an entry that is a path; the other part only fills its place
abbrev pub of_path : Path → Parsed
of_path p = record { path = p; expr = is 0 }

-- an entry that is a node expression; the same
abbrev pub of_expr : NodeExpr → Parsed
of_expr e = record { path = variable 0; expr = e }

-- an entry of kind k, from its fields and its operands a (left) and b (right), by the kinds 0 to 14; what stands for a higher
-- kind is of no account, since refusal 10 turns it away
unfoldable pub parse : ℕ → ℕ → ℕ → Parsed → Parsed → Parsed
parse k l name a b =
    get_or
    (of_path (step l name)
    ∷ of_path (compose a.path b.path)
    ∷ of_path (union a.path b.path)
    ∷ of_path (intersect a.path b.path)
    ∷ of_path (except a.path b.path)
    ∷ of_path (filter a.path b.expr)
    ∷ of_path (variable l)
    ∷ of_path (from_root a.path)
    ∷ of_expr (exists a.path)
    ∷ of_expr (negate a.expr)
    ∷ of_expr (both a.expr b.expr)
    ∷ of_expr (either a.expr b.expr)
    ∷ of_expr (is l)
    ∷ of_path (closure a.path)
    ∷ of_expr (same a.path b.path)
    ∷ [])
    k
    (of_expr (is 0))

-- entry e, where es are the entries before it; what stands for an operand that is none of them is of no account, since refusal 12
-- turns it away
unfoldable pub parse_over : List ℕ → ℕ → List Parsed → Parsed
parse_over q e es =
    parse (kind q e) (left q e) (tag q e) (get_or es (left q e) (of_expr (is 0))) (get_or es (right q e) (of_expr (is 0)))

-- the entries es, and entry e behind them
unfoldable pub grow : List ℕ → ℕ → List Parsed → List Parsed
grow q e es = es ++ (parse_over q e es ∷ [])

-- the first k entries
unfoldable pub parsed : List ℕ → ℕ → List Parsed
parsed q zero = []
parsed q (suc k) = grow q k (parsed q k)

-- entry e
unfoldable pub parsed_at : List ℕ → ℕ → Parsed
parsed_at q e = parse_over q e (parsed q e)

-- entry e, where it is a path
abbrev pub path_at : List ℕ → ℕ → Path
path_at q e = (parsed_at q e).path

-- entry e, where it is a node expression
abbrev pub expr_at : List ℕ → ℕ → NodeExpr
expr_at q e = (parsed_at q e).expr

-- the last entry, which is the query
abbrev pub last_of : List ℕ → ℕ
last_of q = entries_of q - 1
