-- A path as a query table: the entries of a left operand all before those of the right, and both before the entry itself.
use Rattle.std.specs.Prelude.{ℕ, suc, ◌+◌, ◌-◌, max, cond, List, [], ◌∷◌, ◌++◌}
use Rattle.model.specs.Syntax.{Path, NodeExpr}
use Rattle.model.specs.Syntax.Path.{step, compose, union, intersect, except, filter, variable, from_root, closure}
use Rattle.model.specs.Syntax.NodeExpr.{exists, negate, both, either, is, same}
use Rattle.model.specs.Kinds.{names_variable}

-- a path or a node expression by the kinds of its entries: with no operand (kind, left, tag), with one, with two
pub data Term : Type 0 where
  leaf : ℕ → ℕ → ℕ → Term
  unary : ℕ → Term → Term
  binary : ℕ → Term → Term → Term

unfoldable mutual
  pub path_term : Path → Term
  path_term (step a name) = Term.leaf 0 a name
  path_term (compose p q) = Term.binary 1 (path_term p) (path_term q)
  path_term (union p q) = Term.binary 2 (path_term p) (path_term q)
  path_term (intersect p q) = Term.binary 3 (path_term p) (path_term q)
  path_term (except p q) = Term.binary 4 (path_term p) (path_term q)
  path_term (filter p e) = Term.binary 5 (path_term p) (expr_term e)
  path_term (variable k) = Term.leaf 6 k 0
  path_term (from_root p) = Term.unary 7 (path_term p)
  path_term (closure p) = Term.unary 13 (path_term p)

  pub expr_term : NodeExpr → Term
  expr_term (exists p) = Term.unary 8 (path_term p)
  expr_term (negate e) = Term.unary 9 (expr_term e)
  expr_term (both e f) = Term.binary 10 (expr_term e) (expr_term f)
  expr_term (either e f) = Term.binary 11 (expr_term e) (expr_term f)
  expr_term (is k) = Term.leaf 12 k 0
  expr_term (same p q) = Term.binary 14 (path_term p) (path_term q)

-- how many entries it has
unfoldable pub size : Term → ℕ
size (Term.leaf k l g) = 1
size (Term.unary k a) = suc (size a)
size (Term.binary k a b) = suc (size a + size b)

-- the four numbers of an entry
abbrev pub entry4 : ℕ → ℕ → ℕ → ℕ → List ℕ
entry4 k l r g = k ∷ l ∷ r ∷ g ∷ []

-- its entries, where the first has number n; an operand is named by the number of its last entry
unfoldable pub encode : ℕ → Term → List ℕ
encode n (Term.leaf k l g) = entry4 k l 0 g
encode n (Term.unary k a) = encode n a ++ entry4 k (n + size a - 1) 0 0
encode n (Term.binary k a b) = encode n a ++ (encode (n + size a) b ++ entry4 k (n + size a - 1) (n + size a + size b - 1) 0)

-- the table of a path (document 01: a query table that is made); it is read back as that path (proofs/Encoding.antt: table_back)
abbrev pub table_of : Path → List ℕ
table_of p = encode 0 (path_term p)

-- the number of variables that a query needs (document 02: the column count): one more than the highest that is named, or 0
unfoldable pub columns : Term → ℕ
columns (Term.leaf k l g) = cond (names_variable k) (suc l) 0
columns (Term.unary k a) = columns a
columns (Term.binary k a b) = max (columns a) (columns b)

-- of a path
abbrev pub columns_of : Path → ℕ
columns_of p = columns (path_term p)
