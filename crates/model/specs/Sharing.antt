-- Variables that any node may fill: the rule of source document 004, which queries keep whose answers are found variable by variable
-- (document 02, §7), and the theorem of that document.
use Rattle.std.specs.Prelude.{ℕ, ◌<◌, ◌≡◌, ◌↔◌, Bool, true, false, not, ◌&&◌, ◌||◌, cond, List, [], ◌∷◌, ltb, eqb}
use Rattle.model.specs.Sets.{any}
use Rattle.model.specs.Tree.{Tree}
use Rattle.model.specs.Syntax.{Path, NodeExpr}
use Rattle.model.specs.Syntax.Path.{step, compose, union, intersect, except, filter, variable, from_root, closure}
use Rattle.model.specs.Syntax.NodeExpr.{exists, negate, both, either, is, same}
use Rattle.model.specs.Meaning.{pairs}
use Rattle.model.specs.QueryTable.{kind, path_at, expr_at, entries_of}
use Rattle.model.specs.Kinds.{is_path}
use Rattle.model.specs.Refusals.{Check, refuse_at}

-- The rule.

unfoldable mutual
  -- variable k stands in the path
  pub in_path : Path → ℕ → Bool
  in_path (step a name) k = false
  in_path (compose p q) k = in_path p k || in_path q k
  in_path (union p q) k = in_path p k || in_path q k
  in_path (intersect p q) k = in_path p k || in_path q k
  in_path (except p q) k = in_path p k || in_path q k
  in_path (filter p e) k = in_path p k || in_expr e k
  in_path (variable j) k = eqb j k
  in_path (from_root p) k = in_path p k
  in_path (closure p) k = in_path p k

  -- variable k stands in the node expression
  pub in_expr : NodeExpr → ℕ → Bool
  in_expr (exists p) k = in_path p k
  in_expr (negate e) k = in_expr e k
  in_expr (both e f) k = in_expr e k || in_expr f k
  in_expr (either e f) k = in_expr e k || in_expr f k
  in_expr (is j) k = eqb j k
  in_expr (same p q) k = in_path p k || in_path q k

-- a variable stands in both of two parts; a query has at most three variables
abbrev pub shared : (ℕ → Bool) → (ℕ → Bool) → Bool
shared A B = any 3 (λ k. A k && B k)

-- a variable stands in a part
abbrev pub used : (ℕ → Bool) → Bool
used A = any 3 A

-- the path itself breaks the rule, be its parts as they may: the operands of a compose or filter share a variable, or one stands in
-- an intersect, an except or a closure
unfoldable pub path_breaks : Path → Bool
path_breaks (step a name) = false
path_breaks (compose p q) = shared (in_path p) (in_path q)
path_breaks (union p q) = false
path_breaks (intersect p q) = used (in_path (intersect p q))
path_breaks (except p q) = used (in_path (except p q))
path_breaks (filter p e) = shared (in_path p) (in_expr e)
path_breaks (variable j) = false
path_breaks (from_root p) = false
path_breaks (closure p) = used (in_path (closure p))

-- the node expression itself breaks it: the operands of an `and` share a variable, or one stands in a `not` or a `same`
unfoldable pub expr_breaks : NodeExpr → Bool
expr_breaks (exists p) = false
expr_breaks (negate e) = used (in_expr (negate e))
expr_breaks (both e f) = shared (in_expr e) (in_expr f)
expr_breaks (either e f) = false
expr_breaks (is j) = false
expr_breaks (same p q) = used (in_expr (same p q))

-- entry e of a query table breaks it
unfoldable pub breaks : List ℕ → ℕ → Bool
breaks q e = cond (is_path (kind q e)) (path_breaks (path_at q e)) (expr_breaks (expr_at q e))

-- 29: an entry breaks the rule
unfoldable pub sharing_checks : List ℕ → List Check
sharing_checks q = refuse_at 29 (entries_of q) (breaks q) ∷ []

abbrev mutual
  -- neither the path nor a part of it breaks the rule
  pub Unshared : Path → Type 0
  Unshared (step a name) = Unit
  Unshared (compose p q) = (path_breaks (compose p q) ≡ false) × (Unshared p × Unshared q)
  Unshared (union p q) = Unshared p × Unshared q
  Unshared (intersect p q) = path_breaks (intersect p q) ≡ false
  Unshared (except p q) = path_breaks (except p q) ≡ false
  Unshared (filter p e) = (path_breaks (filter p e) ≡ false) × (Unshared p × UnsharedExpr e)
  Unshared (variable j) = Unit
  Unshared (from_root p) = Unshared p
  Unshared (closure p) = path_breaks (closure p) ≡ false

  -- neither the node expression nor a part of it breaks the rule
  pub UnsharedExpr : NodeExpr → Type 0
  UnsharedExpr (exists p) = Unshared p
  UnsharedExpr (negate e) = expr_breaks (negate e) ≡ false
  UnsharedExpr (both e f) = (expr_breaks (both e f) ≡ false) × (UnsharedExpr e × UnsharedExpr f)
  UnsharedExpr (either e f) = UnsharedExpr e × UnsharedExpr f
  UnsharedExpr (is j) = Unit
  UnsharedExpr (same p q) = expr_breaks (same p q) ≡ false

-- Variables that stand for any node.

-- what stands for such a variable: `/descendant-or-self::node()`, which has every pair of nodes (proofs/Exactness.antt: all_pairs)
abbrev pub any_node : Path
any_node = from_root (step 11 65534)

-- and for `. is` such a variable: `self::node()`, which holds at every node (proofs/Exactness.antt: all_hold)
abbrev pub everywhere : NodeExpr
everywhere = exists (step 0 65534)

unfoldable mutual
  -- the path, where the variables in `free` stand for any node
  pub opened : (ℕ → Bool) → Path → Path
  opened free (step a name) = step a name
  opened free (compose p q) = compose (opened free p) (opened free q)
  opened free (union p q) = union (opened free p) (opened free q)
  opened free (intersect p q) = intersect (opened free p) (opened free q)
  opened free (except p q) = except (opened free p) (opened free q)
  opened free (filter p e) = filter (opened free p) (opened_expr free e)
  opened free (variable k) = cond (free k) any_node (variable k)
  opened free (from_root p) = from_root (opened free p)
  opened free (closure p) = closure (opened free p)

  -- the node expression, where they do
  pub opened_expr : (ℕ → Bool) → NodeExpr → NodeExpr
  opened_expr free (exists p) = exists (opened free p)
  opened_expr free (negate e) = negate (opened_expr free e)
  opened_expr free (both e f) = both (opened_expr free e) (opened_expr free f)
  opened_expr free (either e f) = either (opened_expr free e) (opened_expr free f)
  opened_expr free (is k) = cond (free k) everywhere (is k)
  opened_expr free (same p q) = same (opened free p) (opened free q)

-- of the first k variables, those from i on: the columns not yet filled of document 02
abbrev pub unfilled : ℕ → ℕ → ℕ → Bool
unfilled i k j = not (ltb j i) && ltb j k

-- The theorem.

-- the path has a pair, from any start
abbrev pub has_pair : Tree → (ℕ → ℕ) → Path → Bool
has_pair t g p = any t.size (λ x. any t.size (λ y. pairs t g p x y))

-- h is g, with some choice of nodes, below n, for the variables in `free`
pub record Fills (n : ℕ) (free : ℕ → Bool) (g h : ℕ → ℕ) : Type 0 where
  pub kept : (k : ℕ) → free k ≡ false → h k ≡ g k
  pub node : (k : ℕ) → free k ≡ true → h k < n

-- the path has a pair with the variables in `free` standing for any node exactly if it has one with some choice of nodes for them:
-- the theorem of source document 004, of every path that keeps the rule (proofs/Exactness.antt: exact)
abbrev pub Exact : Tree → (ℕ → Bool) → (ℕ → ℕ) → Path → Type 0
Exact t free g p = (has_pair t g (opened free p) ≡ true) ↔ ((h : ℕ → ℕ) × Fills t.size free g h × (has_pair t h p ≡ true))
