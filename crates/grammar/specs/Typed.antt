-- What a typed query stands for: the path of document 01, where `tag` gives the tag of a name.
use Rattle.std.specs.Prelude.{ℕ, ◌+◌, List, [], ◌∷◌, ◌++◌, length}
use Rattle.model.specs.Syntax.{Path, NodeExpr}
use Rattle.grammar.specs.Grammar.{Expr, Wildcard, axis_word, slash_word, word, print}
use Rattle.grammar.specs.Grammar.Slash.{one, two}
use Rattle.grammar.specs.Grammar.Wildcard.{star, node}
use Rattle.grammar.specs.Grammar.Op.{or, and, same, union, intersect, except, slash}
use Rattle.grammar.specs.Grammar.Expr.{wildcard, named, dot, dots, variable, bracket, closure, negate, is, filter, rooted, join}

-- the tag in a step of a test that is no name
abbrev pub wildcard_tag : Wildcard → ℕ
wildcard_tag star = 65535
wildcard_tag node = 65534

-- what is no path has none: what stands for it here is of no account
abbrev none : Path
none = Path.variable 0

-- where '.', '..' and '//' stand for steps with the name test `any`
module _ (any : ℕ) where
  -- the step that '//' has between its slashes
  abbrev pub anywhere_by : Path
  anywhere_by = Path.step 11 any

  unfoldable mutual
    -- what a path stands for
    pub path_by : Expr → (List ℕ → ℕ) → Path
    path_by (wildcard a w) tag = Path.step a (wildcard_tag w)
    path_by (named a name) tag = Path.step a (tag name)
    path_by dot tag = Path.step 0 any
    path_by dots tag = Path.step 2 any
    path_by (variable k) tag = Path.variable k
    path_by (bracket e) tag = path_by e tag
    path_by (closure e) tag = Path.closure (path_by e tag)
    path_by (negate e) tag = none
    path_by (is k) tag = none
    path_by (filter e t) tag = Path.filter (path_by e tag) (expr_by t tag)
    path_by (rooted one e) tag = Path.from_root (path_by e tag)
    path_by (rooted two e) tag = Path.from_root (below_by e tag)
    path_by (join or l r) tag = none
    path_by (join and l r) tag = none
    path_by (join same l r) tag = none
    path_by (join union l r) tag = Path.union (path_by l tag) (path_by r tag)
    path_by (join intersect l r) tag = Path.intersect (path_by l tag) (path_by r tag)
    path_by (join except l r) tag = Path.except (path_by l tag) (path_by r tag)
    path_by (join (slash one) l r) tag = Path.compose (path_by l tag) (path_by r tag)
    path_by (join (slash two) l r) tag = Path.compose (Path.compose (path_by l tag) anywhere_by) (path_by r tag)

    -- a run of steps behind '//': what it stands for behind that step, the whole grouped leftwards
    pub below_by : Expr → (List ℕ → ℕ) → Path
    below_by (wildcard a w) tag = Path.compose anywhere_by (Path.step a (wildcard_tag w))
    below_by (named a name) tag = Path.compose anywhere_by (Path.step a (tag name))
    below_by dot tag = Path.compose anywhere_by (Path.step 0 any)
    below_by dots tag = Path.compose anywhere_by (Path.step 2 any)
    below_by (variable k) tag = Path.compose anywhere_by (Path.variable k)
    below_by (bracket e) tag = Path.compose anywhere_by (path_by e tag)
    below_by (closure e) tag = Path.compose anywhere_by (Path.closure (path_by e tag))
    below_by (negate e) tag = none
    below_by (is k) tag = none
    below_by (filter e t) tag = Path.compose anywhere_by (Path.filter (path_by e tag) (expr_by t tag))
    below_by (rooted s e) tag = none
    below_by (join or l r) tag = none
    below_by (join and l r) tag = none
    below_by (join same l r) tag = none
    below_by (join union l r) tag = none
    below_by (join intersect l r) tag = none
    below_by (join except l r) tag = none
    below_by (join (slash one) l r) tag = Path.compose (below_by l tag) (path_by r tag)
    below_by (join (slash two) l r) tag = Path.compose (Path.compose (below_by l tag) anywhere_by) (path_by r tag)

    -- what a test stands for; a path is one too: that it reaches a node
    pub expr_by : Expr → (List ℕ → ℕ) → NodeExpr
    expr_by (wildcard a w) tag = NodeExpr.exists (Path.step a (wildcard_tag w))
    expr_by (named a name) tag = NodeExpr.exists (Path.step a (tag name))
    expr_by dot tag = NodeExpr.exists (Path.step 0 any)
    expr_by dots tag = NodeExpr.exists (Path.step 2 any)
    expr_by (variable k) tag = NodeExpr.exists (Path.variable k)
    expr_by (bracket e) tag = expr_by e tag
    expr_by (closure e) tag = NodeExpr.exists (Path.closure (path_by e tag))
    expr_by (negate e) tag = NodeExpr.negate (expr_by e tag)
    expr_by (is k) tag = NodeExpr.is k
    expr_by (filter e t) tag = NodeExpr.exists (Path.filter (path_by e tag) (expr_by t tag))
    expr_by (rooted one e) tag = NodeExpr.exists (Path.from_root (path_by e tag))
    expr_by (rooted two e) tag = NodeExpr.exists (Path.from_root (below_by e tag))
    expr_by (join or l r) tag = NodeExpr.either (expr_by l tag) (expr_by r tag)
    expr_by (join and l r) tag = NodeExpr.both (expr_by l tag) (expr_by r tag)
    expr_by (join same l r) tag = NodeExpr.same (path_by l tag) (path_by r tag)
    expr_by (join union l r) tag = NodeExpr.exists (Path.union (path_by l tag) (path_by r tag))
    expr_by (join intersect l r) tag = NodeExpr.exists (Path.intersect (path_by l tag) (path_by r tag))
    expr_by (join except l r) tag = NodeExpr.exists (Path.except (path_by l tag) (path_by r tag))
    expr_by (join (slash one) l r) tag = NodeExpr.exists (Path.compose (path_by l tag) (path_by r tag))
    expr_by (join (slash two) l r) tag = NodeExpr.exists (Path.compose (Path.compose (path_by l tag) anywhere_by) (path_by r tag))

-- Today that test is node(), so that '.' is self::node(), '..' is parent::node() and '//' is /descendant-or-self::node()/ (document 02,
-- §5); it was the star before.

-- the step that '//' has between its slashes
abbrev pub anywhere : Path
anywhere = anywhere_by 65534

-- what a path stands for
abbrev pub path_of : Expr → (List ℕ → ℕ) → Path
path_of = path_by 65534

-- a run of steps behind '//'
abbrev pub below : Expr → (List ℕ → ℕ) → Path
below = below_by 65534

-- what a test stands for
abbrev pub expr_of : Expr → (List ℕ → ℕ) → NodeExpr
expr_of = expr_by 65534

-- a name as it is typed, and the place of its first byte
pub record TypedName : Type 0 where
  pub place : ℕ
  pub name : List ℕ

-- the names in an expression whose first byte stands at place p, in order
unfoldable pub names_in : ℕ → Expr → List TypedName
names_in p (wildcard a w) = []
names_in p (named a name) = record { place = p + length (axis_word a); name = name } ∷ []
names_in p dot = []
names_in p dots = []
names_in p (variable k) = []
names_in p (bracket e) = names_in (p + 1) e
names_in p (closure e) = names_in (p + 1) e
names_in p (negate e) = names_in (p + 4) e
names_in p (is k) = []
names_in p (filter e t) = names_in p e ++ names_in (p + length (print e) + 1) t
names_in p (rooted s e) = names_in (p + length (slash_word s)) e
names_in p (join o l r) = names_in p l ++ names_in (p + length (print l) + length (word o)) r
