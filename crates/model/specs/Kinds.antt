-- The kinds of the entries of a query table (document 01, and document 02, §9): the one table of what each is and what its fields are.
use Rattle.std.specs.Prelude.{ℕ, Bool, true, false, ◌||◌, List, [], ◌∷◌, get_or}

-- what a field of an entry is: unnamed, and then 0; the code of an axis; the number of a variable; an operand that is a path; one that
-- is a node expression
pub data Field : Type 0 where
  unnamed : Field
  axis : Field
  variable : Field
  path : Field
  expr : Field

-- a kind: its entries are paths, else node expressions; what left and right are
pub record Kind : Type 0 where
  pub is_path : Bool
  pub left : Field
  pub right : Field

-- a kind of paths
abbrev pub path_kind : Field → Field → Kind
path_kind l r = record { is_path = true; left = l; right = r }

-- a kind of node expressions
abbrev pub expr_kind : Field → Field → Kind
expr_kind l r = record { is_path = false; left = l; right = r }

-- the kinds in their order: step; compose, union, intersect, except; filter; variable; from the root; some; not; and, or; is; star; same
abbrev pub kinds : List Kind
kinds =
    path_kind Field.axis Field.unnamed
    ∷ path_kind Field.path Field.path
    ∷ path_kind Field.path Field.path
    ∷ path_kind Field.path Field.path
    ∷ path_kind Field.path Field.path
    ∷ path_kind Field.path Field.expr
    ∷ path_kind Field.variable Field.unnamed
    ∷ path_kind Field.path Field.unnamed
    ∷ expr_kind Field.path Field.unnamed
    ∷ expr_kind Field.expr Field.unnamed
    ∷ expr_kind Field.expr Field.expr
    ∷ expr_kind Field.expr Field.expr
    ∷ expr_kind Field.variable Field.unnamed
    ∷ path_kind Field.path Field.unnamed
    ∷ expr_kind Field.path Field.path
    ∷ []

-- kind k; what stands for one that is not in the table is of no account, since refusal 10 turns it away
abbrev pub kind_of : ℕ → Kind
kind_of k = get_or kinds k (expr_kind Field.unnamed Field.unnamed)

-- a field is an operand that is a path
abbrev pub wants_path : Field → Bool
wants_path Field.unnamed = false
wants_path Field.axis = false
wants_path Field.variable = false
wants_path Field.path = true
wants_path Field.expr = false

-- one that is a node expression
abbrev pub wants_expr : Field → Bool
wants_expr Field.unnamed = false
wants_expr Field.axis = false
wants_expr Field.variable = false
wants_expr Field.path = false
wants_expr Field.expr = true

-- the number of a variable
abbrev pub wants_variable : Field → Bool
wants_variable Field.unnamed = false
wants_variable Field.axis = false
wants_variable Field.variable = true
wants_variable Field.path = false
wants_variable Field.expr = false

-- an entry of the kind is a path, else a node expression
unfoldable pub is_path : ℕ → Bool
is_path k = (kind_of k).is_path

-- the left operand is a path
unfoldable pub left_path : ℕ → Bool
left_path k = wants_path (kind_of k).left

-- the left operand is a node expression
unfoldable pub left_expr : ℕ → Bool
left_expr k = wants_expr (kind_of k).left

-- the right operand is a path
unfoldable pub right_path : ℕ → Bool
right_path k = wants_path (kind_of k).right

-- the right operand is a node expression
unfoldable pub right_expr : ℕ → Bool
right_expr k = wants_expr (kind_of k).right

-- left is the number of a variable
unfoldable pub names_variable : ℕ → Bool
names_variable k = wants_variable (kind_of k).left

-- the kind has a left operand
abbrev pub has_left : ℕ → Bool
has_left k = left_path k || left_expr k

-- the kind has a right operand
abbrev pub has_right : ℕ → Bool
has_right k = right_path k || right_expr k
