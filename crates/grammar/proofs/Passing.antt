-- What a grammatical expression stands for makes a table that is accepted, if it is not too long.
use Prim.Native.Nat.{ℕ, suc, ◌+◌, max, ◌≤◌, ◌<◌}
use native.Mathlib.Omega.{arith}
use mathlib.Core.Path.{◌≡◌, sym, ◌∙◌}
use mathlib.Core.Bool.{Bool, true, false, not, ◌&&◌, ◌||◌}
use mathlib.Core.List.{List}
use lib.Dec.{leb, ltb}
use borrow.Author.Tests.{ltb-true}
use Rattle.model.specs.Syntax.{Path, NodeExpr}
use Rattle.model.specs.Refusals.{reply, verdict}
use Rattle.model.specs.Kinds.{names_variable}
use Rattle.model.specs.Checks.{query_checks}
use Rattle.model.specs.Encoding.{path_term, expr_term, size, table_of, columns, columns_of}
use Rattle.model.proofs.Booleans.{yes_left, yes_right}
use Rattle.model.proofs.Made.{ProperSteps, ProperStepsIn, made_passes}
use Rattle.grammar.specs.Grammar.{Expr, Op, Slash, elem, from, axes, variables, level, left_level, logical, makes_test, is_name, fits}
use Rattle.grammar.specs.Grammar.Slash.{one, two}
use Rattle.grammar.specs.Grammar.Op.{or, and, same, union, intersect, except, slash}
use Rattle.grammar.specs.Grammar.Expr.{wildcard, named, dot, dots, variable, bracket, closure, negate, is, filter, rooted, join}
use Rattle.grammar.specs.Typed.{below_by, expr_by, path_by, wildcard_tag, anywhere, path_of, below, expr_of}
use Rattle.grammar.proofs.NameBytes.{elem_from}

from_below : (x n : ℕ) → elem x (from 0 n) ≡ true → x < n
from_below x n h = let l : x < 0 + n = ltb-true x (0 + n) (yes_right (leb 0 x) (ltb x (0 + n)) (sym (elem_from x 0 n) ∙ h)) in omega arith

axis_below : (a : ℕ) → elem a axes ≡ true → a < 13
unfolding axes
axis_below a h = from_below a 13 h

variable_below : (k : ℕ) → elem k variables ≡ true → k < 3
unfolding variables
variable_below k h = from_below k 3 h

-- a path with proper steps and at most three variables
abbrev Fine : Path → Type 0
Fine p = ProperSteps p × (columns (path_term p) ≤ 3)

-- so are the paths in a node expression
abbrev FineIn : NodeExpr → Type 0
FineIn e = ProperStepsIn e × (columns (expr_term e) ≤ 3)

-- two operands
pair : {A B : Type 0} (x y : ℕ) → A × (x ≤ 3) → B × (y ≤ 3) → (A × B) × (max x y ≤ 3)
pair x y (a, p) (b, q) = ((a, b), omega arith)

compose_fine : (p q : Path) → Fine p → Fine q → Fine (Path.compose p q)
unfolding ProperSteps path_term columns
compose_fine p q u v = pair (columns (path_term p)) (columns (path_term q)) u v

step_fine : (a name : ℕ) → a < 13 → Fine (Path.step a name)
unfolding ProperSteps path_term columns names_variable
step_fine a name l = (l, omega arith)

anywhere_fine : Fine anywhere
anywhere_fine = step_fine 11 65534 (omega arith)

variable_fine : (k : ℕ) → k < 3 → Fine (Path.variable k)
unfolding ProperSteps path_term columns names_variable
variable_fine k h = (tt, h)

-- what stands where an expression is no path
none_fine : Fine (Path.variable 0)
none_fine = variable_fine 0 (omega arith)

module _ (tag : List ℕ → ℕ) where
  -- whichever of the three an expression is taken for
  abbrev All : Expr → Type 0
  All e = Fine (path_of e tag) × Fine (below e tag) × FineIn (expr_of e tag)

  -- where it is no run of steps
  alone : (p : Path) → Fine p → Fine p × Fine (Path.compose anywhere p) × FineIn (NodeExpr.exists p)
  unfolding ProperStepsIn expr_term columns
  alone p h = (h, compose_fine anywhere p anywhere_fine h, h)

  operator_fine : (o : Op) (l r : Expr) → All l → All r → All (join o l r)
  unfolding path_by below_by expr_by ProperSteps ProperStepsIn path_term expr_term columns
  operator_fine or l r u v = (none_fine, none_fine, pair (columns (expr_term (expr_of l tag))) (columns (expr_term (expr_of r tag))) u.2 v.2)
  operator_fine and l r u v = (none_fine, none_fine, pair (columns (expr_term (expr_of l tag))) (columns (expr_term (expr_of r tag))) u.2 v.2)
  operator_fine same l r u v = (none_fine, none_fine, pair (columns (path_term (path_of l tag))) (columns (path_term (path_of r tag))) u.0 v.0)
  operator_fine union l r u v = let w = compose_fine (path_of l tag) (path_of r tag) u.0 v.0 in (w, none_fine, w)
  operator_fine intersect l r u v = let w = compose_fine (path_of l tag) (path_of r tag) u.0 v.0 in (w, none_fine, w)
  operator_fine except l r u v = let w = compose_fine (path_of l tag) (path_of r tag) u.0 v.0 in (w, none_fine, w)
  operator_fine (slash one) l r u v = let w = compose_fine (path_of l tag) (path_of r tag) u.0 v.0 in (w, compose_fine (below l tag) (path_of r tag) u.1 v.0, w)
  operator_fine (slash two) l r u v =
      let w = compose_fine (Path.compose (path_of l tag) anywhere) (path_of r tag) (compose_fine (path_of l tag) anywhere u.0 anywhere_fine) v.0 in
      (w, compose_fine (Path.compose (below l tag) anywhere) (path_of r tag) (compose_fine (below l tag) anywhere u.1 anywhere_fine) v.0, w)

  root_fine : (s : Slash) (e : Expr) → All e → All (rooted s e)
  unfolding path_by below_by expr_by ProperSteps ProperStepsIn path_term expr_term columns
  root_fine one e u = (u.0, none_fine, u.0)
  root_fine two e u = (u.1, none_fine, u.1)

  all_fine : (n : ℕ) (b : Bool) (e : Expr) → fits n b e ≡ true → All e
  unfolding fits path_by below_by expr_by ProperSteps ProperStepsIn path_term expr_term columns names_variable
  all_fine n b (wildcard a w) h = alone (Path.step a (wildcard_tag w)) (step_fine a (wildcard_tag w) (axis_below a h))
  all_fine n b (named a name) h = alone (Path.step a (tag name)) (step_fine a (tag name) (axis_below a (yes_left (elem a axes) (is_name name) h)))
  all_fine n b dot h = alone (Path.step 0 65534) (step_fine 0 65534 (omega arith))
  all_fine n b dots h = alone (Path.step 2 65534) (step_fine 2 65534 (omega arith))
  all_fine n b (variable k) h = alone (Path.variable k) (variable_fine k (variable_below k h))
  all_fine n b (bracket e) h = let u = all_fine 0 b e h in (u.0, compose_fine anywhere (path_of e tag) anywhere_fine u.0, u.2)
  all_fine n b (closure e) h = alone (Path.closure (path_of e tag)) (all_fine 0 false e h).0
  all_fine n b (negate e) h = (none_fine, none_fine, (all_fine 0 true e (yes_right b (fits 0 true e) h)).2)
  all_fine n b (is k) h = (none_fine, none_fine, (tt, variable_below k (yes_right b (elem k variables) h)))
  all_fine n b (filter e t) h =
      let u = all_fine 7 false e (yes_left (fits 7 false e) (fits 0 true t) h) in
      let v = all_fine 0 true t (yes_right (fits 7 false e) (fits 0 true t) h) in
      alone (Path.filter (path_of e tag) (expr_of t tag)) (pair (columns (path_term (path_of e tag))) (columns (expr_term (expr_of t tag))) u.0 v.2)
  all_fine n b (rooted s e) h = root_fine s e (all_fine 6 false e (yes_right (leb n 5) (fits 6 false e) h))
  all_fine n b (join o l r) h =
      let L = fits (left_level o) (logical o) l in
      let R = fits (suc (level o)) (logical o) r in
      let f : (L && R) ≡ true = yes_right (not (makes_test o) || b) (L && R) (yes_right (leb n (level o)) ((not (makes_test o) || b) && (L && R)) h) in
      operator_fine o l r (all_fine (left_level o) (logical o) l (yes_left L R f)) (all_fine (suc (level o)) (logical o) r (yes_right L R f))

-- for the reader: the path of a grammatical expression, whatever the tags of its names
module _ (e : Expr) (h : fits 0 false e ≡ true) (tag : List ℕ → ℕ) where
  pub steps_proper : ProperSteps (path_of e tag)
  steps_proper = (all_fine tag 0 false e h).0.0

  pub columns_few : columns_of (path_of e tag) ≤ 3
  columns_few = (all_fine tag 0 false e h).0.1

  pub typed_passes : size (path_term (path_of e tag)) ≤ 64 → verdict (query_checks (table_of (path_of e tag)) 0 (columns_of (path_of e tag))) ≡ reply 0 0
  typed_passes z = made_passes (path_of e tag) steps_proper z columns_few
