-- What an expression stood for before node() could be typed is what it stands for today, with the star for node().
use Prim.Native.Nat.{ℕ}
use mathlib.Core.Path.{◌≡◌, refl, ap, ap₂}
use mathlib.Core.Bool.{true, ◌&&◌}
use mathlib.Core.List.{List}
use borrow.Author.Tests.{ne_eqb}
use Rattle.model.specs.Syntax.{Path, NodeExpr}
use Rattle.model.proofs.Unchanged.{starred, starred_in}
use Rattle.model.proofs.Booleans.{no_yes, yes_left, yes_right}
use Rattle.grammar.specs.Grammar.{Expr, Op}
use Rattle.grammar.specs.Grammar.Slash.{one, two}
use Rattle.grammar.specs.Grammar.Wildcard.{star, node}
use Rattle.grammar.specs.Grammar.Op.{or, and, same, union, intersect, except, slash}
use Rattle.grammar.specs.Grammar.Expr.{wildcard, named, dot, dots, variable, bracket, closure, negate, is, filter, rooted, join}
use Rattle.grammar.specs.Typed.{anywhere_by, path_by, below_by, expr_by, path_of}
use Rattle.grammar.specs.Before.{is_old_op, is_old}

-- where no name has the tag of a document node
module _ (tag : List ℕ → ℕ) (h : (name : List ℕ) → tag name ≡ 65534 → ⊥) where
  abbrev Same : Expr → Type 0
  Same e =
      (path_by 65535 e tag ≡ starred (path_by 65534 e tag))
      × (below_by 65535 e tag ≡ starred (below_by 65534 e tag))
      × (expr_by 65535 e tag ≡ starred_in (expr_by 65534 e tag))

  operator_same : (o : Op) (l r : Expr) → is_old_op o ≡ true → Same l → Same r → Same (join o l r)
  unfolding path_by below_by expr_by starred starred_in
  operator_same or l r k u v = (refl, refl, ap₂ NodeExpr.either u.2 v.2)
  operator_same and l r k u v = (refl, refl, ap₂ NodeExpr.both u.2 v.2)
  operator_same same l r k u v = no_yes refl k
  operator_same union l r k u v = let w = ap₂ Path.union u.0 v.0 in (w, refl, ap NodeExpr.exists w)
  operator_same intersect l r k u v = let w = ap₂ Path.intersect u.0 v.0 in (w, refl, ap NodeExpr.exists w)
  operator_same except l r k u v = let w = ap₂ Path.except u.0 v.0 in (w, refl, ap NodeExpr.exists w)
  operator_same (slash one) l r k u v = let w = ap₂ Path.compose u.0 v.0 in (w, ap₂ Path.compose u.1 v.0, ap NodeExpr.exists w)
  operator_same (slash two) l r k u v =
      let w = ap₂ (λ (p q : Path). Path.compose (Path.compose p (anywhere_by 65535)) q) u.0 v.0 in
      (w, ap₂ (λ (p q : Path). Path.compose (Path.compose p (anywhere_by 65535)) q) u.1 v.0, ap NodeExpr.exists w)

  old_same : (e : Expr) → is_old e ≡ true → Same e
  unfolding path_by below_by expr_by starred starred_in is_old
  old_same (wildcard a star) o = (refl, refl, refl)
  old_same (wildcard a node) o = no_yes refl o
  old_same (named a name) o = rw (ne_eqb (tag name) 65534 (h name)) (refl, refl, refl)
  old_same dot o = (refl, refl, refl)
  old_same dots o = (refl, refl, refl)
  old_same (variable k) o = (refl, refl, refl)
  old_same (bracket e) o = let u = old_same e o in (u.0, ap (Path.compose (anywhere_by 65535)) u.0, u.2)
  old_same (closure e) o = no_yes refl o
  old_same (negate e) o = (refl, refl, ap NodeExpr.negate (old_same e o).2)
  old_same (is k) o = (refl, refl, refl)
  old_same (filter e t) o =
      let w = ap₂ Path.filter (old_same e (yes_left (is_old e) (is_old t) o)).0 (old_same t (yes_right (is_old e) (is_old t) o)).2 in
      (w, ap (Path.compose (anywhere_by 65535)) w, ap NodeExpr.exists w)
  old_same (rooted one e) o = let w = ap Path.from_root (old_same e o).0 in (w, refl, ap NodeExpr.exists w)
  old_same (rooted two e) o = let w = ap Path.from_root (old_same e o).1 in (w, refl, ap NodeExpr.exists w)
  old_same (join k l r) o =
      let p = yes_right (is_old_op k) (is_old l && is_old r) o in
      operator_same k l r (yes_left (is_old_op k) (is_old l && is_old r) o) (old_same l (yes_left (is_old l) (is_old r) p)) (old_same r (yes_right (is_old l) (is_old r) p))

  -- what it stood for, where '.', '..' and '//' stood for steps with the star
  pub old_path : (e : Expr) → is_old e ≡ true → path_by 65535 e tag ≡ starred (path_of e tag)
  old_path e o = (old_same e o).0
