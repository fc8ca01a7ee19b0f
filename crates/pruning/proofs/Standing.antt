-- The variables that stand in a path are among those that are counted for it.
use Prim.Native.Nat.{ℕ, suc, ◌≤◌, ◌<◌, max}
use native.Mathlib.Omega.{arith}
use mathlib.Core.Path.{◌≡◌, refl}
use mathlib.Core.Logic.{⊎_elim}
use mathlib.Core.Bool.{Bool, true, false, cond, ◌||◌}
use lib.Dec.{eqb}
use borrow.Author.Tests.{eqb-true}
use Rattle.model.specs.Syntax.{Path, NodeExpr}
use Rattle.model.specs.Syntax.Path.{step, compose, union, intersect, except, filter, variable, from_root, closure}
use Rattle.model.specs.Syntax.NodeExpr.{exists, negate, both, either, is, same}
use Rattle.model.specs.Kinds.{names_variable}
use Rattle.model.specs.Encoding.{Term, path_term, expr_term, columns}
use Rattle.model.specs.Sharing.{in_path, in_expr}
use Rattle.model.proofs.Booleans.{no_yes, or_cases}
use Rattle.pruning.specs.Pruning.{reach_in, bound_in}

module _ (k : ℕ) where
  -- a variable of two parts
  of_both : (a b : Bool) (m n : ℕ) → (a ≡ true → k < m) → (b ≡ true → k < n) → (a || b) ≡ true → k < max m n
  of_both a b m n f g h = ⊎_elim (λ p. let l : k < m = f p in omega arith) (λ p. let l : k < n = g p in omega arith) (or_cases a b h)

  of_leaf : (j : ℕ) → eqb j k ≡ true → k < suc j
  of_leaf j h = let e : j ≡ k = eqb-true j k h in omega arith

  mutual
    unfolding in_path in_expr path_term expr_term columns names_variable

    pub path_reach : (p : Path) → in_path p k ≡ true → k < reach_in (path_term p)
    path_reach (step a name) h = no_yes refl h
    path_reach (compose p q) h = of_both (in_path p k) (in_path q k) _ _ (λ u. path_reach p u) (λ u. path_reach q u) h
    path_reach (union p q) h = of_both (in_path p k) (in_path q k) _ _ (λ u. path_reach p u) (λ u. path_reach q u) h
    path_reach (intersect p q) h = of_both (in_path p k) (in_path q k) _ _ (λ u. path_reach p u) (λ u. path_reach q u) h
    path_reach (except p q) h = of_both (in_path p k) (in_path q k) _ _ (λ u. path_reach p u) (λ u. path_reach q u) h
    path_reach (filter p e) h = of_both (in_path p k) (in_expr e k) _ _ (λ u. path_reach p u) (λ u. expr_reach e u) h
    path_reach (variable j) h = of_leaf j h
    path_reach (from_root p) h = path_reach p h
    path_reach (closure p) h = path_reach p h

    pub expr_reach : (e : NodeExpr) → in_expr e k ≡ true → k < reach_in (expr_term e)
    expr_reach (exists p) h = path_reach p h
    expr_reach (negate e) h = expr_reach e h
    expr_reach (both e f) h = of_both (in_expr e k) (in_expr f k) _ _ (λ u. expr_reach e u) (λ u. expr_reach f u) h
    expr_reach (either e f) h = of_both (in_expr e k) (in_expr f k) _ _ (λ u. expr_reach e u) (λ u. expr_reach f u) h
    expr_reach (is j) h = of_leaf j h
    expr_reach (same p q) h = of_both (in_path p k) (in_path q k) _ _ (λ u. path_reach p u) (λ u. path_reach q u) h

-- where one of two numbers is taken, the larger bounds it
within : (b : Bool) (m n : ℕ) → n ≤ m → cond b m n ≤ m
within true m n l = omega arith
within false m n l = l

-- for the reader: a prefix that binds all variables binds those at negative places
pub bound_reach : (a : Term) → bound_in a ≤ reach_in a
unfolding bound_in columns
bound_reach (Term.leaf k l g) = omega arith
bound_reach (Term.unary k a) = within (eqb k 9) (reach_in a) (bound_in a) (bound_reach a)
bound_reach (Term.binary k a b) =
    let l : bound_in a ≤ reach_in a = bound_reach a in
    let r : cond (eqb k 4) (reach_in b) (bound_in b) ≤ reach_in b = within (eqb k 4) (reach_in b) (bound_in b) (bound_reach b) in
    omega arith
