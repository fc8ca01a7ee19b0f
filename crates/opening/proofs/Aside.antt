-- The opened table keeps as many tables aside as the query: what stands for a variable keeps none, as the variable does.
use Prim.Native.Nat.{ℕ, ◌+◌, ◌≤◌, ◌<◌}
use native.Mathlib.Omega.{arith}
use mathlib.Core.Path.{◌≡◌, refl, sym, ap, ◌∙◌}
use mathlib.Core.Bool.{Bool, true, false, cond}
use mathlib.Core.List.{List}
use Rattle.model.specs.Syntax.{Path, NodeExpr}
use Rattle.model.specs.Syntax.Path.{step, compose, union, intersect, except, filter, variable, from_root, closure}
use Rattle.model.specs.Syntax.NodeExpr.{exists, negate, both, either, is, same}
use Rattle.model.specs.Encoding.{path_term, expr_term}
use Rattle.model.specs.QueryTable.{entries_of, kind, left, path_at, last_of}
use Rattle.model.specs.Kinds.{is_path, names_variable}
use Rattle.model.specs.Accepted.{Shaped}
use Rattle.model.specs.Sharing.{any_node, everywhere, opened, opened_expr, unfilled}
use Rattle.aside.specs.Aside.{aside_in, aside_at}
use Rattle.aside.proofs.Terms.{term_path}
use Rattle.opening.specs.Opening.{Opens, opened_table}
use Rattle.opening.proofs.Opened.{opened_last, opened_sort, opened_path}

variable_aside : (b : Bool) (k : ℕ) → aside_in (path_term (cond b any_node (variable k))) ≡ 0
unfolding aside_in path_term
variable_aside true k = refl
variable_aside false k = refl

is_aside : (b : Bool) (k : ℕ) → aside_in (expr_term (cond b everywhere (is k))) ≡ 0
unfolding aside_in path_term expr_term
is_aside true k = refl
is_aside false k = refl

module _ (free : ℕ → Bool) where
  mutual
    unfolding aside_in path_term expr_term opened opened_expr

    pub path_aside : (p : Path) → aside_in (path_term (opened free p)) ≡ aside_in (path_term p)
    path_aside (step a name) = refl
    path_aside (compose p q) = rw (path_aside p, path_aside q)
    path_aside (union p q) = rw (path_aside p, path_aside q)
    path_aside (intersect p q) = rw (path_aside p, path_aside q)
    path_aside (except p q) = rw (path_aside p, path_aside q)
    path_aside (filter p e) = rw (path_aside p, expr_aside e)
    path_aside (variable k) = variable_aside (free k) k
    path_aside (from_root p) = path_aside p
    path_aside (closure p) = path_aside p

    pub expr_aside : (e : NodeExpr) → aside_in (expr_term (opened_expr free e)) ≡ aside_in (expr_term e)
    expr_aside (exists p) = path_aside p
    expr_aside (negate e) = expr_aside e
    expr_aside (both e f) = rw (expr_aside e, expr_aside f)
    expr_aside (either e f) = rw (expr_aside e, expr_aside f)
    expr_aside (is k) = is_aside (free k) k
    expr_aside (same p q) = rw (path_aside p, path_aside q)

-- where every variable that is named is below k
module _ (q : List ℕ) (i : ℕ) (r : List ℕ) (ok : Shaped q) (o : Opens q i r) (k : ℕ) (named : (e : ℕ) → e < entries_of q → names_variable (kind q e) ≡ true → left q e < k) where
  pub opened_aside : (e : ℕ) → e < entries_of q → is_path (kind q e) ≡ true → aside_at (opened_table q r) (2 + e) ≡ aside_at q e
  opened_aside e l h =
      ap aside_in (term_path (opened_table q r) (2 + e) (opened_sort q i r ok o e l h))
      ∙ ap (λ (p : Path). aside_in (path_term p)) (opened_path q i r ok o k named e l h)
      ∙ path_aside (unfilled i k) (path_at q e)
      ∙ sym (ap aside_in (term_path q e h))

  -- for the reader: so five are enough for it where they are for the query
  pub opened_five : 0 < entries_of q → is_path (kind q (last_of q)) ≡ true → aside_at q (last_of q) ≤ 5 → aside_at (opened_table q r) (last_of (opened_table q r)) ≤ 5
  opened_five some h five = rw (opened_last q i r ok o some, opened_aside (last_of q) (omega arith) h) five
