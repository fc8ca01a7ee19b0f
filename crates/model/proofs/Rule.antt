-- A query table of which no entry breaks the rule is read as a path that keeps it.
use Prim.Native.Nat.{ℕ, ◌<◌}
use mathlib.Core.Path.{◌≡◌, refl, sym, ap, ◌∙◌, subst}
use mathlib.Core.Bool.{true, false}
use mathlib.Core.List.{List}
use Rattle.model.specs.Sets.{any}
use Rattle.model.specs.Syntax.{Path, NodeExpr}
use Rattle.model.specs.QueryTable.{kind, left, right, entries_of, path_at, expr_at}
use Rattle.model.specs.Kinds.{is_path}
use Rattle.model.specs.Accepted.{Shaped}
use Rattle.model.specs.Sharing.{path_breaks, expr_breaks, breaks, Unshared, UnsharedExpr}
use Rattle.model.proofs.Exists.{none_of}
use Rattle.model.proofs.Formed.{PathBefore, ExprBefore, Read, sort_of, BySort, as_path, as_expr, by_sort}
use Rattle.model.proofs.Formed.Read.{step!, compose!, union!, intersect!, except!, filter!, variable!, root!, exists!, negate!, both!, either!, is!, closure!, same! }

module _ (q : List ℕ) (none : any (entries_of q) (breaks q) ≡ false) where
  abbrev P : ℕ → Type 0
  P e = Unshared (path_at q e)

  abbrev E : ℕ → Type 0
  E e = UnsharedExpr (expr_at q e)

  module _ (e : ℕ) (within : e < entries_of q) where
    kept : is_path (kind q e) ≡ true → (p : Path) → path_at q e ≡ p → path_breaks p ≡ false
    unfolding breaks
    kept l p h = ap path_breaks (sym h) ∙ (rw l at (none_of (entries_of q) (breaks q) e none within))

    kept_expr : is_path (kind q e) ≡ false → (p : NodeExpr) → expr_at q e ≡ p → expr_breaks p ≡ false
    unfolding breaks
    kept_expr l p h = ap expr_breaks (sym h) ∙ (rw l at (none_of (entries_of q) (breaks q) e none within))

    path_keeps : (p : Path) → is_path (kind q e) ≡ true → path_at q e ≡ p → Unshared p → BySort q P E e
    path_keeps p l h u = as_path q P E e l (subst Unshared (sym h) u)

    expr_keeps : (p : NodeExpr) → is_path (kind q e) ≡ false → expr_at q e ≡ p → UnsharedExpr p → BySort q P E e
    expr_keeps p l h u = as_expr q P E e l (subst UnsharedExpr (sym h) u)

    -- an entry keeps the rule where its operands do
    keeps : ((x : ℕ) → PathBefore q e x → P x) → ((x : ℕ) → ExprBefore q e x → E x) → Read q e → BySort q P E e
    unfolding is_path
    keeps f g (step! h p) = path_keeps _ (sort_of q e refl h) p tt
    keeps f g (compose! h l r p) = path_keeps _ (sort_of q e refl h) p (kept (sort_of q e refl h) _ p, (f (left q e) l, f (right q e) r))
    keeps f g (union! h l r p) = path_keeps _ (sort_of q e refl h) p (f (left q e) l, f (right q e) r)
    keeps f g (intersect! h l r p) = path_keeps _ (sort_of q e refl h) p (kept (sort_of q e refl h) _ p)
    keeps f g (except! h l r p) = path_keeps _ (sort_of q e refl h) p (kept (sort_of q e refl h) _ p)
    keeps f g (filter! h l r p) = path_keeps _ (sort_of q e refl h) p (kept (sort_of q e refl h) _ p, (f (left q e) l, g (right q e) r))
    keeps f g (variable! h p) = path_keeps _ (sort_of q e refl h) p tt
    keeps f g (root! h l p) = path_keeps _ (sort_of q e refl h) p (f (left q e) l)
    keeps f g (exists! h l p) = expr_keeps _ (sort_of q e refl h) p (f (left q e) l)
    keeps f g (negate! h l p) = expr_keeps _ (sort_of q e refl h) p (kept_expr (sort_of q e refl h) _ p)
    keeps f g (both! h l r p) = expr_keeps _ (sort_of q e refl h) p (kept_expr (sort_of q e refl h) _ p, (g (left q e) l, g (right q e) r))
    keeps f g (either! h l r p) = expr_keeps _ (sort_of q e refl h) p (g (left q e) l, g (right q e) r)
    keeps f g (is! h p) = expr_keeps _ (sort_of q e refl h) p tt
    keeps f g (closure! h l p) = path_keeps _ (sort_of q e refl h) p (kept (sort_of q e refl h) _ p)
    keeps f g (same! h l r p) = expr_keeps _ (sort_of q e refl h) p (kept_expr (sort_of q e refl h) _ p)

-- every path of the query keeps the rule
pub query_unshared : (q : List ℕ) → Shaped q → any (entries_of q) (breaks q) ≡ false → (e : ℕ) → e < entries_of q → is_path (kind q e) ≡ true → Unshared (path_at q e)
query_unshared q shape none e l h = (by_sort q (P q none) (E q none) shape.formed (keeps q none) e l).0 h
