-- An entry of a formed query table, with what it is read as: the one split on the kind of an entry, for all laws that need it.
use Prim.Native.Nat.{ℕ, zero, suc, ◌<◌, ◌≤◌}
use native.Mathlib.Nat.{eq-or-lt_of_le}
use native.Mathlib.Omega.{arith}
use mathlib.Core.Path.{◌≡◌, refl}
use mathlib.Core.Logic.{⊎_elim}
use mathlib.Core.Bool.{Bool, true, false}
use mathlib.Core.List.{List}
use Rattle.model.specs.Syntax.Path.{step, compose, union, intersect, except, filter, variable, from_root, closure}
use Rattle.model.specs.Syntax.NodeExpr.{exists, negate, both, either, is, same}
use Rattle.model.specs.QueryTable.{entries_of, kind, left, right, tag, path_at, expr_at}
use Rattle.model.specs.Kinds.{is_path, left_path, left_expr, right_path, right_expr, has_left, has_right}
use Rattle.model.specs.Accepted.{Formed}
use Rattle.model.proofs.Booleans.{no_yes, or_cases}
use Rattle.model.proofs.QueryTable.{at_step, at_compose, at_union, at_intersect, at_except, at_filter, at_variable, at_root, at_exists, at_negate, at_both, at_either, at_is, at_closure, at_same}

-- entry l comes before entry e and is a path
abbrev pub PathBefore : List ℕ → ℕ → ℕ → Type 0
PathBefore q e l = (l < e) × (is_path (kind q l) ≡ true)

-- the same with a node expression
abbrev pub ExprBefore : List ℕ → ℕ → ℕ → Type 0
ExprBefore q e l = (l < e) × (is_path (kind q l) ≡ false)

-- entry e by its kind: where its operands stand, and what it is read as
pub data Read (q : List ℕ) (e : ℕ) : Type 0 where
  step! : kind q e ≡ 0 → path_at q e ≡ step (left q e) (tag q e) → Read q e
  compose! : kind q e ≡ 1 → PathBefore q e (left q e) → PathBefore q e (right q e) → path_at q e ≡ compose (path_at q (left q e)) (path_at q (right q e)) → Read q e
  union! : kind q e ≡ 2 → PathBefore q e (left q e) → PathBefore q e (right q e) → path_at q e ≡ union (path_at q (left q e)) (path_at q (right q e)) → Read q e
  intersect! : kind q e ≡ 3 → PathBefore q e (left q e) → PathBefore q e (right q e) → path_at q e ≡ intersect (path_at q (left q e)) (path_at q (right q e)) → Read q e
  except! : kind q e ≡ 4 → PathBefore q e (left q e) → PathBefore q e (right q e) → path_at q e ≡ except (path_at q (left q e)) (path_at q (right q e)) → Read q e
  filter! : kind q e ≡ 5 → PathBefore q e (left q e) → ExprBefore q e (right q e) → path_at q e ≡ filter (path_at q (left q e)) (expr_at q (right q e)) → Read q e
  variable! : kind q e ≡ 6 → path_at q e ≡ variable (left q e) → Read q e
  root! : kind q e ≡ 7 → PathBefore q e (left q e) → path_at q e ≡ from_root (path_at q (left q e)) → Read q e
  exists! : kind q e ≡ 8 → PathBefore q e (left q e) → expr_at q e ≡ exists (path_at q (left q e)) → Read q e
  negate! : kind q e ≡ 9 → ExprBefore q e (left q e) → expr_at q e ≡ negate (expr_at q (left q e)) → Read q e
  both! : kind q e ≡ 10 → ExprBefore q e (left q e) → ExprBefore q e (right q e) → expr_at q e ≡ both (expr_at q (left q e)) (expr_at q (right q e)) → Read q e
  either! : kind q e ≡ 11 → ExprBefore q e (left q e) → ExprBefore q e (right q e) → expr_at q e ≡ either (expr_at q (left q e)) (expr_at q (right q e)) → Read q e
  is! : kind q e ≡ 12 → expr_at q e ≡ is (left q e) → Read q e
  closure! : kind q e ≡ 13 → PathBefore q e (left q e) → path_at q e ≡ closure (path_at q (left q e)) → Read q e
  same! : kind q e ≡ 14 → PathBefore q e (left q e) → PathBefore q e (right q e) → expr_at q e ≡ same (path_at q (left q e)) (path_at q (right q e)) → Read q e

-- the sort of an entry of a known kind
pub sort_of : (q : List ℕ) (e : ℕ) {k : ℕ} {b : Bool} → is_path k ≡ b → kind q e ≡ k → is_path (kind q e) ≡ b
sort_of q e p h = rw h p

module _ (q : List ℕ) (ok : Formed q) (e : ℕ) (within : e < entries_of q) where
  -- operands come before their entry

  pub left_lower : has_left (kind q e) ≡ true → left q e < e
  left_lower c = ⊎_elim (λ d. (ok.left_path_lem e within d).0) (λ d. (ok.left_expr_lem e within d).0) (or_cases (left_path (kind q e)) (left_expr (kind q e)) c)

  pub right_lower : has_right (kind q e) ≡ true → right q e < e
  right_lower c = ⊎_elim (λ d. (ok.right_path_lem e within d).0) (λ d. (ok.right_expr_lem e within d).0) (or_cases (right_path (kind q e)) (right_expr (kind q e)) c)

  module _ (k : ℕ) (h : kind q e ≡ k) where
    path_left : left_path k ≡ true → PathBefore q e (left q e)
    path_left c = ok.left_path_lem e within (rw h c)

    expr_left : left_expr k ≡ true → ExprBefore q e (left q e)
    expr_left c = ok.left_expr_lem e within (rw h c)

    path_right : right_path k ≡ true → PathBefore q e (right q e)
    path_right c = ok.right_path_lem e within (rw h c)

    expr_right : right_expr k ≡ true → ExprBefore q e (right q e)
    expr_right c = ok.right_expr_lem e within (rw h c)

  -- the highest kind that is left, or a lower one
  top : (k : ℕ) → (kind q e ≡ suc k → Read q e) → (kind q e ≤ k → Read q e) → kind q e ≤ suc k → Read q e
  top k f g h = ⊎_elim f (λ m. g (omega arith)) (eq-or-lt_of_le h)

  pub read : Read q e
  unfolding left_path left_expr right_path right_expr
  read =
      top 13 (λ h. let l = path_left 14 h refl in let r = path_right 14 h refl in same! h l r (at_same q e h l.0 r.0))
      (top 12 (λ h. let l = path_left 13 h refl in closure! h l (at_closure q e h l.0))
      (top 11 (λ h. is! h (at_is q e h))
      (top 10 (λ h. let l = expr_left 11 h refl in let r = expr_right 11 h refl in either! h l r (at_either q e h l.0 r.0))
      (top 9 (λ h. let l = expr_left 10 h refl in let r = expr_right 10 h refl in both! h l r (at_both q e h l.0 r.0))
      (top 8 (λ h. let l = expr_left 9 h refl in negate! h l (at_negate q e h l.0))
      (top 7 (λ h. let l = path_left 8 h refl in exists! h l (at_exists q e h l.0))
      (top 6 (λ h. let l = path_left 7 h refl in root! h l (at_root q e h l.0))
      (top 5 (λ h. variable! h (at_variable q e h))
      (top 4 (λ h. let l = path_left 5 h refl in let r = expr_right 5 h refl in filter! h l r (at_filter q e h l.0 r.0))
      (top 3 (λ h. let l = path_left 4 h refl in let r = path_right 4 h refl in except! h l r (at_except q e h l.0 r.0))
      (top 2 (λ h. let l = path_left 3 h refl in let r = path_right 3 h refl in intersect! h l r (at_intersect q e h l.0 r.0))
      (top 1 (λ h. let l = path_left 2 h refl in let r = path_right 2 h refl in union! h l r (at_union q e h l.0 r.0))
      (top 0 (λ h. let l = path_left 1 h refl in let r = path_right 1 h refl in compose! h l r (at_compose q e h l.0 r.0))
      (λ m. let h : kind q e ≡ 0 = omega arith in step! h (at_step q e h))))))))))))))) (ok.known e within)

-- something said of the entries that are paths, and something of those that are node expressions
module _ (q : List ℕ) (P E : ℕ → Type 0) where
  abbrev pub BySort : ℕ → Type 0
  BySort e = (is_path (kind q e) ≡ true → P e) × (is_path (kind q e) ≡ false → E e)

  pub as_path : (e : ℕ) → is_path (kind q e) ≡ true → P e → BySort e
  as_path e h p = (λ l. p, λ l. no_yes l h)

  pub as_expr : (e : ℕ) → is_path (kind q e) ≡ false → E e → BySort e
  as_expr e h p = (λ l. no_yes h l, λ l. p)

  -- induction: it holds of an entry where it holds of the entries before
  module _ (ok : Formed q) (turn : (e : ℕ) → e < entries_of q → ((x : ℕ) → PathBefore q e x → P x) → ((x : ℕ) → ExprBefore q e x → E x) → Read q e → BySort e) where
    below : (m e : ℕ) → e < m → m ≤ entries_of q → BySort e
    below zero e l h = absurd (omega arith)
    below (suc m) e l h =
        turn e (omega arith) (λ x w. (below m x (omega (arith, w.0)) (omega arith)).0 w.1) (λ x w. (below m x (omega (arith, w.0)) (omega arith)).1 w.1)
        (read q ok e (omega arith))

    pub by_sort : (e : ℕ) → e < entries_of q → BySort e
    by_sort e l = below (entries_of q) e l (omega arith)
