-- A reversed query is accepted, with as many variables as the query.
use Prim.Native.Nat.{ℕ, zero, suc, max, ◌≤◌, ◌<◌}
use native.Mathlib.Omega.{arith}
use mathlib.Core.Path.{◌≡◌, refl}
use mathlib.Core.Bool.{true, false}
use mathlib.Core.List.{List}
use Rattle.model.specs.Syntax.{Path, NodeExpr}
use Rattle.model.specs.Syntax.Path.{step, compose, union, intersect, except, filter, variable, from_root, closure}
use Rattle.model.specs.QueryTable.{entries_of, kind, left, right, path_at, expr_at, last_of}
use Rattle.model.specs.Kinds.{is_path, names_variable}
use Rattle.model.specs.Refusals.{reply, verdict}
use Rattle.model.specs.Checks.{query_checks}
use Rattle.model.specs.Encoding.{path_term, expr_term, columns, columns_of}
use Rattle.model.proofs.Refusals.{Passes, Passes-front}
use Rattle.model.proofs.Accepted.{entries_some, columns_most, last_path, variable_at, query_numbered}
use Rattle.model.proofs.Formed.{PathBefore, ExprBefore, Read, sort_of, BySort, as_path, as_expr, by_sort}
use Rattle.model.proofs.Formed.Read.{step!, compose!, union!, intersect!, except!, filter!, variable!, root!, exists!, negate!, both!, either!, is!, closure!, same! }
use Rattle.model.proofs.Made.{ProperSteps, ProperStepsIn, made_passes_with}
use Rattle.entries.specs.Size.{size_checks}
use Rattle.entries.proofs.Size.{size_passes}
use Rattle.reversal.specs.Reversed.{converse, reversed}
use Rattle.reversal.specs.Service.{reversed_query, reversed_size, reversed_table, reverse_checks}
use Rattle.reversal.proofs.Service.{reversible}

-- What an accepted query is read as.

-- a path whose steps are along axes, and which needs no more variables than c
abbrev Within : ℕ → Path → Type 0
Within c p = ProperSteps p × (columns (path_term p) ≤ c)

-- a node expression of such paths
abbrev WithinExpr : ℕ → NodeExpr → Type 0
WithinExpr c e = ProperStepsIn e × (columns (expr_term e) ≤ c)

-- two operands
two : {A B : Type 0} (c x y : ℕ) → A × (x ≤ c) → B × (y ≤ c) → (A × B) × (max x y ≤ c)
two c x y (a, p) (b, q) = ((a, b), omega arith)

module _ (q : List ℕ) (least c : ℕ) (b : Passes (query_checks q least c)) where
  -- at entry e
  abbrev PathWithin : ℕ → Type 0
  PathWithin e = Within c (path_at q e)

  abbrev ExprWithin : ℕ → Type 0
  ExprWithin e = WithinExpr c (expr_at q e)

  abbrev EntryWithin : ℕ → Type 0
  EntryWithin e = BySort q PathWithin ExprWithin e

  module _ (e : ℕ) (l : e < entries_of q) where
    -- an entry of a known kind, by what it is read as

    path_is : (k : ℕ) (p : Path) → is_path k ≡ true → kind q e ≡ k → path_at q e ≡ p → Within c p → EntryWithin e
    path_is k p s h r w = as_path q PathWithin ExprWithin e (sort_of q e s h) (rw r w)

    expr_is : (k : ℕ) (f : NodeExpr) → is_path k ≡ false → kind q e ≡ k → expr_at q e ≡ f → WithinExpr c f → EntryWithin e
    expr_is k f s h r w = as_expr q PathWithin ExprWithin e (sort_of q e s h) (rw r w)

    -- the number of a variable is below c
    variable_fits : (k : ℕ) → names_variable k ≡ true → kind q e ≡ k → suc (left q e) ≤ c
    variable_fits k s h = variable_at q least c b e l (rw h s)

    module _ (path : (x : ℕ) → PathBefore q e x → PathWithin x) (expr : (x : ℕ) → ExprBefore q e x → ExprWithin x) where
      -- two operands that are paths, and two that are node expressions
      paths : PathBefore q e (left q e) → PathBefore q e (right q e)
          → (ProperSteps (path_at q (left q e)) × ProperSteps (path_at q (right q e)))
          × (max (columns (path_term (path_at q (left q e)))) (columns (path_term (path_at q (right q e)))) ≤ c)
      paths u v = two c (columns (path_term (path_at q (left q e)))) (columns (path_term (path_at q (right q e)))) (path (left q e) u) (path (right q e) v)

      exprs : ExprBefore q e (left q e) → ExprBefore q e (right q e)
          → (ProperStepsIn (expr_at q (left q e)) × ProperStepsIn (expr_at q (right q e)))
          × (max (columns (expr_term (expr_at q (left q e)))) (columns (expr_term (expr_at q (right q e)))) ≤ c)
      exprs u v = two c (columns (expr_term (expr_at q (left q e)))) (columns (expr_term (expr_at q (right q e)))) (expr (left q e) u) (expr (right q e) v)

      entry_within : Read q e → EntryWithin e
      unfolding is_path names_variable ProperSteps ProperStepsIn path_term expr_term columns
      entry_within (step! h p) = path_is 0 _ refl h p (let a = (reversible q least c b).axis e l h in omega arith, omega arith)
      entry_within (compose! h u v p) = path_is 1 _ refl h p (paths u v)
      entry_within (union! h u v p) = path_is 2 _ refl h p (paths u v)
      entry_within (intersect! h u v p) = path_is 3 _ refl h p (paths u v)
      entry_within (except! h u v p) = path_is 4 _ refl h p (paths u v)
      entry_within (filter! h u v p) =
          path_is 5 _ refl h p (two c (columns (path_term (path_at q (left q e)))) (columns (expr_term (expr_at q (right q e)))) (path (left q e) u) (expr (right q e) v))
      entry_within (variable! h p) = path_is 6 _ refl h p (tt, variable_fits 6 refl h)
      entry_within (root! h u p) = path_is 7 _ refl h p (path (left q e) u)
      entry_within (exists! h u p) = expr_is 8 _ refl h p (path (left q e) u)
      entry_within (negate! h u p) = expr_is 9 _ refl h p (expr (left q e) u)
      entry_within (both! h u v p) = expr_is 10 _ refl h p (exprs u v)
      entry_within (either! h u v p) = expr_is 11 _ refl h p (exprs u v)
      entry_within (is! h p) = expr_is 12 _ refl h p (tt, variable_fits 12 refl h)
      entry_within (closure! h u p) = path_is 13 _ refl h p (path (left q e) u)
      entry_within (same! h u v p) = expr_is 14 _ refl h p (paths u v)

  -- for the reader: the query of an accepted table has its steps along axes, and needs no more variables than are told
  accepted_within : Within c (path_at q (last_of q))
  accepted_within =
      let n = entries_some q least c b in
      (by_sort q PathWithin ExprWithin (reversible q least c b).formed entry_within (last_of q) (omega arith)).0 (last_path q least c b)

-- What is kept when a path is reversed.

-- the converse of an axis is one
converse_axis : (a : ℕ) → a < 13 → converse a < 13
unfolding converse
converse_axis zero l = omega arith
converse_axis (suc zero) l = omega arith
converse_axis (suc (suc zero)) l = omega arith
converse_axis (suc (suc (suc zero))) l = omega arith
converse_axis (suc (suc (suc (suc zero)))) l = omega arith
converse_axis (suc (suc (suc (suc (suc zero))))) l = omega arith
converse_axis (suc (suc (suc (suc (suc (suc zero)))))) l = omega arith
converse_axis (suc (suc (suc (suc (suc (suc (suc zero))))))) l = omega arith
converse_axis (suc (suc (suc (suc (suc (suc (suc (suc zero)))))))) l = omega arith
converse_axis (suc (suc (suc (suc (suc (suc (suc (suc (suc zero))))))))) l = omega arith
converse_axis (suc (suc (suc (suc (suc (suc (suc (suc (suc (suc zero)))))))))) l = omega arith
converse_axis (suc (suc (suc (suc (suc (suc (suc (suc (suc (suc (suc zero))))))))))) l = omega arith
converse_axis (suc (suc (suc (suc (suc (suc (suc (suc (suc (suc (suc (suc zero)))))))))))) l = omega arith
converse_axis (suc (suc (suc (suc (suc (suc (suc (suc (suc (suc (suc (suc (suc a))))))))))))) l = absurd (omega arith)

-- the steps of the reversed path are along axes
reversed_proper : (p : Path) → ProperSteps p → ProperSteps (reversed p)
unfolding reversed ProperSteps ProperStepsIn
reversed_proper (step a name) h = (omega arith, converse_axis a h)
reversed_proper (compose p q) (h, k) = (reversed_proper q k, reversed_proper p h)
reversed_proper (union p q) (h, k) = (reversed_proper p h, reversed_proper q k)
reversed_proper (intersect p q) (h, k) = (reversed_proper p h, reversed_proper q k)
reversed_proper (except p q) (h, k) = (reversed_proper p h, reversed_proper q k)
reversed_proper (filter p e) (h, k) = ((omega arith, k), reversed_proper p h)
reversed_proper (variable k) h = (((omega arith, tt), omega arith), omega arith)
reversed_proper (from_root p) h = ((reversed_proper p h, (omega arith, omega arith)), omega arith)
reversed_proper (closure p) h = reversed_proper p h

-- for the reader: the reversed path needs as many variables as the path
pub reversed_columns : (p : Path) → columns_of (reversed p) ≡ columns_of p
unfolding reversed path_term columns names_variable
reversed_columns (step a name) = refl
reversed_columns (compose p q) = omega (arith, reversed_columns p, reversed_columns q)
reversed_columns (union p q) = omega (arith, reversed_columns p, reversed_columns q)
reversed_columns (intersect p q) = omega (arith, reversed_columns p, reversed_columns q)
reversed_columns (except p q) = omega (arith, reversed_columns p, reversed_columns q)
reversed_columns (filter p e) = omega (arith, reversed_columns p)
reversed_columns (variable k) = omega arith
reversed_columns (from_root p) = omega (arith, reversed_columns p)
reversed_columns (closure p) = reversed_columns p

-- A query that is reversed.

module _ (q : List ℕ) (columns room : ℕ) (ok : (verdict (reverse_checks q columns room)).number ≡ 0) where
  checked : Passes (query_checks q 0 columns) × ((verdict (size_checks (reversed_size q) room)).number ≡ 0)
  unfolding reverse_checks
  checked = Passes-front (query_checks q 0 columns) (size_checks (reversed_size q) room) (query_numbered q 0 columns) ok

  -- it was accepted itself
  pub query_passes : Passes (query_checks q 0 columns)
  query_passes = checked.0

  fits : reversed_size q ≤ 64
  fits = (size_passes (reversed_size q) room _ refl checked.1).0

  -- for the reader: a query that is reversed is accepted, with as many variables
  pub reversed_passes : verdict (query_checks (reversed_table q) 0 columns) ≡ reply 0 0
  unfolding reversed_query
  reversed_passes =
      let (steps, needed) = accepted_within q 0 columns query_passes in
      let p = path_at q (last_of q) in
      made_passes_with (reversed p) 0 columns (reversed_proper p steps) fits (omega arith) (let e = reversed_columns p in omega arith) (columns_most q 0 columns query_passes)
