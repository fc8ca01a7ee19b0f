-- What stands at an entry of a query table, by its kind.
use Prim.Native.Nat.{ℕ, zero, suc, ◌<◌}
use native.Mathlib.Nat.{not-suc-le-zero, le_of_suc-le-suc, eq-or-lt_of_le}
use native.Mathlib.Omega.{arith}
use mathlib.Core.Path.{◌≡◌, refl, ap, ◌∙◌}
use mathlib.Core.Logic.{⊎_elim}
use mathlib.Core.List.{List, [], ◌∷◌}
use lib.ListN.{length, get_or, length-append, get_or-append}
use lib.Seq.{get_or_at}
use Rattle.model.specs.Syntax.Path.{step, compose, union, intersect, except, filter, variable, from_root, closure}
use Rattle.model.specs.Syntax.NodeExpr.{exists, negate, both, either, is, same}
use Rattle.model.specs.QueryTable.{Parsed, kind, left, right, tag, of_expr, parse, parse_over, grow, parsed, parsed_at, path_at, expr_at}

module _ (q : List ℕ) where
  length_entries : (k : ℕ) → length (parsed q k) ≡ k
  unfolding parsed grow
  length_entries zero = refl
  length_entries (suc k) = length-append (parsed q k) (parse_over q k (parsed q k) ∷ []) ∙ (let h : length (parsed q k) ≡ k = length_entries k in omega arith)

  -- an earlier entry, as a later one sees it
  pub entry_at : (e l : ℕ) (z : Parsed) → l < e → get_or (parsed q e) l z ≡ parsed_at q l
  unfolding parsed grow parsed_at
  entry_at zero l z h = absurd (not-suc-le-zero h)
  entry_at (suc k) l z h =
      ⊎_elim
      (λ e. rw e (get_or_at (parsed q k) (parse_over q k (parsed q k)) [] z k (length_entries k)))
      (λ m. get_or-append (parsed q k) (parse_over q k (parsed q k) ∷ []) z l (rw (length_entries k) m) ∙ entry_at k l z m)
      (eq-or-lt_of_le (le_of_suc-le-suc h))

  -- an entry of a known kind, over what its operands are
  over : (k e : ℕ) (a b : Parsed) → kind q e ≡ k → get_or (parsed q e) (left q e) (of_expr (is 0)) ≡ a → get_or (parsed q e) (right q e) (of_expr (is 0)) ≡ b → parsed_at q e ≡ parse k (left q e) (tag q e) a b
  unfolding parsed_at parse_over
  over k e a b h p r = rw (h, p, r)

  two : (k e : ℕ) → kind q e ≡ k → left q e < e → right q e < e → parsed_at q e ≡ parse k (left q e) (tag q e) (parsed_at q (left q e)) (parsed_at q (right q e))
  two k e h l r = over k e (parsed_at q (left q e)) (parsed_at q (right q e)) h (entry_at e (left q e) (of_expr (is 0)) l) (entry_at e (right q e) (of_expr (is 0)) r)

  one : (k e : ℕ) → kind q e ≡ k → left q e < e → parsed_at q e ≡ parse k (left q e) (tag q e) (parsed_at q (left q e)) (get_or (parsed q e) (right q e) (of_expr (is 0)))
  one k e h l = over k e (parsed_at q (left q e)) (get_or (parsed q e) (right q e) (of_expr (is 0))) h (entry_at e (left q e) (of_expr (is 0)) l) refl

  none : (k e : ℕ) → kind q e ≡ k → parsed_at q e ≡ parse k (left q e) (tag q e) (get_or (parsed q e) (left q e) (of_expr (is 0))) (get_or (parsed q e) (right q e) (of_expr (is 0)))
  none k e h = over k e (get_or (parsed q e) (left q e) (of_expr (is 0))) (get_or (parsed q e) (right q e) (of_expr (is 0))) h refl refl

  module _ (e : ℕ) where
    pub at_step : kind q e ≡ 0 → path_at q e ≡ step (left q e) (tag q e)
    unfolding parse
    at_step h = ap (λ (w : Parsed). w.path) (none 0 e h)

    pub at_compose : kind q e ≡ 1 → left q e < e → right q e < e → path_at q e ≡ compose (path_at q (left q e)) (path_at q (right q e))
    unfolding parse
    at_compose h l r = ap (λ (w : Parsed). w.path) (two 1 e h l r)

    pub at_union : kind q e ≡ 2 → left q e < e → right q e < e → path_at q e ≡ union (path_at q (left q e)) (path_at q (right q e))
    unfolding parse
    at_union h l r = ap (λ (w : Parsed). w.path) (two 2 e h l r)

    pub at_intersect : kind q e ≡ 3 → left q e < e → right q e < e → path_at q e ≡ intersect (path_at q (left q e)) (path_at q (right q e))
    unfolding parse
    at_intersect h l r = ap (λ (w : Parsed). w.path) (two 3 e h l r)

    pub at_except : kind q e ≡ 4 → left q e < e → right q e < e → path_at q e ≡ except (path_at q (left q e)) (path_at q (right q e))
    unfolding parse
    at_except h l r = ap (λ (w : Parsed). w.path) (two 4 e h l r)

    pub at_filter : kind q e ≡ 5 → left q e < e → right q e < e → path_at q e ≡ filter (path_at q (left q e)) (expr_at q (right q e))
    unfolding parse
    at_filter h l r = ap (λ (w : Parsed). w.path) (two 5 e h l r)

    pub at_variable : kind q e ≡ 6 → path_at q e ≡ variable (left q e)
    unfolding parse
    at_variable h = ap (λ (w : Parsed). w.path) (none 6 e h)

    pub at_root : kind q e ≡ 7 → left q e < e → path_at q e ≡ from_root (path_at q (left q e))
    unfolding parse
    at_root h l = ap (λ (w : Parsed). w.path) (one 7 e h l)

    pub at_exists : kind q e ≡ 8 → left q e < e → expr_at q e ≡ exists (path_at q (left q e))
    unfolding parse
    at_exists h l = ap (λ (w : Parsed). w.expr) (one 8 e h l)

    pub at_negate : kind q e ≡ 9 → left q e < e → expr_at q e ≡ negate (expr_at q (left q e))
    unfolding parse
    at_negate h l = ap (λ (w : Parsed). w.expr) (one 9 e h l)

    pub at_both : kind q e ≡ 10 → left q e < e → right q e < e → expr_at q e ≡ both (expr_at q (left q e)) (expr_at q (right q e))
    unfolding parse
    at_both h l r = ap (λ (w : Parsed). w.expr) (two 10 e h l r)

    pub at_either : kind q e ≡ 11 → left q e < e → right q e < e → expr_at q e ≡ either (expr_at q (left q e)) (expr_at q (right q e))
    unfolding parse
    at_either h l r = ap (λ (w : Parsed). w.expr) (two 11 e h l r)

    pub at_is : kind q e ≡ 12 → expr_at q e ≡ is (left q e)
    unfolding parse
    at_is h = ap (λ (w : Parsed). w.expr) (none 12 e h)

    pub at_closure : kind q e ≡ 13 → left q e < e → path_at q e ≡ closure (path_at q (left q e))
    unfolding parse
    at_closure h l = ap (λ (w : Parsed). w.path) (one 13 e h l)

    pub at_same : kind q e ≡ 14 → left q e < e → right q e < e → expr_at q e ≡ same (path_at q (left q e)) (path_at q (right q e))
    unfolding parse
    at_same h l r = ap (λ (w : Parsed). w.expr) (two 14 e h l r)
