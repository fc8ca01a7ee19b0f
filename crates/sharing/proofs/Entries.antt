-- Where a variable stands and which entry breaks the rule, from where the variable stands in the operands.
use Prim.Native.Nat.{ℕ}
use mathlib.Core.Path.{◌≡◌, refl, sym, ◌∙◌}
use mathlib.Core.Logic.{⊎_elim}
use mathlib.Core.Bool.{Bool, true, false, ◌&&◌, ◌||◌, or-false}
use mathlib.Core.List.{List}
use lib.Dec.{eqb}
use borrow.Author.Tests.{eqb-true}
use Rattle.model.specs.declared.Entry.{Entry}
use Rattle.model.specs.Sets.{any}
use Rattle.model.specs.Syntax.{Path, NodeExpr}
use Rattle.model.specs.QueryTable.{kind, left, right, entry, path_at, expr_at}
use Rattle.model.specs.Kinds.{is_path, left_path, left_expr, right_path, right_expr, names_variable, has_left, has_right}
use Rattle.model.specs.Sharing.{in_path, in_expr, shared, used, path_breaks, expr_breaks, breaks}
use Rattle.model.proofs.Booleans.{or_cases}
use Rattle.model.proofs.Exists.{any_cong, any_never}
use Rattle.model.proofs.Formed.{Read, sort_of}
use Rattle.model.proofs.Formed.Read.{step!, compose!, union!, intersect!, except!, filter!, variable!, root!, exists!, negate!, both!, either!, is!, closure!, same! }
use Rattle.sharing.specs.Occurrences.{occurs, standing, keeps_apart, keeps_out, breaking}

module _ (q : List ℕ) (v : ℕ) where
  path_in : (e : ℕ) → is_path (kind q e) ≡ true → occurs q v e ≡ in_path (path_at q e) v
  unfolding occurs
  path_in e l = rw l

  expr_in : (e : ℕ) → is_path (kind q e) ≡ false → occurs q v e ≡ in_expr (expr_at q e) v
  unfolding occurs
  expr_in e l = rw l

  -- variable v stands in an entry that names it, or an operand of which it stands in
  pub occurs_from : (e : ℕ) → Read q e → occurs q v e ≡ standing (entry q e) v (occurs q v (left q e)) (occurs q v (right q e))
  unfolding is_path left_path left_expr right_path right_expr names_variable in_path
  occurs_from e (step! h p) = path_in e (sort_of q e refl h) ∙ rw (p, h)
  occurs_from e (compose! h l r p) = path_in e (sort_of q e refl h) ∙ rw (p, h, path_in (left q e) l.1, path_in (right q e) r.1)
  occurs_from e (union! h l r p) = path_in e (sort_of q e refl h) ∙ rw (p, h, path_in (left q e) l.1, path_in (right q e) r.1)
  occurs_from e (intersect! h l r p) = path_in e (sort_of q e refl h) ∙ rw (p, h, path_in (left q e) l.1, path_in (right q e) r.1)
  occurs_from e (except! h l r p) = path_in e (sort_of q e refl h) ∙ rw (p, h, path_in (left q e) l.1, path_in (right q e) r.1)
  occurs_from e (filter! h l r p) = path_in e (sort_of q e refl h) ∙ rw (p, h, path_in (left q e) l.1, expr_in (right q e) r.1)
  occurs_from e (variable! h p) = path_in e (sort_of q e refl h) ∙ rw (p, h) (sym (or-false (eqb (left q e) v)))
  occurs_from e (root! h l p) = path_in e (sort_of q e refl h) ∙ rw (p, h, path_in (left q e) l.1) (sym (or-false (in_path (path_at q (left q e)) v)))
  occurs_from e (exists! h l p) = expr_in e (sort_of q e refl h) ∙ rw (p, h, path_in (left q e) l.1) (sym (or-false (in_path (path_at q (left q e)) v)))
  occurs_from e (negate! h l p) = expr_in e (sort_of q e refl h) ∙ rw (p, h, expr_in (left q e) l.1) (sym (or-false (in_expr (expr_at q (left q e)) v)))
  occurs_from e (both! h l r p) = expr_in e (sort_of q e refl h) ∙ rw (p, h, expr_in (left q e) l.1, expr_in (right q e) r.1)
  occurs_from e (either! h l r p) = expr_in e (sort_of q e refl h) ∙ rw (p, h, expr_in (left q e) l.1, expr_in (right q e) r.1)
  occurs_from e (is! h p) = expr_in e (sort_of q e refl h) ∙ rw (p, h) (sym (or-false (eqb (left q e) v)))
  occurs_from e (closure! h l p) = path_in e (sort_of q e refl h) ∙ rw (p, h, path_in (left q e) l.1) (sym (or-false (in_path (path_at q (left q e)) v)))
  occurs_from e (same! h l r p) = expr_in e (sort_of q e refl h) ∙ rw (p, h, path_in (left q e) l.1, path_in (right q e) r.1)

module _ (q : List ℕ) (e : ℕ) where
  -- the entry breaks the rule by variable v
  abbrev pub breaks_by : ℕ → Bool
  breaks_by v = breaking (kind q e) (occurs q v (left q e)) (occurs q v (right q e)) (occurs q v e)

  path_breaks_lem : (p : Path) → is_path (kind q e) ≡ true → path_at q e ≡ p → breaks q e ≡ path_breaks p
  unfolding breaks
  path_breaks_lem p l h = rw (l, h)

  expr_breaks_lem : (p : NodeExpr) → is_path (kind q e) ≡ false → expr_at q e ≡ p → breaks q e ≡ expr_breaks p
  unfolding breaks
  expr_breaks_lem p l h = rw (l, h)

  -- the three sorts of kinds
  module _ (k : ℕ) (h : kind q e ≡ k) where
    never : keeps_apart k ≡ false → keeps_out k ≡ false → false ≡ any 3 breaks_by
    never a b =
        let x : keeps_apart (kind q e) ≡ false = rw h a in
        let y : keeps_out (kind q e) ≡ false = rw h b in
        sym (any_never 3 breaks_by (λ v l. rw (x, y)))

    apart : keeps_apart k ≡ true → keeps_out k ≡ false → (C D : ℕ → Bool) → ((v : ℕ) → occurs q v (left q e) ≡ C v) → ((v : ℕ) → occurs q v (right q e) ≡ D v) → shared C D ≡ any 3 breaks_by
    apart a b C D f g =
        let x : keeps_apart (kind q e) ≡ true = rw h a in
        let y : keeps_out (kind q e) ≡ false = rw h b in
        any_cong 3 (λ v. C v && D v) breaks_by (λ v l. rw (x, y, f v, g v) (sym (or-false (C v && D v))))

    out : keeps_apart k ≡ false → keeps_out k ≡ true → (C : ℕ → Bool) → ((v : ℕ) → occurs q v e ≡ C v) → used C ≡ any 3 breaks_by
    out a b C f =
        let x : keeps_apart (kind q e) ≡ false = rw h a in
        let y : keeps_out (kind q e) ≡ true = rw h b in
        any_cong 3 C breaks_by (λ v l. rw (x, y, f v))

  path_as : (p : Path) → is_path (kind q e) ≡ true → path_at q e ≡ p → (v : ℕ) → occurs q v e ≡ in_path p v
  path_as p l h v = path_in q v e l ∙ rw h

  expr_as : (p : NodeExpr) → is_path (kind q e) ≡ false → expr_at q e ≡ p → (v : ℕ) → occurs q v e ≡ in_expr p v
  expr_as p l h v = expr_in q v e l ∙ rw h

  -- an entry breaks the rule if it does so by one of the three variables
  pub breaks_from : Read q e → breaks q e ≡ any 3 breaks_by
  unfolding is_path path_breaks expr_breaks
  breaks_from (step! h p) = path_breaks_lem _ (sort_of q e refl h) p ∙ never 0 h refl refl
  breaks_from (compose! h l r p) = path_breaks_lem _ (sort_of q e refl h) p ∙ apart 1 h refl refl _ _ (λ v. path_in q v (left q e) l.1) (λ v. path_in q v (right q e) r.1)
  breaks_from (union! h l r p) = path_breaks_lem _ (sort_of q e refl h) p ∙ never 2 h refl refl
  breaks_from (intersect! h l r p) = path_breaks_lem _ (sort_of q e refl h) p ∙ out 3 h refl refl _ (path_as _ (sort_of q e refl h) p)
  breaks_from (except! h l r p) = path_breaks_lem _ (sort_of q e refl h) p ∙ out 4 h refl refl _ (path_as _ (sort_of q e refl h) p)
  breaks_from (filter! h l r p) = path_breaks_lem _ (sort_of q e refl h) p ∙ apart 5 h refl refl _ _ (λ v. path_in q v (left q e) l.1) (λ v. expr_in q v (right q e) r.1)
  breaks_from (variable! h p) = path_breaks_lem _ (sort_of q e refl h) p ∙ never 6 h refl refl
  breaks_from (root! h l p) = path_breaks_lem _ (sort_of q e refl h) p ∙ never 7 h refl refl
  breaks_from (exists! h l p) = expr_breaks_lem _ (sort_of q e refl h) p ∙ never 8 h refl refl
  breaks_from (negate! h l p) = expr_breaks_lem _ (sort_of q e refl h) p ∙ out 9 h refl refl _ (expr_as _ (sort_of q e refl h) p)
  breaks_from (both! h l r p) = expr_breaks_lem _ (sort_of q e refl h) p ∙ apart 10 h refl refl _ _ (λ v. expr_in q v (left q e) l.1) (λ v. expr_in q v (right q e) r.1)
  breaks_from (either! h l r p) = expr_breaks_lem _ (sort_of q e refl h) p ∙ never 11 h refl refl
  breaks_from (is! h p) = expr_breaks_lem _ (sort_of q e refl h) p ∙ never 12 h refl refl
  breaks_from (closure! h l p) = path_breaks_lem _ (sort_of q e refl h) p ∙ out 13 h refl refl _ (path_as _ (sort_of q e refl h) p)
  breaks_from (same! h l r p) = expr_breaks_lem _ (sort_of q e refl h) p ∙ out 14 h refl refl _ (expr_as _ (sort_of q e refl h) p)

-- What is said of an operand that the kind has not is of no account.

guard : (t a c : Bool) → (t ≡ true → a ≡ c) → (t && a) ≡ (t && c)
guard true a c h = h refl
guard false a c h = refl

pub standing_same : (f : Entry) (v : ℕ) (a b c d : Bool) → (has_left f.kind ≡ true → a ≡ c) → (has_right f.kind ≡ true → b ≡ d) → standing f v a b ≡ standing f v c d
standing_same f v a b c d p r = rw (guard (has_left f.kind) a c p, guard (has_right f.kind) b d r)

-- a kind whose operands share no variable has two
apart_two : (k : ℕ) → keeps_apart k ≡ true → (has_left k ≡ true) × (has_right k ≡ true)
unfolding left_path left_expr right_path right_expr
apart_two k h =
    ⊎_elim (λ p. rw (eqb-true k 1 p) (refl, refl))
    (λ m. ⊎_elim (λ p. rw (eqb-true k 5 p) (refl, refl)) (λ p. rw (eqb-true k 10 p) (refl, refl)) (or_cases (eqb k 5) (eqb k 10) m))
    (or_cases (eqb k 1) (eqb k 5 || eqb k 10) h)

pub breaking_same : (k : ℕ) (a b c d e : Bool) → (has_left k ≡ true → a ≡ c) → (has_right k ≡ true → b ≡ d) → breaking k a b e ≡ breaking k c d e
breaking_same k a b c d e p r =
    rw (guard (keeps_apart k) (a && b) (c && d) (λ h. let w = apart_two k h in rw (p w.0, r w.1)))
