-- What an entry of a query table is made of, by its kind.
use Prim.Native.Nat.{ℕ, ◌<◌}
use mathlib.Core.Path.{◌≡◌, refl, ap, ◌∙◌}
use mathlib.Core.Bool.{true, false}
use mathlib.Core.List.{List}
use Rattle.model.specs.Syntax.{Path, NodeExpr}
use Rattle.model.specs.Encoding.{Term, path_term, expr_term}
use Rattle.model.specs.QueryTable.{entries_of, kind, left, right, tag, path_at, expr_at}
use Rattle.model.specs.Kinds.{is_path, left_path, left_expr, right_path, right_expr, has_left, has_right}
use Rattle.model.proofs.Formed.{PathBefore, ExprBefore, Read, read, sort_of}
use Rattle.model.proofs.Formed.Read.{step!, compose!, union!, intersect!, except!, filter!, variable!, root!, exists!, negate!, both!, either!, is!, closure!, same! }
use Rattle.model.specs.Accepted.{Formed}
use Rattle.aside.specs.Aside.{term_at}

-- an entry with no operand, with one, with two
pub data Form (q : List ℕ) (e : ℕ) : Type 0 where
  none! : has_left (kind q e) ≡ false → has_right (kind q e) ≡ false → (g : ℕ) → term_at q e ≡ Term.leaf (kind q e) (left q e) g → Form q e
  one! : has_left (kind q e) ≡ true → has_right (kind q e) ≡ false → left q e < e → term_at q e ≡ Term.unary (kind q e) (term_at q (left q e)) → Form q e
  two! : has_left (kind q e) ≡ true → has_right (kind q e) ≡ true → left q e < e → right q e < e → term_at q e ≡ Term.binary (kind q e) (term_at q (left q e)) (term_at q (right q e)) → Form q e

module _ (q : List ℕ) where
  pub term_path : (e : ℕ) → is_path (kind q e) ≡ true → term_at q e ≡ path_term (path_at q e)
  unfolding term_at
  term_path e h = rw h

  term_expr : (e : ℕ) → is_path (kind q e) ≡ false → term_at q e ≡ expr_term (expr_at q e)
  unfolding term_at
  term_expr e h = rw h

  module _ (e : ℕ) where
    -- an operand, by its sort

    path_before : (x : ℕ) → PathBefore q e x → (x < e) × (term_at q x ≡ path_term (path_at q x))
    path_before x w = (w.0, term_path x w.1)

    expr_before : (x : ℕ) → ExprBefore q e x → (x < e) × (term_at q x ≡ expr_term (expr_at q x))
    expr_before x w = (w.0, term_expr x w.1)

    -- an entry of a known kind, from what it is read as

    path_of_lem : (k : ℕ) (p : Path) → is_path k ≡ true → kind q e ≡ k → path_at q e ≡ p → term_at q e ≡ path_term p
    path_of_lem k p s h r = term_path e (sort_of q e s h) ∙ ap path_term r

    expr_of_lem : (k : ℕ) (p : NodeExpr) → is_path k ≡ false → kind q e ≡ k → expr_at q e ≡ p → term_at q e ≡ expr_term p
    expr_of_lem k p s h r = term_expr e (sort_of q e s h) ∙ ap expr_term r

    none_of : (k g : ℕ) → kind q e ≡ k → has_left k ≡ false → has_right k ≡ false → term_at q e ≡ Term.leaf k (left q e) g → Form q e
    none_of k g h x y w = none! (rw h x) (rw h y) g (w ∙ rw h)

    one_of : (k : ℕ) (a : Term) → kind q e ≡ k → has_left k ≡ true → has_right k ≡ false → (left q e < e) × (term_at q (left q e) ≡ a) → term_at q e ≡ Term.unary k a → Form q e
    one_of k a h x y u w = one! (rw h x) (rw h y) u.0 (w ∙ rw (h, u.1))

    two_of : (k : ℕ) (a b : Term) → kind q e ≡ k → has_left k ≡ true → has_right k ≡ true → (left q e < e) × (term_at q (left q e) ≡ a) → (right q e < e) × (term_at q (right q e) ≡ b) → term_at q e ≡ Term.binary k a b → Form q e
    two_of k a b h x y u v w = two! (rw h x) (rw h y) u.0 v.0 (w ∙ rw (h, u.1, v.1))

    form_of : Read q e → Form q e
    unfolding is_path left_path left_expr right_path right_expr path_term
    form_of (step! h p) = none_of 0 (tag q e) h refl refl (path_of_lem 0 _ refl h p)
    form_of (compose! h l r p) = two_of 1 _ _ h refl refl (path_before (left q e) l) (path_before (right q e) r) (path_of_lem 1 _ refl h p)
    form_of (union! h l r p) = two_of 2 _ _ h refl refl (path_before (left q e) l) (path_before (right q e) r) (path_of_lem 2 _ refl h p)
    form_of (intersect! h l r p) = two_of 3 _ _ h refl refl (path_before (left q e) l) (path_before (right q e) r) (path_of_lem 3 _ refl h p)
    form_of (except! h l r p) = two_of 4 _ _ h refl refl (path_before (left q e) l) (path_before (right q e) r) (path_of_lem 4 _ refl h p)
    form_of (filter! h l r p) = two_of 5 _ _ h refl refl (path_before (left q e) l) (expr_before (right q e) r) (path_of_lem 5 _ refl h p)
    form_of (variable! h p) = none_of 6 0 h refl refl (path_of_lem 6 _ refl h p)
    form_of (root! h l p) = one_of 7 _ h refl refl (path_before (left q e) l) (path_of_lem 7 _ refl h p)
    form_of (exists! h l p) = one_of 8 _ h refl refl (path_before (left q e) l) (expr_of_lem 8 _ refl h p)
    form_of (negate! h l p) = one_of 9 _ h refl refl (expr_before (left q e) l) (expr_of_lem 9 _ refl h p)
    form_of (both! h l r p) = two_of 10 _ _ h refl refl (expr_before (left q e) l) (expr_before (right q e) r) (expr_of_lem 10 _ refl h p)
    form_of (either! h l r p) = two_of 11 _ _ h refl refl (expr_before (left q e) l) (expr_before (right q e) r) (expr_of_lem 11 _ refl h p)
    form_of (is! h p) = none_of 12 0 h refl refl (expr_of_lem 12 _ refl h p)
    form_of (closure! h l p) = one_of 13 _ h refl refl (path_before (left q e) l) (path_of_lem 13 _ refl h p)
    form_of (same! h l r p) = two_of 14 _ _ h refl refl (path_before (left q e) l) (path_before (right q e) r) (expr_of_lem 14 _ refl h p)

  pub form : Formed q → (e : ℕ) → e < entries_of q → Form q e
  form ok e l = form_of e (read q ok e l)
