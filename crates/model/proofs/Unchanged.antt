-- Where no document node is stored, no step has the test node() and no entry is a star or `same`, services reply as before; and where no
-- document node is stored, every path has the pairs that it had with the star for node().
use Prim.Native.Nat.{ℕ, zero, suc, ◌<◌}
use native.Mathlib.Nat.{eq-or-lt_of_le}
use native.Mathlib.Omega.{arith}
use mathlib.Core.Path.{◌≡◌, refl, sym, ap, ◌∙◌, fun_ext}
use mathlib.Core.Logic.{⊎_elim}
use mathlib.Core.Bool.{Bool, true, false, ◌&&◌, ◌||◌, cond, or_comm}
use mathlib.Core.List.{List, [], ◌∷◌, ◌++◌}
use lib.Dec.{ltb, eqb}
use lib.ListN.{get_or}
use borrow.Author.Tests.{ne_eqb, eqb-true, lt-ltb, ltb-true}
use Rattle.model.specs.Sets.{turn}
use Rattle.model.specs.Tree.{Tree, size_of, tree_of}
use Rattle.model.specs.Axes.{axis, passes, steps}
use Rattle.model.specs.Syntax.{Path, NodeExpr}
use Rattle.model.specs.Syntax.Path.{step, compose, union, intersect, except, filter, variable, from_root, closure}
use Rattle.model.specs.Syntax.NodeExpr.{exists, negate, both, either, is, same}
use Rattle.model.specs.Meaning.{pairs_over, holds_over}
use Rattle.model.specs.QueryTable.{Parsed, of_expr, kind, left, tag, entry, entries_of, parse, parse_over, grow, parsed, parsed_at, path_at, last_of}
use Rattle.model.specs.Results.{assigned, related, image_bytes, pairs_bytes}
use Rattle.model.specs.Answers.{satisfied, answers}
use Rattle.model.specs.Refusals.{refuse_at}
use Rattle.model.specs.Checks.{bad_tag, bad_kind, bad_field, bad_entry, tree_checks_at, tree_checks, query_checks, table_checks, image_checks, pairs_checks, page_checks}
use Rattle.model.specs.Services.{page_outcome}
use Rattle.model.specs.Encoding.{Term, path_term, expr_term, size, table_of, columns, columns_of}
use Rattle.model.specs.Before.{passes_before, steps_before, bad_tag_before, bad_kind_before, bad_field_before, instead, inputs_of, inputs_before, replies_of, replies_over, NoDocument, NoNodeTest, OldKinds}
use Rattle.model.proofs.Booleans.{Seen, seen, bool_ext}
use Rattle.model.proofs.Booleans.Seen.{yes!, no! }
use Rattle.model.proofs.Encoding.{table_back}

-- paths with the star for node(), as '.', '..' and '//' had it before

abbrev pub star_for : ℕ → ℕ
star_for name = cond (eqb name 65534) 65535 name

unfoldable mutual
  pub starred : Path → Path
  starred (step a name) = step a (star_for name)
  starred (compose p q) = compose (starred p) (starred q)
  starred (union p q) = union (starred p) (starred q)
  starred (intersect p q) = intersect (starred p) (starred q)
  starred (except p q) = except (starred p) (starred q)
  starred (filter p e) = filter (starred p) (starred_in e)
  starred (variable k) = variable k
  starred (from_root p) = from_root (starred p)
  starred (closure p) = closure (starred p)

  pub starred_in : NodeExpr → NodeExpr
  starred_in (exists p) = exists (starred p)
  starred_in (negate e) = negate (starred_in e)
  starred_in (both e f) = both (starred_in e) (starred_in f)
  starred_in (either e f) = either (starred_in e) (starred_in f)
  starred_in (is k) = is k
  starred_in (same p q) = same (starred p) (starred q)

-- they have as many entries and variables

abbrev retagged : Term → Term
retagged (Term.leaf k l g) = Term.leaf k l (star_for g)
retagged (Term.unary k a) = Term.unary k (retagged a)
retagged (Term.binary k a b) = Term.binary k (retagged a) (retagged b)

mutual
  unfolding starred starred_in path_term expr_term

  path_retagged : (p : Path) → path_term (starred p) ≡ retagged (path_term p)
  path_retagged (step a name) = refl
  path_retagged (compose p q) = rw (path_retagged p, path_retagged q)
  path_retagged (union p q) = rw (path_retagged p, path_retagged q)
  path_retagged (intersect p q) = rw (path_retagged p, path_retagged q)
  path_retagged (except p q) = rw (path_retagged p, path_retagged q)
  path_retagged (filter p e) = rw (path_retagged p, expr_retagged e)
  path_retagged (variable k) = refl
  path_retagged (from_root p) = rw (path_retagged p)
  path_retagged (closure p) = rw (path_retagged p)

  expr_retagged : (e : NodeExpr) → expr_term (starred_in e) ≡ retagged (expr_term e)
  expr_retagged (exists p) = rw (path_retagged p)
  expr_retagged (negate e) = rw (expr_retagged e)
  expr_retagged (both e f) = rw (expr_retagged e, expr_retagged f)
  expr_retagged (either e f) = rw (expr_retagged e, expr_retagged f)
  expr_retagged (is k) = refl
  expr_retagged (same p q) = rw (path_retagged p, path_retagged q)

retagged_size : (a : Term) → size (retagged a) ≡ size a
unfolding size
retagged_size (Term.leaf k l g) = refl
retagged_size (Term.unary k a) = rw (retagged_size a)
retagged_size (Term.binary k a b) = rw (retagged_size a, retagged_size b)

retagged_columns : (a : Term) → columns (retagged a) ≡ columns a
unfolding columns
retagged_columns (Term.leaf k l g) = refl
retagged_columns (Term.unary k a) = retagged_columns a
retagged_columns (Term.binary k a b) = rw (retagged_columns a, retagged_columns b)

pub starred_size : (p : Path) → size (path_term (starred p)) ≡ size (path_term p)
starred_size p = ap size (path_retagged p) ∙ retagged_size (path_term p)

pub starred_columns : (p : Path) → columns_of (starred p) ≡ columns_of p
starred_columns p = ap columns (path_retagged p) ∙ retagged_columns (path_term p)

-- the meaning, over a tree without a document node

module _ (t : Tree) (h : NoDocument t) where
  -- node() passes what the star passed, and the star and the names pass what they did
  passes_starred : (name y : ℕ) → passes_before t (star_for name) y ≡ passes t name y
  unfolding passes
  passes_starred name y = go (seen (eqb name 65534))
    where
      plain : (a b : Bool) → (a || b) ≡ ((a && true) || b)
      plain true b = refl
      plain false b = refl

      go : Seen (eqb name 65534) → passes_before t (star_for name) y ≡ passes t name y
      go (yes! p) = rw p
      go (no! p) = rw (p, ne_eqb (t.tag y) 65534 (h y)) (plain (eqb name 65535) (eqb (t.tag y) name))

  steps_starred : (a name x y : ℕ) → steps_before t a (star_for name) x y ≡ steps t a name x y
  unfolding steps
  steps_starred a name x y = ap (λ (b : Bool). axis t a x y && b) (passes_starred name y)

  module _ (g : ℕ → ℕ) where
    abbrev old : Path → ℕ → ℕ → Bool
    old p = pairs_over t.size (steps_before t) g p

    abbrev old_at : NodeExpr → ℕ → Bool
    old_at e = holds_over t.size (steps_before t) g e

    abbrev new : Path → ℕ → ℕ → Bool
    new p = pairs_over t.size (steps t) g p

    abbrev new_at : NodeExpr → ℕ → Bool
    new_at e = holds_over t.size (steps t) g e

    mutual
      unfolding pairs_over holds_over starred starred_in

      -- for every path: its pairs are those that it had with the star for node()
      pub pairs_starred : (p : Path) → old (starred p) ≡ new p
      pairs_starred (step a name) = fun_ext (λ x. fun_ext (λ y. steps_starred a name x y))
      pairs_starred (compose p q) = fun_ext (λ x. fun_ext (λ y. rw (pairs_starred p, pairs_starred q)))
      pairs_starred (union p q) = fun_ext (λ x. fun_ext (λ y. rw (pairs_starred p, pairs_starred q)))
      pairs_starred (intersect p q) = fun_ext (λ x. fun_ext (λ y. rw (pairs_starred p, pairs_starred q)))
      pairs_starred (except p q) = fun_ext (λ x. fun_ext (λ y. rw (pairs_starred p, pairs_starred q)))
      pairs_starred (filter p e) = fun_ext (λ x. fun_ext (λ y. rw (pairs_starred p, holds_starred e)))
      pairs_starred (variable k) = refl
      pairs_starred (from_root p) = fun_ext (λ x. fun_ext (λ y. rw (pairs_starred p)))
      pairs_starred (closure p) = fun_ext (λ x. fun_ext (λ y. rw (pairs_starred p)))

      holds_starred : (e : NodeExpr) → old_at (starred_in e) ≡ new_at e
      holds_starred (exists p) = fun_ext (λ x. rw (pairs_starred p))
      holds_starred (negate e) = fun_ext (λ x. rw (holds_starred e))
      holds_starred (both e f) = fun_ext (λ x. rw (holds_starred e, holds_starred f))
      holds_starred (either e f) = fun_ext (λ x. rw (holds_starred e, holds_starred f))
      holds_starred (is k) = refl
      holds_starred (same p q) = fun_ext (λ x. rw (pairs_starred p, pairs_starred q))

-- a query without the test node() is read as a path that the star changes nothing in

abbrev Plain : Parsed → Type 0
Plain r = (starred r.path ≡ r.path) × (starred_in r.expr ≡ r.expr)

plain_none : (k : ℕ) → Plain (of_expr (is k))
unfolding starred starred_in
plain_none k = (refl, refl)

plain_parse : (k l name : ℕ) (a b : Parsed) → (k ≡ 0 → name ≡ 65534 → ⊥) → Plain a → Plain b → Plain (parse k l name a b)
unfolding parse starred starred_in
plain_parse zero l name a b h u v = (rw (ne_eqb name 65534 (h refl)) refl, refl)
plain_parse (suc zero) l name a b h u v = (rw (u.0, v.0) refl, refl)
plain_parse (suc (suc zero)) l name a b h u v = (rw (u.0, v.0) refl, refl)
plain_parse (suc (suc (suc zero))) l name a b h u v = (rw (u.0, v.0) refl, refl)
plain_parse (suc (suc (suc (suc zero)))) l name a b h u v = (rw (u.0, v.0) refl, refl)
plain_parse (suc (suc (suc (suc (suc zero))))) l name a b h u v = (rw (u.0, v.1) refl, refl)
plain_parse (suc (suc (suc (suc (suc (suc zero)))))) l name a b h u v = (refl, refl)
plain_parse (suc (suc (suc (suc (suc (suc (suc zero))))))) l name a b h u v = (rw u.0 refl, refl)
plain_parse (suc (suc (suc (suc (suc (suc (suc (suc zero)))))))) l name a b h u v = (refl, rw u.0 refl)
plain_parse (suc (suc (suc (suc (suc (suc (suc (suc (suc zero))))))))) l name a b h u v = (refl, rw u.1 refl)
plain_parse (suc (suc (suc (suc (suc (suc (suc (suc (suc (suc zero)))))))))) l name a b h u v = (refl, rw (u.1, v.1) refl)
plain_parse (suc (suc (suc (suc (suc (suc (suc (suc (suc (suc (suc zero))))))))))) l name a b h u v = (refl, rw (u.1, v.1) refl)
plain_parse (suc (suc (suc (suc (suc (suc (suc (suc (suc (suc (suc (suc zero)))))))))))) l name a b h u v = (refl, refl)
plain_parse (suc (suc (suc (suc (suc (suc (suc (suc (suc (suc (suc (suc (suc zero))))))))))))) l name a b h u v = (rw u.0 refl, refl)
plain_parse (suc (suc (suc (suc (suc (suc (suc (suc (suc (suc (suc (suc (suc (suc zero)))))))))))))) l name a b h u v = (refl, rw (u.0, v.0) refl)
plain_parse (suc (suc (suc (suc (suc (suc (suc (suc (suc (suc (suc (suc (suc (suc (suc k))))))))))))))) l name a b h u v = (refl, refl)

module _ (q : List ℕ) (h : NoNodeTest q) where
  abbrev AllPlain : List Parsed → Type 0
  AllPlain es = (i : ℕ) → Plain (get_or es i (of_expr (is 0)))

  plain_over : (e : ℕ) (es : List Parsed) → AllPlain es → Plain (parse_over q e es)
  unfolding parse_over
  plain_over e es w = plain_parse (kind q e) (left q e) (tag q e) _ _ (h e) (w _) (w _)

  plain_grown : (r : Parsed) (es : List Parsed) → Plain r → AllPlain es → AllPlain (es ++ (r ∷ []))
  plain_grown r [] u w zero = u
  plain_grown r [] u w (suc i) = plain_none 0
  plain_grown r (e ∷ es) u w zero = w zero
  plain_grown r (e ∷ es) u w (suc i) = plain_grown r es u (λ j. w (suc j)) i

  plain_parsed : (k : ℕ) → AllPlain (parsed q k)
  unfolding parsed grow
  plain_parsed zero i = plain_none 0
  plain_parsed (suc k) i = plain_grown (parse_over q k (parsed q k)) (parsed q k) (plain_over k (parsed q k) (plain_parsed k)) (plain_parsed k) i

  plain_at : (e : ℕ) → starred (path_at q e) ≡ path_at q e
  unfolding parsed_at
  plain_at e = (plain_over e (parsed q e) (plain_parsed e)).0

-- what a service takes from its tables

tags_same : (t : Tree) → NoDocument t → bad_tag_before t ≡ bad_tag t
tags_same t h = fun_ext (λ x. rw (ne_eqb (t.tag x) 65534 (h x)) (plain (ltb 65533 (t.tag x)) (ltb 0 x)))
  where
    plain : (a b : Bool) → a ≡ (a && (b || true))
    plain true true = refl
    plain true false = refl
    plain false b = refl

fields_same : (q : List ℕ) → NoNodeTest q → (columns e : ℕ) → bad_field_before columns (entry q e) ≡ bad_field columns (entry q e)
fields_same q h columns e = go (seen (eqb (kind q e) 0))
  where
    go : Seen (eqb (kind q e) 0) → bad_field_before columns (entry q e) ≡ bad_field columns (entry q e)
    go (yes! p) = rw (p, ne_eqb (tag q e) 65534 (h e (eqb-true (kind q e) 0 p)), or_comm (ltb 12 (left q e)) false) refl
    go (no! p) = rw p refl

kinds_same : (q : List ℕ) → OldKinds q → (e : ℕ) → bad_kind_before (entry q e) ≡ bad_kind (entry q e)
kinds_same q h e = bool_ext (ltb 12 (kind q e)) (ltb 14 (kind q e))
    (λ p. lt-ltb 14 (kind q e) (above (ltb-true 12 (kind q e) p)))
    (λ p. lt-ltb 12 (kind q e) (let m : 14 < kind q e = ltb-true 14 (kind q e) p in omega arith))
  where
    above : 12 < kind q e → 14 < kind q e
    above m = ⊎_elim (λ p. absurd ((h e).0 (sym p))) (λ m. ⊎_elim (λ p. absurd ((h e).1 (sym p))) (λ m. m) (eq-or-lt_of_le m)) (eq-or-lt_of_le m)

-- what the text of specs/Before.antt says of services, over what they take from their tables today, is what their definitions say
pub published : (t q : List ℕ) → replies_over (inputs_of t q) ≡ replies_of t q
unfolding page_outcome image_checks pairs_checks page_checks table_checks image_bytes pairs_bytes answers satisfied
published t q = refl

module _ (t q : List ℕ) (h : NoDocument (tree_of t)) where
  tree_same : instead (refuse_at 7 (size_of t) (bad_tag_before (tree_of t))) (tree_checks t) ≡ tree_checks t
  unfolding tree_checks_at instead
  tree_same = rw (tags_same (tree_of t) h) refl

  module _ (k : NoNodeTest q) (o : OldKinds q) where
    query_same : (least columns : ℕ)
        → instead (refuse_at 10 (entries_of q) (λ e. bad_kind_before (entry q e))) (instead (refuse_at 11 (entries_of q) (λ e. bad_field_before columns (entry q e))) (query_checks q least columns))
        ≡ query_checks q least columns
    unfolding query_checks instead
    query_same least columns =
        let c : (λ e. bad_kind_before (entry q e)) ≡ bad_entry q columns 10 = fun_ext (λ e. unfold bad_entry in kinds_same q o e) in
        let e : (λ e. bad_field_before columns (entry q e)) ≡ bad_entry q columns 11 = fun_ext (λ e. unfold bad_entry in fields_same q k columns e) in
        rw (c, e) refl

    relation_same : (nodes : List ℕ) (back : Bool) → turn back (pairs_over (size_of t) (steps_before (tree_of t)) (assigned nodes) (path_at q (last_of q))) ≡ related t q nodes (last_of q) back
    unfolding related
    relation_same nodes back =
        ap (turn back) (ap (pairs_over (size_of t) (steps_before (tree_of t)) (assigned nodes)) (sym (plain_at q k (last_of q))) ∙ pairs_starred (tree_of t) h (assigned nodes) (path_at q (last_of q)))

    -- all that a service takes from the two tables is what it took before
    pub inputs_same : inputs_before t q ≡ inputs_of t q
    inputs_same = λ i. record {
      table = t;
      tree = tree_same i;
      query = λ least columns. query_same least columns i;
      relation = λ nodes back. relation_same nodes back i;
    }

    -- for the reader: on a tree without a document node, and for a query without the test node(), star and `same`, every service that is
    -- lent a query replies, and leaves what it is lent, as before
    pub replies_as_before : replies_over (inputs_before t q) ≡ replies_of t q
    replies_as_before = ap replies_over inputs_same ∙ published t q

-- on a tree without a document node, the table of a path has the pairs that the table with the star for node() had before
pub table_as_before : (t : List ℕ) → NoDocument (tree_of t) → (p : Path) (nodes : List ℕ) (back : Bool)
    → (inputs_before t (table_of (starred p))).relation nodes back ≡ related t (table_of p) nodes (last_of (table_of p)) back
unfolding related
table_as_before t h p nodes back =
    ap (turn back)
    (ap (pairs_over (size_of t) (steps_before (tree_of t)) (assigned nodes)) (table_back (starred p)) ∙ pairs_starred (tree_of t) h (assigned nodes) p
    ∙ ap (pairs_over (size_of t) (steps (tree_of t)) (assigned nodes)) (sym (table_back p)))
