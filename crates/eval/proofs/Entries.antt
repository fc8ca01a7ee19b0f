-- What an entry of each kind comes to, from what its operands come to.
use Prim.Native.Nat.{ℕ, ◌+◌, ◌-◌, ◌≤◌, ◌<◌}
use native.Mathlib.Nat.{eq-or-lt_of_le}
use native.Mathlib.Omega.{arith}
use mathlib.Core.Path.{◌≡◌, refl, sym, ap, ◌∙◌}
use mathlib.Core.Logic.{◌⊎◌, inl, inr, ⊎_elim}
use mathlib.Core.Bool.{Bool, true, false, cond, ◌&&◌, and_comm, and-false, or_comm}
use mathlib.Core.List.{List}
use lib.ListN.{get_or}
use lib.Dec.{ltb}
use borrow.Author.Tests.{le-ltb}
use Rattle.model.specs.declared.Entry.{Entry}
use Rattle.model.specs.declared.kind.Kind.{Kind}
use Rattle.model.specs.declared.kind.Kind.TheVariants.{And, Or}
use Rattle.model.specs.Numbers.{kind_number}
use Rattle.model.specs.Sets.{any, tab, ones, memb, upto, turn, closed, image}
use Rattle.model.specs.Tree.{tree_of, size_of}
use Rattle.model.specs.Axes.{steps}
use Rattle.model.specs.Syntax.{Path, NodeExpr}
use Rattle.model.specs.Syntax.Path.{step, compose, filter, from_root, closure}
use Rattle.model.specs.Syntax.NodeExpr.{exists, negate, both, either, is, same}
use Rattle.model.specs.Meaning.{pairs_over, holds_over, pairs, holds}
use Rattle.model.specs.QueryTable.{kind, left, right, tag, entry, entries_of, path_at, expr_at}
use Rattle.model.specs.Kinds.{left_path, left_expr, right_path, right_expr, names_variable}
use Rattle.model.specs.Results.{assigned, related}
use Rattle.model.proofs.Exists.{any_cong, any_next, and_any}
use Rattle.model.proofs.Bytes.{tab_cong, memb_yes, memb_no, memb_tab}
use Rattle.model.proofs.Counts.{ones_bytes, ones_one}
use Rattle.model.proofs.QueryTable.{at_step, at_compose, at_union, at_intersect, at_except, at_filter, at_variable, at_root, at_exists, at_negate, at_both, at_either, at_is, at_closure, at_same}
use Rattle.model.proofs.Closure.{closed_turn}
use Rattle.sets.specs.declared.Operation.{Operation}
use Rattle.sets.specs.NodeSets.{always, only, operation_number, combine, combination}
use Rattle.sets.proofs.Images.{memb_upto, upto_cong, only_upto, combine_upto, trim_upto, image_cong, image_from, image_turned, image_compose, image_or, image_keep, image_kept, image_all, image_one}
use Rattle.eval.specs.Evaluation.{Ready, passing, passed, reached, row, joined, operation_of, ending}
use Rattle.model.proofs.KindTests.{path_on_left, path_on_right}
use Rattle.eval.proofs.Calls.{left_path_lem, right_path_lem, left_expr_lem, right_expr_lem, variable_small}

-- pairs that end in a set

module _ (n : ℕ) (le : n ≤ 256) (back : Bool) (s to o : List ℕ) where
  pub ending_back : (h : Bool) (m : List ℕ) → o ≡ tab 256 (upto n (always h)) → h ≡ any n (memb m) → m ≡ tab 256 (combination 1 s to) → back ≡ true → o ≡ tab 256 (image n (turn back (ending to)) (memb s))
  unfolding image combination combine
  ending_back h m p q r b = rw b (p ∙ upto_cong n le _ _ (λ y l. q ∙ rw r (any_cong n _ _ (λ x k. memb_tab 256 (λ k. memb s k && memb to k) x (omega arith)))))

  -- no node to start from
  pub ending_none : o ≡ tab 256 (upto 0 (always true)) → (h : Bool) → h ≡ any n (memb s) → h ≡ false → back ≡ false → o ≡ tab 256 (image n (turn back (ending to)) (memb s))
  unfolding image upto
  ending_none p h q t b = rw b (p ∙ tab_cong 256 _ _ (λ y l. rw (le-ltb y 0 (omega arith)) (sym (ap (λ (z : Bool). ltb y n && z) (sym (and_any n (memb s) (memb to y)) ∙ rw (sym q ∙ t)) ∙ and-false (ltb y n)))))

  -- some node: the set itself
  module _ (m : List ℕ) (p : o ≡ tab 256 (combination 1 m to)) (q : m ≡ tab 256 (upto n (always true))) where
    pub ending_some : (h : Bool) → h ≡ any n (memb s) → h ≡ true → back ≡ false → o ≡ tab 256 (image n (turn back (ending to)) (memb s))
    unfolding image
    ending_some h r t b = rw b (p ∙ rw q (trim_upto n le (always true) to ∙ upto_cong n le _ _ (λ y l. sym (sym (and_any n (memb s) (memb to y)) ∙ rw (sym r ∙ t)))))

    pub ending_count : (k : ℕ) → k ≡ ones to → to ≡ tab 256 (upto n (memb to)) → k ≡ ones o
    ending_count k c below = c ∙ ap ones (below ∙ sym (p ∙ rw q (trim_upto n le (always true) to)))

-- an entry by what it is read as

pub small : {t v q nodes : List ℕ} → Ready t v q nodes → size_of t ≤ 256
small ok = ok.linked.tree.sound.at_most

-- the relation of the path at entry l
abbrev rel : List ℕ → List ℕ → List ℕ → ℕ → ℕ → ℕ → Bool
rel t q nodes l = pairs (tree_of t) (assigned nodes) (path_at q l)

module _ (t q nodes : List ℕ) (e : ℕ) where
  as_path : (b : Bool) (s : List ℕ) (p : Path) → path_at q e ≡ p → tab 256 (image (size_of t) (turn b (pairs (tree_of t) (assigned nodes) p)) (memb s)) ≡ reached t q nodes e b s
  unfolding reached related
  as_path b s p h = rw h

  as_expr : (p : NodeExpr) → expr_at q e ≡ p → tab 256 (upto (size_of t) (holds (tree_of t) (assigned nodes) p)) ≡ passed t q nodes e
  unfolding passed passing
  as_expr p h = rw h

module _ {t v q nodes : List ℕ} {e : ℕ} {f : Entry} (fe : f ≡ entry q e) (ok : Ready t v q nodes) (em : e < entries_of q) where
  pub path_left : left_path f.kind ≡ true → left q e < e
  path_left h = rw fe at (left_path_lem fe ok em h).lower

  path_right : right_path f.kind ≡ true → right q e < e
  path_right h = rw fe at (right_path_lem fe ok em h).lower

  pub expr_left : left_expr f.kind ≡ true → left q e < e
  expr_left h = rw fe at (left_expr_lem fe ok em h).lower

  pub expr_right : right_expr f.kind ≡ true → right q e < e
  expr_right h = rw fe at (right_expr_lem fe ok em h).lower

  -- paths

  pub did_step : (b : Bool) (a : ℕ) (s o : List ℕ) → o ≡ tab 256 (image (size_of t) (turn b (steps (tree_of t) a f.tag)) (memb s)) → a ≡ f.left → f.kind ≡ 0 → o ≡ reached t q nodes e b s
  unfolding pairs_over
  did_step b a s o p l h = p ∙ rw (l, fe) (as_path t q nodes e b s (step (left q e) (tag q e)) (at_step q e (rw fe at h)))

  pub is_compose : f.kind ≡ 1 → path_at q e ≡ compose (path_at q f.left) (path_at q f.right)
  unfolding left_path right_path
  is_compose h = rw fe (at_compose q e (rw fe at h) (path_left (rw h)) (path_right (rw h)))

  pub did_compose : (b : Bool) (i j : ℕ) (s m o : List ℕ) → o ≡ reached t q nodes j b m → m ≡ reached t q nodes i b s → j ≡ cond b f.left f.right → i ≡ cond b f.right f.left → f.kind ≡ 1 → o ≡ reached t q nodes e b s
  unfolding reached related pairs_over
  did_compose true i j s m o p a cj ci h =
      p ∙ rw (a, cj, ci) (image_compose (size_of t) (small ok) (λ x y. rel t q nodes f.right y x) (λ x y. rel t q nodes f.left y x) (memb s)
      ∙ image_cong (size_of t) (small ok) _ _ (memb s) (λ x y lx ly. any_cong (size_of t) _ _ (λ z l. and_comm (rel t q nodes f.right z x) (rel t q nodes f.left y z)))
      ∙ as_path t q nodes e true s (compose (path_at q f.left) (path_at q f.right)) (is_compose h))
  did_compose false i j s m o p a cj ci h =
      p ∙ rw (a, cj, ci) (image_compose (size_of t) (small ok) (rel t q nodes f.left) (rel t q nodes f.right) (memb s)
      ∙ as_path t q nodes e false s (compose (path_at q f.left) (path_at q f.right)) (is_compose h))

  pub is_filter : f.kind ≡ 5 → path_at q e ≡ filter (path_at q f.left) (expr_at q f.right)
  unfolding left_path right_expr
  is_filter h = rw fe (at_filter q e (rw fe at h) (path_left (rw h)) (expr_right (rw h)))

  pub did_filter : (b : Bool) (s m n o : List ℕ) → o ≡ tab 256 (combination 1 m n) → m ≡ reached t q nodes f.left b s → n ≡ passed t q nodes f.right → b ≡ false → f.kind ≡ 5 → o ≡ reached t q nodes e b s
  unfolding reached related passed passing pairs_over
  did_filter b s m n o p a c z h =
      p ∙ rw (a, c, z) (image_keep (size_of t) (small ok) _ _ (memb s) ∙ as_path t q nodes e false s (filter (path_at q f.left) (expr_at q f.right)) (is_filter h))

  pub did_filter_back : (b : Bool) (s m n o : List ℕ) → o ≡ reached t q nodes f.left b m → m ≡ tab 256 (combination 1 s n) → n ≡ passed t q nodes f.right → b ≡ true → f.kind ≡ 5 → o ≡ reached t q nodes e b s
  unfolding reached related passed passing pairs_over
  did_filter_back b s m n o p a c z h =
      p ∙ rw (a, c, z) (image_kept (size_of t) (small ok) _ _ s ∙ as_path t q nodes e true s (filter (path_at q f.left) (expr_at q f.right)) (is_filter h))

-- union, intersect, except

module _ {t v q nodes : List ℕ} {e : ℕ} (ok : Ready t v q nodes) (em : e < entries_of q) where
  pub is_joined : (b : Bool) (x y : ℕ) → 2 ≤ kind q e → kind q e ≤ 4 → related t q nodes e b x y ≡ combine (kind q e - 2) (related t q nodes (left q e) b x y) (related t q nodes (right q e) b x y)
  unfolding related pairs_over combine
  is_joined b x y l h = turned b
    where
      left_lower : left q e < e
      left_lower = (ok.query.formed.left_path_lem e em (path_on_left (omega arith) (omega arith))).0

      right_lower : right q e < e
      right_lower = (ok.query.formed.right_path_lem e em (path_on_right (omega arith) (omega arith))).0

      cases : (k : ℕ) → 2 ≤ k → k ≤ 4 → (k ≡ 2) ⊎ ((k ≡ 3) ⊎ (k ≡ 4))
      cases k l h = ⊎_elim (λ e. inl (sym e)) (λ m. inr (⊎_elim (λ e. inl (sym e)) (λ m. inr (omega arith)) (eq-or-lt_of_le m))) (eq-or-lt_of_le l)

      at : (x y : ℕ) → (kind q e ≡ 2) ⊎ ((kind q e ≡ 3) ⊎ (kind q e ≡ 4)) → related t q nodes e false x y ≡ combine (kind q e - 2) (related t q nodes (left q e) false x y) (related t q nodes (right q e) false x y)
      at x y (inl k) = rw (at_union q e k left_lower right_lower, k)
      at x y (inr (inl k)) = rw (at_intersect q e k left_lower right_lower, k)
      at x y (inr (inr k)) = rw (at_except q e k left_lower right_lower, k)

      turned : (b : Bool) → related t q nodes e b x y ≡ combine (kind q e - 2) (related t q nodes (left q e) b x y) (related t q nodes (right q e) b x y)
      turned true = at y x (cases (kind q e) l h)
      turned false = at x y (cases (kind q e) l h)

  -- a union, from any set
  joined_union : (b : Bool) (s : List ℕ) → kind q e ≡ 2 → joined t q nodes e b s ≡ reached t q nodes e b s
  unfolding joined reached combine
  joined_union b s h = rw h (image_or (size_of t) (small ok) (related t q nodes (left q e) b) (related t q nodes (right q e) b) (memb s)
      ∙ image_cong (size_of t) (small ok) _ (related t q nodes e b) (memb s) (λ x y lx ly. sym (rw h at (is_joined b x y (omega arith) (omega arith)))))

  -- each of them, from one node
  joined_one : (b : Bool) (x : ℕ) → x < size_of t → 2 ≤ kind q e → kind q e ≤ 4 → joined t q nodes e b (tab 256 (only x)) ≡ row t q nodes e b x
  unfolding joined reached row
  joined_one b x i l h =
      rw (image_one (size_of t) (small ok) (related t q nodes (left q e) b) x i, image_one (size_of t) (small ok) (related t q nodes (right q e) b) x i)
      (combine_upto (size_of t) (small ok) (kind q e - 2) (related t q nodes (left q e) b x) (related t q nodes (right q e) b x)
      ∙ upto_cong (size_of t) (small ok) _ (related t q nodes e b x) (λ y k. sym (is_joined b x y l h)))

-- what the start nodes below x reach, for the loop over them

unfoldable pub part : List ℕ → List ℕ → List ℕ → ℕ → Bool → List ℕ → ℕ → List ℕ
part t q nodes e b s x = tab 256 (upto (size_of t) (λ y. any x (λ z. memb s z && related t q nodes e b z y)))

module _ {t v q nodes : List ℕ} (ok : Ready t v q nodes) (e : ℕ) (b : Bool) (s : List ℕ) where
  pub rows_start : (a : List ℕ) → a ≡ tab 256 (upto 0 (always true)) → a ≡ part t q nodes e b s 0
  unfolding part upto any
  rows_start a p = p ∙ tab_cong 256 _ _ (λ k l. rw (le-ltb k 0 (omega arith)) (sym (and-false (ltb k (size_of t)))))

  pub rows_skip : (a : List ℕ) (x : ℕ) → a ≡ part t q nodes e b s x → get_or s x 0 ≡ 0 → a ≡ part t q nodes e b s (x + 1)
  unfolding part
  rows_skip a x p h = p ∙ upto_cong (size_of t) (small ok) _ _ (λ y l. sym (sym (any_next x (λ z. memb s z && related t q nodes e b z y) _ refl) ∙ rw (memb_no s x h)))

  pub rows_more : (a w i o : List ℕ) (x : ℕ) → o ≡ tab 256 (combination 0 a w) → a ≡ part t q nodes e b s x → w ≡ joined t q nodes e b i → i ≡ tab 256 (only x) → (get_or s x 0 ≡ 0 → ⊥) → x < size_of t → e < entries_of q → 3 ≤ kind q e → kind q e ≤ 4 → o ≡ part t q nodes e b s (x + 1)
  unfolding part row combine
  rows_more a w i o x p c d z h lx em l m = p ∙ rw (c, d, z, joined_one ok em b x lx (omega arith) m) (combine_upto (size_of t) (small ok) 0 _ _
      ∙ upto_cong (size_of t) (small ok) _ _ (λ y l. or_comm (any x (λ z. memb s z && related t q nodes e b z y)) (related t q nodes e b x y) ∙ sym (sym (any_next x (λ z. memb s z && related t q nodes e b z y) _ refl) ∙ rw (memb_yes s x h))))

  pub rows_end : (a : List ℕ) (x : ℕ) → a ≡ part t q nodes e b s x → x ≤ size_of t → size_of t ≤ x → a ≡ reached t q nodes e b s
  unfolding part reached image
  rows_end a x p l h = p ∙ ap (λ (k : ℕ). part t q nodes e b s k) (let g : x ≡ size_of t = omega arith in g)

-- the row of a node holds no number that is no node
pub row_below : {t v q nodes : List ℕ} → Ready t v q nodes → (e : ℕ) (b : Bool) (x : ℕ) (o : List ℕ) → o ≡ row t q nodes e b x → o ≡ tab 256 (upto (size_of t) (memb o))
unfolding row
row_below {t} {v} {q} {nodes} ok e b x o p =
    p ∙ upto_cong (size_of t) (small ok) _ (memb o) (λ i l. sym (ap (λ (z : List ℕ). memb z i) p ∙ memb_upto (size_of t) (small ok) (related t q nodes e b x) i l))

pub rows_count : (t q nodes : List ℕ) (e : ℕ) (b : Bool) (s a : List ℕ) (x k : ℕ) → k ≡ ones (tab 256 (memb a)) → a ≡ part t q nodes e b s x → k ≡ ones a
unfolding part
rows_count t q nodes e b s a x k p h = ones_bytes _ a k p h

module _ {t v q nodes : List ℕ} {e : ℕ} {f : Entry} (fe : f ≡ entry q e) (ok : Ready t v q nodes) (em : e < entries_of q) where
  pub did_operands : (b : Bool) (op : ℕ) (s m n o : List ℕ) → o ≡ tab 256 (combination op m n) → m ≡ reached t q nodes f.left b s → n ≡ reached t q nodes f.right b s → op ≡ f.kind - 2 → o ≡ joined t q nodes e b s
  unfolding joined
  did_operands b op s m n o p a c z = p ∙ rw (a, c, z, fe)

  pub did_union : (b : Bool) (s o : List ℕ) → o ≡ joined t q nodes e b s → f.kind ≡ 2 → o ≡ reached t q nodes e b s
  did_union b s o p h = p ∙ joined_union ok em b s (rw fe at h)

  -- a variable, a path from the root

  pub variable_one : (o : List ℕ) → o ≡ tab 256 (only (assigned nodes f.left)) → names_variable f.kind ≡ true → 1 ≡ ones o
  variable_one o p h = ones_one 256 (assigned nodes f.left) o p (variable_small fe ok em h)

  pub did_variable : (o : List ℕ) → o ≡ tab 256 (only (assigned nodes f.left)) → assigned nodes f.left < size_of t → f.kind ≡ 6 → o ≡ row t q nodes e false 0
  unfolding row related pairs_over
  did_variable o p l h = p ∙ only_upto (size_of t) (small ok) (assigned nodes f.left) l ∙ rw (at_variable q e (rw fe at h), fe)

  pub is_root : f.kind ≡ 7 → path_at q e ≡ from_root (path_at q f.left)
  unfolding left_path
  is_root h = rw fe (at_root q e (rw fe at h) (path_left fe ok em (rw h)))

  pub did_root : (s o : List ℕ) → o ≡ reached t q nodes f.left false s → s ≡ tab 256 (only 0) → f.kind ≡ 7 → o ≡ row t q nodes e false 0
  unfolding row reached related pairs_over
  did_root s o p a h = p ∙ rw (a, is_root h) (image_one (size_of t) (small ok) _ 0 ok.linked.tree.sound.some_node)

  -- neither looks at the start node
  pub did_ending : (b : Bool) (s to o : List ℕ) → o ≡ tab 256 (image (size_of t) (turn b (ending to)) (memb s)) → to ≡ row t q nodes e false 0 → 6 ≤ f.kind → f.kind ≤ 7 → o ≡ reached t q nodes e b s
  unfolding row reached related pairs_over
  did_ending b s to o p a l h =
      p ∙ rw a (image_turned (size_of t) (small ok) b _ (rel t q nodes e) (memb s) (λ x y lx ly. memb_upto (size_of t) (small ok) (rel t q nodes e 0) y ly ∙ anywhere x y (eq-or-lt_of_le l)))
    where
      anywhere : (x y : ℕ) → (6 ≡ f.kind) ⊎ (6 < f.kind) → rel t q nodes e 0 y ≡ rel t q nodes e x y
      anywhere x y (inl k) = rw (at_variable q e (rw fe at (sym k)))
      anywhere x y (inr k) = rw (is_root (omega arith))

  -- node expressions

  pub did_exists : (m o : List ℕ) → o ≡ reached t q nodes f.left true m → m ≡ tab 256 (upto (size_of t) (always true)) → f.kind ≡ 8 → o ≡ passed t q nodes e
  unfolding reached related left_path holds_over
  did_exists m o p a h = p ∙ rw (a, fe) (image_all (size_of t) (small ok) _ ∙ as_expr t q nodes e (exists (path_at q (left q e))) (at_exists q e (rw fe at h) (path_left fe ok em (rw h))))

  pub did_negate : (m n o : List ℕ) → o ≡ tab 256 (combination 2 m n) → m ≡ tab 256 (upto (size_of t) (always true)) → n ≡ passed t q nodes f.left → f.kind ≡ 9 → o ≡ passed t q nodes e
  unfolding passed passing left_expr holds_over combine
  did_negate m n o p a c h = p ∙ rw (a, c, fe) (combine_upto (size_of t) (small ok) 2 (always true) _ ∙ as_expr t q nodes e (negate (expr_at q (left q e))) (at_negate q e (rw fe at h) (expr_left fe ok em (rw h))))

  did_both : (m n o : List ℕ) → o ≡ tab 256 (combination 1 m n) → m ≡ passed t q nodes f.left → n ≡ passed t q nodes f.right → f.kind ≡ 10 → o ≡ passed t q nodes e
  unfolding passed passing left_expr right_expr holds_over combine
  did_both m n o p a c h = p ∙ rw (a, c, fe) (combine_upto (size_of t) (small ok) 1 _ _ ∙ as_expr t q nodes e (both (expr_at q (left q e)) (expr_at q (right q e))) (at_both q e (rw fe at h) (expr_left fe ok em (rw h)) (expr_right fe ok em (rw h))))

  did_either : (m n o : List ℕ) → o ≡ tab 256 (combination 0 m n) → m ≡ passed t q nodes f.left → n ≡ passed t q nodes f.right → f.kind ≡ 11 → o ≡ passed t q nodes e
  unfolding passed passing left_expr right_expr holds_over combine
  did_either m n o p a c h = p ∙ rw (a, c, fe) (combine_upto (size_of t) (small ok) 0 _ _ ∙ as_expr t q nodes e (either (expr_at q (left q e)) (expr_at q (right q e))) (at_either q e (rw fe at h) (expr_left fe ok em (rw h)) (expr_right fe ok em (rw h))))

  pub did_joined : {k : Kind} {op : Operation} (m n o : List ℕ) → o ≡ tab 256 (combination (operation_number op) m n) → op ≡ operation_of k → kind_number k ≡ f.kind → (k ≡ And) ⊎ (k ≡ Or) → m ≡ passed t q nodes f.left → n ≡ passed t q nodes f.right → o ≡ passed t q nodes e
  did_joined m n o p z h (inl x) a c = did_both m n o (rw (z, x) at p) a c (sym h ∙ ap kind_number x)
  did_joined m n o p z h (inr x) a c = did_either m n o (rw (z, x) at p) a c (sym h ∙ ap kind_number x)

  pub did_is : (o : List ℕ) → o ≡ tab 256 (only (assigned nodes f.left)) → assigned nodes f.left < size_of t → f.kind ≡ 12 → o ≡ passed t q nodes e
  unfolding holds_over
  did_is o p l h = p ∙ only_upto (size_of t) (small ok) (assigned nodes f.left) l ∙ rw fe (as_expr t q nodes e (is (left q e)) (at_is q e (rw fe at h)))

-- stars, and the node expression on two paths

module _ {t v q nodes : List ℕ} {e : ℕ} {f : Entry} (fe : f ≡ entry q e) (ok : Ready t v q nodes) (em : e < entries_of q) where
  pub is_closure : f.kind ≡ 13 → path_at q e ≡ closure (path_at q f.left)
  unfolding left_path
  is_closure h = rw fe (at_closure q e (rw fe at h) (path_left fe ok em (rw h)))

  star_related : (b : Bool) (x y : ℕ) → f.kind ≡ 13 → closed (size_of t) (related t q nodes f.left b) x y ≡ related t q nodes e b x y
  unfolding related pairs_over
  star_related true x y h = closed_turn (rel t q nodes f.left) (size_of t) x y ∙ ap (λ (p : Path). pairs (tree_of t) (assigned nodes) p y x) (sym (is_closure h))
  star_related false x y h = ap (λ (p : Path). pairs (tree_of t) (assigned nodes) p x y) (sym (is_closure h))

  pub did_star : (b : Bool) (s a z all : List ℕ) → a ≡ tab 256 (image (size_of t) (closed (size_of t) (related t q nodes f.left b)) (memb z)) → z ≡ tab 256 (combination 1 all s) → all ≡ tab 256 (upto (size_of t) (always true)) → f.kind ≡ 13 → a ≡ reached t q nodes e b s
  unfolding reached
  did_star b s a z all p c d h =
      p ∙ image_from (size_of t) (small ok) (closed (size_of t) (related t q nodes f.left b)) (memb z) (memb s) (λ x l. ap (λ (u : List ℕ). memb u x) (c ∙ ap (λ (u : List ℕ). tab 256 (combination 1 u s)) d ∙ trim_upto (size_of t) (small ok) (always true) s) ∙ memb_upto (size_of t) (small ok) (λ k. true && memb s k) x l)
      ∙ image_cong (size_of t) (small ok) (closed (size_of t) (related t q nodes f.left b)) (related t q nodes e b) (memb s) (λ x y lx ly. star_related b x y h)

  pub is_same : f.kind ≡ 14 → expr_at q e ≡ same (path_at q f.left) (path_at q f.right)
  unfolding left_path right_path
  is_same h = rw fe (at_same q e (rw fe at h) (path_left fe ok em (rw h)) (path_right fe ok em (rw h)))

  pub same_hit : (x : ℕ) (hit : Bool) (s a b c : List ℕ) → hit ≡ any (size_of t) (memb c) → c ≡ tab 256 (combination 1 a b) → a ≡ reached t q nodes f.left false s → b ≡ reached t q nodes f.right false s → s ≡ tab 256 (only x) → x < size_of t → f.kind ≡ 14 → hit ≡ passing t q nodes e x
  unfolding reached passing holds_over related combine
  same_hit x hit s a b c p d u w z l h =
      p ∙ rw (d, u, w, z, image_one (size_of t) (small ok) (rel t q nodes f.left) x l, image_one (size_of t) (small ok) (rel t q nodes f.right) x l, combine_upto (size_of t) (small ok) 1 (rel t q nodes f.left x) (rel t q nodes f.right x))
      (any_cong (size_of t) _ _ (λ y k. memb_upto (size_of t) (small ok) (λ y. rel t q nodes f.left x y && rel t q nodes f.right x y) y k))
      ∙ ap (λ (g : NodeExpr). holds (tree_of t) (assigned nodes) g x) (sym (is_same h))

-- a set that no node has been put into yet
pub no_nodes : (S : ℕ → Bool) (a : List ℕ) → a ≡ tab 256 (upto 0 (always true)) → a ≡ tab 256 (upto 0 S)
unfolding upto
no_nodes S a p = p ∙ tab_cong 256 _ _ (λ k l. rw (le-ltb k 0 (omega arith)))
