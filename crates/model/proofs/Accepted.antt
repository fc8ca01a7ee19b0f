-- What accepted tables give the engine.
use Prim.Native.Nat.{ℕ, zero, suc, ◌+◌, ◌-◌, ◌*◌, ◌/◌, ◌%◌, ◌≤◌, ◌<◌}
use native.Mathlib.Nat.{not-suc-le-zero, eq-or-lt_of_le, add-zero, mul-zero, mul_comm, div-le_of_le-mul, div-add-mod}
use native.Mathlib.Numerals.{sub-one}
use native.Mathlib.Omega.{arith}
use mathlib.Core.Path.{◌≡◌, refl, sym, ap, ◌∙◌}
use mathlib.Core.Logic.{⊎_elim}
use mathlib.Core.Bool.{Bool, true, false, not, ◌&&◌, ◌||◌, and-true}
use mathlib.Core.List.{List}
use lib.ListN.{length, get_or}
use lib.Dec.{ltb, eqb, eqb-suc-zero}
use borrow.Author.Tests.{lt-ltb, ltb-true, ltb-false, eqb-true, eqb-false, not-false, ne_eqb, eq-eqb}
use Rattle.model.specs.Sets.{any, bit}
use Rattle.model.specs.Tree.{Tree, tree_at, tree_of, size_of}
use Rattle.model.specs.Axes.{self, ancestor, descendant, following, preceding, is_document, descendant_or_self}
use Rattle.model.specs.QueryTable.{entries_of, kind, left, right, entry, last_of}
use Rattle.model.specs.Refusals.{verdict}
use Rattle.model.specs.Kinds.{is_path, left_path, left_expr, right_path, right_expr, names_variable, has_left, has_right}
use Rattle.model.specs.Checks.{bad_parent, bad_tag, tree_checks_at, tree_checks, bad_step, bad_variable, bad_unnamed, bad_entry, uses, misused, query_checks}
use Rattle.model.specs.Accepted.{Falling, Sound, Ordered, Formed, Shaped, Evaluable}
use Rattle.model.proofs.Booleans.{Seen, seen, no_yes, both_yes, or_left, or_right, or_cases, not_yes, no_or, guarded}
use Rattle.model.proofs.Booleans.Seen.{yes!, no! }
use Rattle.model.proofs.Exists.{none_of}
use Rattle.model.proofs.Axes.{descendant_lower, five_axes}
use Rattle.model.proofs.Refusals.{Passes, numbered, accepted}

-- what the check of a table's length secures: some whole items of k numbers each, and not too many
pub length_fits : (k most l : ℕ) → (eqb l 0 || (not (eqb (l % k) 0) || ltb most l)) ≡ false → (l ≡ 0 → ⊥) × (l % k ≡ 0) × (l ≤ most)
length_fits k most l h =
    let (z, m) = no_or (eqb l 0) (not (eqb (l % k) 0) || ltb most l) h in
    let (o, g) = no_or (not (eqb (l % k) 0)) (ltb most l) m in
    (eqb-false l 0 z, eqb-true (l % k) 0 (not-false (eqb (l % k) 0) o), ltb-false most l g)

-- trees

parent_before : (d : Tree) (m : ℕ) → Falling d m → bad_parent d (suc m) ≡ false → d.parent (suc m) < suc m
unfolding bad_parent descendant_or_self
parent_before d m s h =
    ⊎_elim
    (λ p. let e : d.parent (suc m) ≡ m = eqb-true (d.parent (suc m)) m p in omega arith)
    (λ p. let w : d.parent (suc m) < m = descendant_lower d m s (d.parent (suc m)) m (omega arith) p in omega arith)
    (or_cases (eqb (d.parent (suc m)) m) (descendant d (d.parent (suc m)) m) (rw (sub-one (suc m)) at (not-false (descendant_or_self d (d.parent (suc m)) (suc m - 1)) (rw (eqb-suc-zero m) at h))))

pub prefix_falls : (d : Tree) (m : ℕ) → ((x : ℕ) → x ≤ m → bad_parent d x ≡ false) → Falling d m
prefix_falls d zero h = record { falls = λ x p l. absurd (let z : 1 ≤ 0 = omega arith in not-suc-le-zero z) }
prefix_falls d (suc m) h =
    let ih = prefix_falls d m (λ x l. h x (omega arith)) in
    record { falls = λ x p l. ⊎_elim (λ e. rw e (parent_before d m ih (h (suc m) (omega arith)))) (λ k. ih.falls x p (omega arith)) (eq-or-lt_of_le l) }

-- what the nodes before x give, when none of them is bad
pub falling_before : (d : Tree) (x : ℕ) → any x (bad_parent d) ≡ false → Falling d (x - 1)
falling_before d x h = record { falls = λ z p l. (prefix_falls d z (λ y k. none_of x (bad_parent d) y h (omega arith))).falls z p (omega arith) }

pub bad_root : (d : Tree) (x p : ℕ) → p ≡ d.parent x → x ≡ 0 → not (eqb p 65535) ≡ bad_parent d x
unfolding bad_parent
bad_root d x p e h = rw (h, e) (ap (λ (k : ℕ). not (eqb (d.parent k) 65535)) h)

pub bad_other : (d : Tree) (x p : ℕ) (b : Bool) → b ≡ descendant_or_self d p (x - 1) → p ≡ d.parent x → (x ≡ 0 → ⊥) → not b ≡ bad_parent d x
unfolding bad_parent
bad_other d x p b f e h = rw (ne_eqb x 0 h, f, e)

-- an accepted tree is sound
pub sound_of : (d : Tree) → 0 < d.size → d.size ≤ 256 → any d.size (bad_parent d) ≡ false → Sound d
sound_of d a b h = record { some_node = a; at_most = b; falls = λ x p l. (prefix_falls d x (λ y k. none_of d.size (bad_parent d) y h (omega arith))).falls x p (omega arith) }

-- and in document order
pub ordered_of : (d : Tree) → 0 < d.size → d.size ≤ 256 → any d.size (bad_parent d) ≡ false → any d.size (bad_tag d) ≡ false → Ordered d
unfolding bad_parent
ordered_of d a b h g = record {
  sound = sound_of d a b h;
  rule = λ y l. rw (sub-one (suc y)) at (not-false (descendant_or_self d (d.parent (suc y)) (suc y - 1)) (rw (eqb-suc-zero y) at (none_of d.size (bad_parent d) (suc y) h l)));
  document = λ y p l. not_yes (is_document d y) (λ q. no_yes (none_of d.size (bad_tag d) y g l) (both_yes (lt-ltb 65533 (d.tag y) (omega (arith, eqb-true (d.tag y) 65534 q))) (or_left (ltb 0 y) (not (is_document d y)) (lt-ltb 0 y p))));
}

-- of an accepted tree, each tag is below 65535
pub tag_below : (d : Tree) (x : ℕ) → bad_tag d x ≡ false → d.tag x < 65535
tag_below d x h = go (seen (is_document d x))
  where
    go : Seen (is_document d x) → d.tag x < 65535
    go (yes! p) = omega (arith, eqb-true (d.tag x) 65534 p)
    go (no! p) = omega (arith, ltb-false 65533 (d.tag x) (rw (p, or_right (ltb 0 x) true refl, and-true (ltb 65533 (d.tag x))) at h))

-- an accepted tree is in document order, however many numbers a node has

size_some : (k l : ℕ) → (l ≡ 0 → ⊥) → l % k ≡ 0 → 0 < l / k
size_some k l z m = go (l / k) refl
  where
    go : (q : ℕ) → l / k ≡ q → 0 < l / k
    go zero e = absurd (z (sym (div-add-mod l k) ∙ rw (e, m) (add-zero (k * 0) ∙ mul-zero k)))
    go (suc q) e = rw e (omega arith)

pub at_ordered : (k : ℕ) (t : List ℕ) → Passes (tree_checks_at k t) → Ordered (tree_at k t)
unfolding tree_checks_at Passes
at_ordered k t w =
    let (some, whole, most) = length_fits k (256 * k) (length t) w.0 in
    ordered_of (tree_at k t) (size_some k (length t) some whole) (div-le_of_le-mul k (let a : length t ≤ k * 256 = rw (mul_comm k 256) most in a)) w.1.0 w.1.1.0

pub tree_ordered : (t : List ℕ) → Passes (tree_checks t) → Ordered (tree_of t)
tree_ordered t w = at_ordered 2 t w

-- queries

below : (a : Bool) (x y : ℕ) → (a && not (ltb x y)) ≡ false → a ≡ true → x < y
below a x y h p = ltb-true x y (not-false (ltb x y) (guarded a (not (ltb x y)) h p))

sorted : (a b : Bool) → (a && not b) ≡ false → a ≡ true → b ≡ true
sorted a b h p = not-false b (guarded a (not b) h p)

module _ (q : List ℕ) (least columns : ℕ) (b : Passes (query_checks q least columns)) where
  -- the length and the number of variables
  pub entries_some : 0 < entries_of q
  unfolding query_checks Passes
  entries_some =
      let (some, four, most) = length_fits 4 256 (length q) b.0 in
      omega arith

  pub columns_most : columns ≤ 3
  unfolding query_checks Passes
  columns_most = ltb-false 3 columns (no_or (ltb columns least) (ltb 3 columns) b.1.0).1

  pub columns_least : least ≤ columns
  unfolding query_checks Passes
  columns_least = ltb-false columns least (no_or (ltb columns least) (ltb 3 columns) b.1.0).0

  pub last_path : is_path (kind q (last_of q)) ≡ true
  unfolding query_checks Passes
  last_path = not-false (is_path (kind q (last_of q))) b.1.1.1.1.1.1.1.0

  module _ (e : ℕ) (l : e < entries_of q) where
    none : (k : ℕ) → any (entries_of q) (bad_entry q columns k) ≡ false → bad_entry q columns k e ≡ false
    none k h = none_of (entries_of q) (bad_entry q columns k) e h l

    known_at : kind q e ≤ 14
    unfolding query_checks Passes bad_entry
    known_at = ltb-false 14 (kind q e) (none 10 b.1.1.0)

    pub fields_at : (bad_step (entry q e) ≡ false) × ((bad_variable columns (entry q e) || bad_unnamed (entry q e)) ≡ false)
    unfolding query_checks Passes bad_entry
    fields_at = no_or (bad_step (entry q e)) (bad_variable columns (entry q e) || bad_unnamed (entry q e)) (none 11 b.1.1.1.0)

    pub axis_at : kind q e ≡ 0 → left q e ≤ 12
    axis_at h =
        ltb-false 12 (left q e) (guarded (eqb (kind q e) 0) (ltb 12 (left q e)) fields_at.0 (eq-eqb (kind q e) 0 h))

    pub variable_at : names_variable (kind q e) ≡ true → left q e < columns
    variable_at p = below (names_variable (kind q e)) (left q e) columns (no_or (bad_variable columns (entry q e)) (bad_unnamed (entry q e)) fields_at.1).0 p

    operands : ((has_left (kind q e) && not (ltb (left q e) e)) ≡ false) × ((has_right (kind q e) && not (ltb (right q e) e)) ≡ false)
    unfolding query_checks Passes bad_entry
    operands = no_or (has_left (kind q e) && not (ltb (left q e) e)) (has_right (kind q e) && not (ltb (right q e) e)) (none 12 b.1.1.1.1.0)

    left_at : has_left (kind q e) ≡ true → left q e < e
    left_at p = below (has_left (kind q e)) (left q e) e operands.0 p

    right_at : has_right (kind q e) ≡ true → right q e < e
    right_at p = below (has_right (kind q e)) (right q e) e operands.1 p

    sorts : (((left_path (kind q e) && not (is_path (kind q (left q e)))) || (left_expr (kind q e) && is_path (kind q (left q e)))) ≡ false) × (((right_path (kind q e) && not (is_path (kind q (right q e)))) || (right_expr (kind q e) && is_path (kind q (right q e)))) ≡ false)
    unfolding query_checks Passes bad_entry
    sorts = no_or _ _ (none 13 b.1.1.1.1.1.0)

    left_sort : ((left_path (kind q e) && not (is_path (kind q (left q e)))) ≡ false) × ((left_expr (kind q e) && is_path (kind q (left q e))) ≡ false)
    left_sort = no_or (left_path (kind q e) && not (is_path (kind q (left q e)))) (left_expr (kind q e) && is_path (kind q (left q e))) sorts.0

    right_sort : ((right_path (kind q e) && not (is_path (kind q (right q e)))) ≡ false) × ((right_expr (kind q e) && is_path (kind q (right q e))) ≡ false)
    right_sort = no_or (right_path (kind q e) && not (is_path (kind q (right q e)))) (right_expr (kind q e) && is_path (kind q (right q e))) sorts.1

  few_entries : entries_of q ≤ 64
  unfolding query_checks Passes
  few_entries =
      let (some, four, most) = length_fits 4 256 (length q) b.0 in
      omega arith

  -- an accepted query has the shape
  query_formed : Formed q
  query_formed = record {
    known = known_at;
    left_path_lem = λ e l p. (left_at e l (or_left (left_path (kind q e)) (left_expr (kind q e)) p), sorted (left_path (kind q e)) (is_path (kind q (left q e))) (left_sort e l).0 p);
    left_expr_lem = λ e l p. (left_at e l (or_right (left_path (kind q e)) (left_expr (kind q e)) p), guarded (left_expr (kind q e)) (is_path (kind q (left q e))) (left_sort e l).1 p);
    right_path_lem = λ e l p. (right_at e l (or_left (right_path (kind q e)) (right_expr (kind q e)) p), sorted (right_path (kind q e)) (is_path (kind q (right q e))) (right_sort e l).0 p);
    right_expr_lem = λ e l p. (right_at e l (or_right (right_path (kind q e)) (right_expr (kind q e)) p), guarded (right_expr (kind q e)) (is_path (kind q (right q e))) (right_sort e l).1 p);
  }

  pub query_shaped : Shaped q
  query_shaped = record { few = few_entries; formed = query_formed }

  -- each of its entries but the last is used once
  pub query_once : (i : ℕ) → i < last_of q → uses q i (entries_of q) ≡ 1
  unfolding query_checks Passes
  query_once i l = eqb-true (uses q i (entries_of q)) 1 (not-false (eqb (uses q i (entries_of q)) 1) (none_of (last_of q) (misused q) i b.1.1.1.1.1.1.0 l))

  -- and can be evaluated under any assignment to nodes
  pub query_evaluable : (t nodes : List ℕ) → length nodes ≡ columns → ((k : ℕ) → k < length nodes → get_or nodes k 0 < size_of t) → Evaluable t q nodes
  query_evaluable t nodes many held = record {
    formed = query_formed;
    axis = axis_at;
    variable = λ e l p. rw many (variable_at e l p);
    node = held;
  }

-- the checks of a tree and a query have no number 0

pub tree_numbered : (t : List ℕ) → numbered (tree_checks t) ≡ true
unfolding tree_checks_at numbered
tree_numbered t = refl

pub query_numbered : (q : List ℕ) (least columns : ℕ) → numbered (query_checks q least columns) ≡ true
unfolding query_checks numbered
query_numbered q least columns = refl

-- for the reader: from every node of an accepted tree, each node is on exactly one of the five axes
pub axes_part : (t : List ℕ) → (verdict (tree_checks t)).number ≡ 0 → (x y : ℕ) → x < size_of t → y < size_of t
    → bit (self (tree_of t) x y) + (bit (ancestor (tree_of t) x y) + (bit (descendant (tree_of t) x y) + (bit (following (tree_of t) x y) + bit (preceding (tree_of t) x y)))) ≡ 1
axes_part t h = five_axes (tree_of t) (tree_ordered t (accepted (tree_checks t) (tree_numbered t) h)).sound
