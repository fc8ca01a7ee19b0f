-- What the table of an entry comes to, from the tables of its operands.
use Prim.Native.Nat.{ℕ, ◌-◌, ◌≤◌, ◌<◌}
use native.Mathlib.Omega.{arith}
use mathlib.Core.Path.{◌≡◌, refl, sym, ap, ap₂, ◌∙◌}
use mathlib.Core.Logic.{⊎_elim}
use mathlib.Core.Bool.{Bool, true, false, cond, not, ◌&&◌, ◌||◌}
use mathlib.Core.List.{List}
use lib.Dec.{ltb, eqb}
use borrow.Author.Tests.{ltb-true, lt-ltb, eqb-true, ne_eqb}
use Rattle.model.specs.declared.Entry.{Entry}
use Rattle.model.specs.Sets.{any, upto, closed}
use Rattle.model.specs.Tree.{tree_of, size_of}
use Rattle.model.specs.Axes.{steps}
use Rattle.model.specs.Meaning.{pairs_over, holds_over}
use Rattle.model.specs.QueryTable.{entry, entries_of}
use Rattle.model.specs.Kinds.{is_path, left_path, left_expr, right_expr}
use Rattle.model.specs.Results.{assigned, related}
use Rattle.model.proofs.Booleans.{Seen, yes!, no!, seen, or_left}
use Rattle.model.proofs.Exists.{any_cong}
use Rattle.model.proofs.KindTests.{is_path_by}
use Rattle.model.proofs.Axes.{eqb_comm}
use Rattle.model.proofs.QueryTable.{at_step, at_variable, at_exists, at_negate, at_both, at_either, at_is}
use Rattle.sets.specs.NodeSets.{always, only, combine}
use Rattle.sets.proofs.Images.{combine_within}
use Rattle.eval.specs.Evaluation.{Ready, passing}
use Rattle.eval.proofs.Calls.{variable_named, is_named_lem, variable_node}
use Rattle.eval.proofs.Entries.{small, path_left, expr_left, expr_right, is_compose, is_filter, is_joined, is_root, is_closure, is_same}
use Rattle.aside.specs.Aside.{two_tables}
use Rattle.aside.proofs.Turns.{two_kinds}
use Rattle.bits.specs.Words.{words, has_bit}
use Rattle.bits.specs.BitTables.{bit_relation}
use Rattle.bits.specs.Rows.{Becomes, within, diagonal, composed, starting_in, ending_in, from_node, has_pair}
use Rattle.bits.proofs.Words.{words_cong}
use Rattle.tables.specs.Tables.{joined, merged_sets}
use Rattle.relations.specs.Evaluation.{operation, table_at, joined_at, applied_at, passed_bits, Leaves}
use Rattle.relations.proofs.Algebra.{leaves, leaves_on, leaves_none, becomes_on, composed_cong, composed_from, composed_diagonal, composed_within, composed_on, composed_starting, composed_one, closed_within, any_within, set_bit, set_node}

both_within : (c a b : Bool) → ((c && a) && (c && b)) ≡ (c && (a && b))
both_within true a b = refl
both_within false a b = refl

within_node : (n : ℕ) (a : Bool) (z : ℕ) → z < n → (ltb z n && a) ≡ a
within_node n a z l = rw (lt-ltb z n l)

-- one node alone is below n
one_below : (n g y : ℕ) → g < n → (ltb y n && eqb y g) ≡ eqb y g
one_below n g y l = go (seen (eqb y g))
  where
    none : (b : Bool) → (b && false) ≡ false
    none true = refl
    none false = refl

    go : Seen (eqb y g) → (ltb y n && eqb y g) ≡ eqb y g
    go (yes! e) = within_node n (eqb y g) y (rw (eqb-true y g e) l)
    go (no! e) = rw e (none (ltb y n))

module _ {t v q nodes : List ℕ} {e : ℕ} {f : Entry} (fe : f ≡ entry q e) (ok : Ready t v q nodes) (em : e < entries_of q) where
  -- the relation of an entry, from those of its operands

  abbrev rel : ℕ → ℕ → ℕ → Bool
  rel l = related t q nodes l false

  rel_step : f.kind ≡ 0 → (x y : ℕ) → rel e x y ≡ steps (tree_of t) f.left f.tag x y
  unfolding related pairs_over
  rel_step k x y = rw (at_step q e (rw fe at k), fe)

  rel_compose : f.kind ≡ 1 → (x y : ℕ) → rel e x y ≡ composed (size_of t) (rel f.left) (rel f.right) x y
  unfolding related pairs_over composed
  rel_compose k x y = rw (is_compose fe ok em k)

  rel_filter : f.kind ≡ 5 → (x y : ℕ) → rel e x y ≡ (rel f.left x y && passing t q nodes f.right y)
  unfolding related pairs_over passing
  rel_filter k x y = rw (is_filter fe ok em k)

  rel_variable : f.kind ≡ 6 → (x y : ℕ) → rel e x y ≡ eqb y (assigned nodes f.left)
  unfolding related pairs_over
  rel_variable k x y = rw (at_variable q e (rw fe at k), fe)

  rel_root : f.kind ≡ 7 → (x y : ℕ) → rel e x y ≡ rel f.left 0 y
  unfolding related pairs_over
  rel_root k x y = rw (is_root fe ok em k)

  rel_closure : f.kind ≡ 13 → (x y : ℕ) → rel e x y ≡ closed (size_of t) (rel f.left) x y
  unfolding related pairs_over
  rel_closure k x y = rw (is_closure fe ok em k)

  rel_joined : 2 ≤ f.kind → f.kind ≤ 4 → (x y : ℕ) → rel e x y ≡ combine (f.kind - 2) (rel f.left x y) (rel f.right x y)
  rel_joined l h x y = rw fe (is_joined ok em false x y (rw fe at l) (rw fe at h))

  le : size_of t ≤ 256
  le = small ok

  some : 0 < size_of t
  some = ok.linked.tree.sound.some_node

  -- the table of a path

  module _ {w o p : List ℕ} where
    pub did_step : Becomes (size_of t) (composed (size_of t) (steps (tree_of t) f.left f.tag) (bit_relation o)) o p → Becomes (size_of t) diagonal w o → f.kind ≡ 0
        → Becomes (size_of t) (table_at t q nodes e) w p
    unfolding table_at
    did_step b a k = becomes_on (leaves a) b (λ x y lx ly.
        composed_cong (size_of t) (steps (tree_of t) f.left f.tag) (bit_relation o) (rel e) diagonal x y (λ z l. sym (rel_step k x z)) (λ z l. a.bits z y l ly) ∙ composed_diagonal (size_of t) (rel e) x y)

    pub did_compose : Becomes (size_of t) (applied_at t q nodes f.left o) o p → Becomes (size_of t) (table_at t q nodes f.right) w o → f.kind ≡ 1
        → Becomes (size_of t) (table_at t q nodes e) w p
    unfolding table_at applied_at
    did_compose b a k = becomes_on (leaves a) b (λ x y lx ly.
        composed_cong (size_of t) (rel f.left) (bit_relation o) (rel f.left) (within (size_of t) (rel f.right)) x y (λ z l. refl) (λ z l. a.bits z y l ly) ∙ composed_within (size_of t) (rel f.left) (rel f.right) x y
        ∙ ap (λ (c : Bool). ltb y (size_of t) && c) (sym (rel_compose k x y)))

    pub did_filter : (s : List ℕ) → Becomes (size_of t) (ending_in (has_bit s) (bit_relation p)) p o → Becomes (size_of t) (table_at t q nodes f.left) w p → s ≡ passed_bits t q nodes f.right
        → (u : List ℕ) → Leaves (size_of t) u w → f.kind ≡ 5 → Becomes (size_of t) (table_at t q nodes e) u o
    unfolding table_at passed_bits
    did_filter s d a g u lv k = becomes_on (leaves_on lv (leaves a)) d (λ x y lx ly.
        ap₂ (λ (b c : Bool). b && c) (a.bits x y lx ly) (set_bit (size_of t) (passing t q nodes f.right) s g y ly)
        ∙ both_within (ltb y (size_of t)) (rel f.left x y) (passing t q nodes f.right y)
        ∙ ap (λ (c : Bool). ltb y (size_of t) && c) (sym (rel_filter k x y)))

    pub did_variable : (g : ℕ) → Becomes (size_of t) (from_node g (bit_relation o)) o p → Becomes (size_of t) diagonal w o → g ≡ assigned nodes f.left → f.kind ≡ 6
        → Becomes (size_of t) (table_at t q nodes e) w p
    unfolding table_at
    did_variable g b a h k = let l : g < size_of t = rw h (variable_node fe ok em (variable_named k)) in becomes_on (leaves a) b (λ x y lx ly.
        a.bits g y l ly ∙ eqb_comm g y ∙ sym (ap (λ (c : Bool). ltb y (size_of t) && c) (rel_variable k x y ∙ ap (eqb y) (sym h)) ∙ one_below (size_of t) g y l))

    pub did_closure : Becomes (size_of t) (closed (size_of t) (bit_relation o)) o p → Becomes (size_of t) (table_at t q nodes f.left) w o → f.kind ≡ 13 → Becomes (size_of t) (table_at t q nodes e) w p
    unfolding table_at
    did_closure b a k = becomes_on (leaves a) b (λ x y lx ly.
        closed_within (size_of t) (bit_relation o) (rel f.left) le a.bits x y lx ly ∙ ap (λ (c : Bool). ltb y (size_of t) && c) (sym (rel_closure k x y)))

    pub did_root : Becomes (size_of t) (from_node 0 (bit_relation o)) o p → Becomes (size_of t) (table_at t q nodes f.left) w o → f.kind ≡ 7 → Becomes (size_of t) (table_at t q nodes e) w p
    unfolding table_at
    did_root b a k = becomes_on (leaves a) b (λ x y lx ly. a.bits 0 y some ly ∙ ap (λ (c : Bool). ltb y (size_of t) && c) (sym (rel_root k x y)))

  -- what stands in the table of an operation on two tables, of a path and of `same`

  pub joined_path : is_path f.kind ≡ true → (x y : ℕ) → joined_at t q nodes e x y ≡ table_at t q nodes e x y
  unfolding joined_at
  joined_path h x y = rw (rw fe at h)

  joined_same : is_path f.kind ≡ false → (x y : ℕ) → joined_at t q nodes e x y ≡ combine 1 (table_at t q nodes f.left x y) (table_at t q nodes f.right x y)
  unfolding joined_at
  joined_same h x y = rw (rw fe at h, fe)

  path_operated : 2 ≤ f.kind → f.kind ≤ 4 → (x y : ℕ) → combine (operation f.kind) (table_at t q nodes f.left x y) (table_at t q nodes f.right x y) ≡ joined_at t q nodes e x y
  unfolding table_at
  path_operated l h x y =
      rw (ne_eqb f.kind 14 (λ z. omega arith)) (combine_within (f.kind - 2) (ltb y (size_of t)) (rel f.left x y) (rel f.right x y)
      ∙ ap (λ (c : Bool). ltb y (size_of t) && c) (sym (rel_joined l h x y)))
      ∙ sym (joined_path (is_path_by f.kind ∙ or_left (ltb f.kind 8) (eqb f.kind 13) (lt-ltb f.kind 8 (omega arith))) x y)

  same_operated : f.kind ≡ 14 → (x y : ℕ) → combine (operation f.kind) (table_at t q nodes f.left x y) (table_at t q nodes f.right x y) ≡ joined_at t q nodes e x y
  unfolding is_path
  same_operated k x y = ap (λ (m : ℕ). combine (operation m) (table_at t q nodes f.left x y) (table_at t q nodes f.right x y)) k ∙ sym (joined_same (rw k) x y)

  operated : (op : ℕ) → op ≡ operation f.kind → two_tables f.kind ≡ true → (f.kind ≡ 1 → ⊥) → (x y : ℕ) → combine op (table_at t q nodes f.left x y) (table_at t q nodes f.right x y) ≡ joined_at t q nodes e x y
  operated op g h n x y = ap (λ (m : ℕ). combine m (table_at t q nodes f.left x y) (table_at t q nodes f.right x y)) g ∙ ⊎_elim by_path by_same (two_kinds f.kind h)
    where
      by_path : (0 < f.kind) × (f.kind < 5) → combine (operation f.kind) (table_at t q nodes f.left x y) (table_at t q nodes f.right x y) ≡ joined_at t q nodes e x y
      by_path w = path_operated (omega (arith, w.0)) (omega (arith, w.1)) x y

      by_same : f.kind ≡ 14 → combine (operation f.kind) (table_at t q nodes f.left x y) (table_at t q nodes f.right x y) ≡ joined_at t q nodes e x y
      by_same k = same_operated k x y

  -- an operation on two tables, from the first, which was kept aside, and the second

  module _ {w p s k : List ℕ} (i j : ℕ) (a : (x y : ℕ) → x < size_of t → y < 256 → bit_relation w x y ≡ table_at t q nodes i x y) (c : Becomes (size_of t) (bit_relation w) s k) (b : Becomes (size_of t) (table_at t q nodes j) w p) where
    first_bit : (x y : ℕ) → x < size_of t → y < 256 → bit_relation k x y ≡ within (size_of t) (rel i) x y
    unfolding table_at
    first_bit x y lx ly = c.bits x y lx ly ∙ a x y lx ly

    pub did_tables : {u : List ℕ} (k₂ : List ℕ) → Becomes (size_of t) (bit_relation k₂) p u → Becomes (size_of t) (composed (size_of t) (bit_relation k) (bit_relation p)) k k₂ → i ≡ f.left → j ≡ f.right → f.kind ≡ 1
        → Becomes (size_of t) (joined_at t q nodes e) w u
    unfolding table_at is_path
    did_tables {u} k₂ g d ei ej h = becomes_on (leaves b) g (λ x y lx ly.
        d.bits x y lx ly
        ∙ composed_cong (size_of t) (bit_relation k) (bit_relation p) (rel f.left) (within (size_of t) (rel f.right)) x y
        (λ z l. first_bit x z lx (omega arith) ∙ within_node (size_of t) (rel i x z) z l ∙ ap (λ (l : ℕ). rel l x z) ei)
        (λ z l. b.bits z y l ly ∙ ap (λ (l : ℕ). within (size_of t) (rel l) z y) ej)
        ∙ composed_within (size_of t) (rel f.left) (rel f.right) x y
        ∙ ap (λ (c : Bool). ltb y (size_of t) && c) (sym (rel_compose h x y))
        ∙ sym (joined_path (rw h) x y))

    pub did_combine : {u : List ℕ} (op : ℕ) (turned : Bool) → Becomes (size_of t) (joined op turned (bit_relation k) (bit_relation p)) p u → i ≡ cond turned f.right f.left → j ≡ cond turned f.left f.right
        → op ≡ operation f.kind → two_tables f.kind ≡ true → (f.kind ≡ 1 → ⊥) → Becomes (size_of t) (joined_at t q nodes e) w u
    did_combine {u} op true d ei ej g h n = becomes_on (leaves b) d (λ x y lx ly.
        ap₂ (combine op) (b.bits x y lx ly ∙ ap (λ (l : ℕ). table_at t q nodes l x y) ej) (c.bits x y lx ly ∙ a x y lx ly ∙ ap (λ (l : ℕ). table_at t q nodes l x y) ei)
        ∙ operated op g h n x y)
    did_combine {u} op false d ei ej g h n = becomes_on (leaves b) d (λ x y lx ly.
        ap₂ (combine op) (c.bits x y lx ly ∙ a x y lx ly ∙ ap (λ (l : ℕ). table_at t q nodes l x y) ei) (b.bits x y lx ly ∙ ap (λ (l : ℕ). table_at t q nodes l x y) ej)
        ∙ operated op g h n x y)

  -- a path composed with a table

  module _ {w o : List ℕ} where
    pub applied_step : Becomes (size_of t) (composed (size_of t) (steps (tree_of t) f.left f.tag) (bit_relation w)) w o → f.kind ≡ 0 → Becomes (size_of t) (applied_at t q nodes e w) w o
    unfolding applied_at
    applied_step b k = record { size = b.size; bits = λ x y lx ly. b.bits x y lx ly ∙ composed_cong (size_of t) (steps (tree_of t) f.left f.tag) (bit_relation w) (rel e) (bit_relation w) x y (λ z l. sym (rel_step k x z)) (λ z l. refl); rest = b.rest }

    pub applied_variable : (g : ℕ) → Becomes (size_of t) (from_node g (bit_relation w)) w o → g ≡ assigned nodes f.left → f.kind ≡ 6 → Becomes (size_of t) (applied_at t q nodes e w) w o
    unfolding applied_at
    applied_variable g b h k = let l : g < size_of t = rw h (variable_node fe ok em (variable_named k)) in record {
      size = b.size;
      bits = λ x y lx ly. b.bits x y lx ly ∙ sym (composed_cong (size_of t) (rel e) (bit_relation w) (λ x z. eqb z g) (bit_relation w) x y (λ z m. rel_variable k x z ∙ ap (eqb z) (sym h)) (λ z m. refl) ∙ composed_one (size_of t) (bit_relation w) g x y l);
      rest = b.rest;
    }

  module _ {w o p : List ℕ} where
    pub applied_compose : Becomes (size_of t) (applied_at t q nodes f.left o) o p → Becomes (size_of t) (applied_at t q nodes f.right w) w o → f.kind ≡ 1 → Becomes (size_of t) (applied_at t q nodes e w) w p
    unfolding applied_at
    applied_compose b a k = becomes_on (leaves a) b (λ x y lx ly.
        composed_cong (size_of t) (rel f.left) (bit_relation o) (rel f.left) (composed (size_of t) (rel f.right) (bit_relation w)) x y (λ z l. refl) (λ z l. a.bits z y l ly)
        ∙ composed_on (size_of t) (rel f.left) (rel f.right) (bit_relation w) x y
        ∙ composed_cong (size_of t) (composed (size_of t) (rel f.left) (rel f.right)) (bit_relation w) (rel e) (bit_relation w) x y (λ z l. sym (rel_compose k x z)) (λ z l. refl))

    pub applied_filter : Becomes (size_of t) (applied_at t q nodes f.left o) o p → Becomes (size_of t) (starting_in (passing t q nodes f.right) (bit_relation w)) w o → f.kind ≡ 5
        → Becomes (size_of t) (applied_at t q nodes e w) w p
    unfolding applied_at
    applied_filter b a k = becomes_on (leaves a) b (λ x y lx ly.
        composed_cong (size_of t) (rel f.left) (bit_relation o) (rel f.left) (starting_in (passing t q nodes f.right) (bit_relation w)) x y (λ z l. refl) (λ z l. a.bits z y l ly)
        ∙ composed_starting (size_of t) (rel f.left) (bit_relation w) (passing t q nodes f.right) x y
        ∙ composed_cong (size_of t) (λ x z. rel f.left x z && passing t q nodes f.right z) (bit_relation w) (rel e) (bit_relation w) x y (λ z l. sym (rel_filter k x z)) (λ z l. refl))

    pub applied_root : Becomes (size_of t) (from_node 0 (bit_relation o)) o p → Becomes (size_of t) (applied_at t q nodes f.left w) w o → f.kind ≡ 7 → Becomes (size_of t) (applied_at t q nodes e w) w p
    unfolding applied_at
    applied_root b a k = becomes_on (leaves a) b (λ x y lx ly. a.bits 0 y some ly ∙ composed_from (size_of t) (rel f.left) (rel e) (bit_relation w) 0 x y (λ z l. sym (rel_root k x z)))

  -- the nodes where an expression holds

  holds_exists : f.kind ≡ 8 → (x : ℕ) → passing t q nodes e x ≡ any (size_of t) (rel f.left x)
  unfolding passing related holds_over left_path
  holds_exists k x = rw (fe, at_exists q e (rw fe at k) (path_left fe ok em (rw k)))

  holds_same : f.kind ≡ 14 → (x : ℕ) → passing t q nodes e x ≡ any (size_of t) (λ y. rel f.left x y && rel f.right x y)
  unfolding passing related holds_over
  holds_same k x = rw (is_same fe ok em k)

  holds_negate : f.kind ≡ 9 → (x : ℕ) → passing t q nodes e x ≡ not (passing t q nodes f.left x)
  unfolding passing holds_over left_expr
  holds_negate k x = rw (fe, at_negate q e (rw fe at k) (expr_left fe ok em (rw k)))

  holds_both : f.kind ≡ 10 → (x : ℕ) → passing t q nodes e x ≡ (passing t q nodes f.left x && passing t q nodes f.right x)
  unfolding passing holds_over left_expr right_expr
  holds_both k x = rw (fe, at_both q e (rw fe at k) (expr_left fe ok em (rw k)) (expr_right fe ok em (rw k)))

  holds_either : f.kind ≡ 11 → (x : ℕ) → passing t q nodes e x ≡ (passing t q nodes f.left x || passing t q nodes f.right x)
  unfolding passing holds_over left_expr right_expr
  holds_either k x = rw (fe, at_either q e (rw fe at k) (expr_left fe ok em (rw k)) (expr_right fe ok em (rw k)))

  holds_is : f.kind ≡ 12 → (x : ℕ) → passing t q nodes e x ≡ eqb x (assigned nodes f.left)
  unfolding passing holds_over
  holds_is k x = rw (fe, at_is q e (rw fe at k))

  -- as rows of bits

  set_cong : (H : ℕ → Bool) → ((x : ℕ) → x < size_of t → H x ≡ passing t q nodes e x) → words 4 (upto (size_of t) H) ≡ passed_bits t q nodes e
  unfolding passed_bits upto
  set_cong H h = words_cong 4 _ _ (λ x l. go x (seen (ltb x (size_of t))))
    where
      go : (x : ℕ) → Seen (ltb x (size_of t)) → (ltb x (size_of t) && H x) ≡ (ltb x (size_of t) && passing t q nodes e x)
      go x (yes! p) = ap (λ (b : Bool). ltb x (size_of t) && b) (h x (ltb-true x (size_of t) p))
      go x (no! p) = rw p

  merged_cong : (op : ℕ) (H K : ℕ → Bool) (a b r : List ℕ) → r ≡ words 4 (merged_sets op a b) → a ≡ words 4 (upto (size_of t) H) → b ≡ words 4 (upto (size_of t) K)
      → ((x : ℕ) → x < size_of t → combine op (H x) (K x) ≡ passing t q nodes e x) → r ≡ passed_bits t q nodes e
  unfolding upto
  merged_cong op H K a b r p g h f =
      p ∙ words_cong 4 _ _ (λ y l. ap₂ (combine op) (set_bit (size_of t) H a g y (omega arith)) (set_bit (size_of t) K b h y (omega arith)) ∙ combine_within op (ltb y (size_of t)) (H y) (K y))
      ∙ set_cong (λ x. combine op (H x) (K x)) f

  -- where a table has a pair
  starting : (R : ℕ → ℕ → Bool) {w o : List ℕ} (r : List ℕ) → r ≡ words 4 (upto (size_of t) (has_pair (bit_relation o))) → Becomes (size_of t) (within (size_of t) R) w o
      → ((x : ℕ) → passing t q nodes e x ≡ any (size_of t) (R x)) → r ≡ passed_bits t q nodes e
  starting R {w} {o} r p a h = p ∙ set_cong (has_pair (bit_relation o)) (λ x l. any_cong 256 _ _ (λ y ly. a.bits x y l ly) ∙ any_within (size_of t) (R x) le ∙ sym (h x))

  pub did_exists : {w o : List ℕ} (r : List ℕ) → r ≡ words 4 (upto (size_of t) (has_pair (bit_relation o))) → Becomes (size_of t) (table_at t q nodes f.left) w o → f.kind ≡ 8 → r ≡ passed_bits t q nodes e
  unfolding table_at
  did_exists r p a k = starting (rel f.left) r p a (holds_exists k)

  pub did_same : {w o : List ℕ} (r : List ℕ) → r ≡ words 4 (upto (size_of t) (has_pair (bit_relation o))) → Becomes (size_of t) (joined_at t q nodes e) w o → f.kind ≡ 14 → r ≡ passed_bits t q nodes e
  unfolding table_at is_path combine
  did_same r p a k = starting (λ x y. rel f.left x y && rel f.right x y) r p
      (becomes_on leaves_none a (λ x y lx ly. joined_same (rw k) x y ∙ both_within (ltb y (size_of t)) (rel f.left x y) (rel f.right x y))) (holds_same k)

  pub did_negate : (a b r : List ℕ) → r ≡ words 4 (merged_sets 2 a b) → a ≡ words 4 (upto (size_of t) (always true)) → b ≡ passed_bits t q nodes f.left → f.kind ≡ 9 → r ≡ passed_bits t q nodes e
  unfolding passed_bits combine
  did_negate a b r p g h k = merged_cong 2 (always true) (passing t q nodes f.left) a b r p g h (λ x l. sym (holds_negate k x))

  pub did_both : (a b r : List ℕ) → r ≡ words 4 (merged_sets 1 a b) → a ≡ passed_bits t q nodes f.left → b ≡ passed_bits t q nodes f.right → f.kind ≡ 10 → r ≡ passed_bits t q nodes e
  unfolding passed_bits combine
  did_both a b r p g h k = merged_cong 1 (passing t q nodes f.left) (passing t q nodes f.right) a b r p g h (λ x l. sym (holds_both k x))

  pub did_either : (a b r : List ℕ) → r ≡ words 4 (merged_sets 0 a b) → a ≡ passed_bits t q nodes f.left → b ≡ passed_bits t q nodes f.right → f.kind ≡ 11 → r ≡ passed_bits t q nodes e
  unfolding passed_bits combine
  did_either a b r p g h k = merged_cong 0 (passing t q nodes f.left) (passing t q nodes f.right) a b r p g h (λ x l. sym (holds_either k x))

  pub did_is : (g : ℕ) (r : List ℕ) → r ≡ words 4 (only g) → g ≡ assigned nodes f.left → f.kind ≡ 12 → r ≡ passed_bits t q nodes e
  unfolding passed_bits upto
  did_is g r p h k = let l : g < size_of t = rw h (variable_node fe ok em (is_named_lem k)) in p ∙ words_cong 4 _ _ (λ x m. sym (one_below (size_of t) g x l)) ∙ set_cong (only g) (λ x m. ap (eqb x) h ∙ sym (holds_is k x))

-- the table of a path, composed with the one that was kept aside
pub did_product : (t q nodes : List ℕ) (e : ℕ) {w o p s k : List ℕ} → size_of t ≤ 256 → Becomes (size_of t) (composed (size_of t) (bit_relation o) (bit_relation k)) o p → Becomes (size_of t) (table_at t q nodes e) w o
    → Becomes (size_of t) (bit_relation w) s k → Becomes (size_of t) (applied_at t q nodes e w) w p
unfolding table_at applied_at
did_product t q nodes e {w} {o} {p} {s} {k} le d a c = becomes_on (leaves a) d (λ x y lx ly.
    composed_cong (size_of t) (bit_relation o) (bit_relation k) (related t q nodes e false) (bit_relation w) x y (λ z l. a.bits x z lx (omega arith) ∙ within_node (size_of t) (related t q nodes e false x z) z l) (λ z l. c.bits z y l ly))

-- the pairs that start where an expression holds, from a table that was kept aside
pub did_keep : (t q nodes : List ℕ) (e : ℕ) {w o p u s k : List ℕ} (r : List ℕ) → size_of t ≤ 256 → Becomes (size_of t) (starting_in (has_bit r) (bit_relation p)) p u
    → Becomes (size_of t) (bit_relation k) o p → r ≡ passed_bits t q nodes e → Leaves (size_of t) w o → Becomes (size_of t) (bit_relation w) s k
    → Becomes (size_of t) (starting_in (passing t q nodes e) (bit_relation w)) w u
unfolding passed_bits
did_keep t q nodes e r le d g h lv c = becomes_on (leaves_on lv (leaves g)) d (λ x y lx ly.
    ap₂ (λ (a b : Bool). a && b) (set_node (size_of t) (passing t q nodes e) r h le x lx) (g.bits x y lx ly ∙ c.bits x y lx ly))
