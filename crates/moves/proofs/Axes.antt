-- The moves of a table's columns along each axis and by a step, from passes along the links. What is said of one node set
-- in crate steps is said here of every column.
use Prim.Native.Nat.{ℕ, ◌≤◌, ◌<◌}
use native.Mathlib.Omega.{arith}
use mathlib.Core.Path.{◌≡◌, refl, sym, ap, ◌∙◌}
use mathlib.Core.Logic.{⊎_elim}
use mathlib.Core.Bool.{Bool, true, false, not, ◌&&◌, and_assoc}
use mathlib.Core.List.{List}
use lib.Dec.{eqb}
use Rattle.model.specs.Sets.{any, tab, memb, upto, turn}
use Rattle.model.specs.Tree.{Tree, tree_of, size_of}
use Rattle.model.specs.Numbers.{axis_number}
use Rattle.model.specs.declared.kind.Axis.{Axis}
use Rattle.model.specs.Axes.{following, axis, passes, steps}
use Rattle.model.proofs.Booleans.{bool_ext, both_yes, yes_left, yes_right}
use Rattle.model.proofs.Exists.{any_intro, any_elim, any_cong}
use Rattle.sets.specs.NodeSets.{always, combination}
use Rattle.sets.proofs.Images.{trim_upto, image_cong}
use Rattle.tree.specs.Links.{links}
use Rattle.steps.specs.Moves.{hop, plus, star, forward, is_converse, pair_of, passes_all, Linked}
use Rattle.steps.proofs.Closure.{hop_of, hop_falls, hop_is, plus_falls, plus_cases, plus_one, plus_star, plus_split, star_self, star_plus, star_more, star_lower, star_strict}
use Rattle.steps.proofs.Images.{self_of, following_by, moves, forward_by, axis_turns, step_whole}
use Rattle.bits.specs.BitTables.{bit_relation}
use Rattle.bits.specs.Rows.{Becomes, composed, starting_in}
use Rattle.moves.specs.Columns.{column, Moved}
use Rattle.moves.proofs.Columns.{column_whole, composed_of, moved_then, moved_as}

-- one hop or more is any number and then one

module _ (L : ℕ → ℕ) (n : ℕ) where
  star_hop : (x y : ℕ) → y < n → any n (λ z. star L x z && hop L z y) ≡ plus L x y
  star_hop x y ly = bool_ext (any n (λ z. star L x z && hop L z y)) (plus L x y)
      (λ p. let (z, l, q) = any_elim n (λ z. star L x z && hop L z y) p in
      let s : star L x z ≡ true = yes_left (star L x z) (hop L z y) q in
      let h : hop L z y ≡ true = yes_right (star L x z) (hop L z y) q in
      let f : L y < y = hop_falls L z y h in
      let g : L y ≡ z = hop_is L z y h in
      let u : x ≤ z = star_lower L x z s in
      star_strict L x y (star_more L x y f (ap (star L x) g ∙ s)) (omega arith))
      (λ p. let f : L y < y = plus_falls L x y p in
      any_intro n (λ z. star L x z && hop L z y) (L y) (omega arith)
      (both_yes (⊎_elim (λ e. ap (λ (k : ℕ). star L k (L y)) (sym e) ∙ star_self L (L y)) (λ q. star_plus L x (L y) q) (plus_cases L x y p)) (hop_of L (L y) y f refl)))

  hop_star : (x y : ℕ) → y < n → any n (λ z. star L z y && hop L x z) ≡ plus L x y
  hop_star x y ly = bool_ext (any n (λ z. star L z y && hop L x z)) (plus L x y)
      (λ p. let (z, l, q) = any_elim n (λ z. star L z y && hop L x z) p in
      let h : hop L x z ≡ true = yes_right (star L z y) (hop L x z) q in
      plus_star L x z y (plus_one L x z (hop_falls L x z h) (hop_is L x z h)) (yes_left (star L z y) (hop L x z) q))
      (λ p. let (z, h, s) = plus_split L x y p in
      let u : z ≤ y = star_lower L z y s in
      any_intro n (λ z. star L z y && hop L x z) z (omega arith) (both_yes s h))

pub plus_moved : (L : ℕ → ℕ) (n : ℕ) (back : Bool) (w l o : List ℕ) → Moved n (turn back (hop L)) l o → Moved n (turn back (star L)) w l → n ≤ 256 → Moved n (turn back (plus L)) w o
plus_moved L n true w l o p q le = moved_then n le (turn true (star L)) (turn true (hop L)) (turn true (plus L)) w l o q p (λ x y lx ly. hop_star L n y x lx)
plus_moved L n false w l o p q le = moved_then n le (turn false (star L)) (turn false (hop L)) (turn false (plus L)) w l o q p (λ x y lx ly. star_hop L n x y ly)

-- nothing is moved
self_moved : (n : ℕ) (back : Bool) (w : List ℕ) → n ≤ 256 → Moved n (turn back eqb) w w
self_moved n back w le = record {
  size = refl;
  columns = λ y l. self_of n back (column n w y) (tab 256 (upto n (always true))) (column n w y) (whole y) refl le;
  rest = λ i h. refl;
}
  where
    whole : (y : ℕ) → column n w y ≡ tab 256 (combination 1 (tab 256 (upto n (always true))) (column n w y))
    whole y = sym (trim_upto n le (always true) (column n w y) ∙ column_whole n le w y)

module _ (t prev : List ℕ) (k : Linked t prev) where
  small : size_of t ≤ 256
  small = k.tree.sound.at_most

  pub following_moved : (back : Bool) (w l m o : List ℕ) → Moved (size_of t) (turn false (star (links t))) m o → Moved (size_of t) (turn back (plus (links prev))) l m
      → Moved (size_of t) (turn true (star (links t))) w l → Moved (size_of t) (turn back (following (tree_of t))) w o
  following_moved back w l m o p q r = record {
    size = p.size ∙ q.size ∙ r.size;
    columns = λ y h. following_by t prev k back (memb (column (size_of t) w y)) (column (size_of t) l y) (column (size_of t) m y) (column (size_of t) o y) (p.columns y h) (q.columns y h) (r.columns y h);
    rest = λ i h. p.rest i h ∙ q.rest i h ∙ r.rest i h;
  }

  pub forward_moved : (h i : ℕ) (back : Bool) (w o : List ℕ) → Moved (size_of t) (turn back (moves t prev k i)) w o → h ≡ i → Moved (size_of t) (turn back (forward (tree_of t) h)) w o
  forward_moved h i back w o m e =
      moved_as (size_of t) (turn back (moves t prev k i)) (turn back (forward (tree_of t) h)) w o m (λ S r f. forward_by t prev k h i back S r f e)

  pub forward_stay : (h : ℕ) (back : Bool) (w : List ℕ) → h ≡ 0 → Moved (size_of t) (turn back (forward (tree_of t) h)) w w
  unfolding moves
  forward_stay h back w e = forward_moved h 0 back w w (self_moved (size_of t) back w small) e

-- an axis is a forward one or its converse
pub axis_moved : (t : Tree) (n : ℕ) (a : Axis) (turned : Bool) (w o : List ℕ) → Moved n (turn (not turned) (forward t (pair_of (axis_number a)))) w o → turned ≡ is_converse (axis_number a) → n ≤ 256
    → Moved n (turn true (axis t (axis_number a))) w o
axis_moved t n a turned w o m e le = moved_as n (turn (not turned) (forward t (pair_of (axis_number a)))) (turn true (axis t (axis_number a))) w o m
    (λ S r f. f ∙ image_cong n le (turn (not turned) (forward t (pair_of (axis_number a)))) (turn true (axis t (axis_number a))) S
    (λ x y lx ly. rw e (same (is_converse (axis_number a)) x y) ∙ sym (axis_turns t a y x)))
  where
    same : (b : Bool) (x y : ℕ) → turn (not b) (forward t (pair_of (axis_number a))) x y ≡ turn b (forward t (pair_of (axis_number a))) y x
    same true x y = refl
    same false x y = refl

-- a step is an axis and a name test

pub step_all : (t prev : List ℕ) (a name : ℕ) (all : Bool) (w o : List ℕ) → Moved (size_of t) (turn true (axis (tree_of t) a)) w o → all ≡ passes_all (tree_of t) name → all ≡ true → Linked t prev
    → Becomes (size_of t) (composed (size_of t) (steps (tree_of t) a name) (bit_relation w)) w o
step_all t prev a name all w o m e h k = composed_of (size_of t) k.tree.sound.at_most (steps (tree_of t) a name) w o
    (moved_as (size_of t) (turn true (axis (tree_of t) a)) (turn true (steps (tree_of t) a name)) w o m (λ S r f. step_whole t prev a name true S all r f e h k))

pub step_named : (t : Tree) (n a name : ℕ) (w l o : List ℕ) → Moved n (turn true (axis t a)) l o → Becomes n (starting_in (passes t name) (bit_relation w)) w l → n ≤ 256
    → Becomes n (composed n (steps t a name) (bit_relation w)) w o
unfolding composed steps
step_named t n a name w l o m b le = record {
  size = c.size ∙ b.size;
  bits = λ x y lx ly. c.bits x y lx ly ∙ any_cong n _ _ (λ z h.
      ap (λ (u : Bool). axis t a x z && u) (b.bits z y h ly) ∙ sym (and_assoc (axis t a x z) (passes t name z) (bit_relation w z y)));
  rest = λ i h. c.rest i h ∙ b.rest i h;
}
  where
    c : Becomes n (composed n (axis t a) (bit_relation l)) l o
    c = composed_of n le (axis t a) l o m
