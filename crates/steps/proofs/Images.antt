-- The image of a set under each axis and under a step, by moves along the links.
use Prim.Native.Nat.{ℕ, zero, suc, ◌%◌, ◌≤◌, ◌<◌}
use native.Mathlib.Omega.{arith}
use mathlib.Core.Path.{◌≡◌, refl, sym, ap, ◌∙◌}
use mathlib.Core.Logic.{◌⊎◌, ⊎_elim}
use mathlib.Core.Bool.{Bool, true, false, not, ◌&&◌, and_comm}
use mathlib.Core.List.{List, [], ◌∷◌}
use lib.ListN.{get_or}
use lib.Dec.{ltb, eqb}
use borrow.Author.Tests.{ne_eqb, ltb-true, ltb-false, not-true}
use Rattle.model.specs.Sets.{any, bit, tab, memb, upto, turn, image}
use Rattle.model.specs.Tree.{Tree, tree_of, size_of}
use Rattle.model.specs.Axes.{is_document, no_axis, following, following_sibling, axis, matches, passes, steps}
use Rattle.model.specs.Accepted.{Ordered}
use Rattle.model.specs.Numbers.{axis_number}
use Rattle.model.specs.declared.kind.Axis.{Axis}
use Rattle.model.specs.declared.kind.Axis.TheVariants.{Itself, Child, Parent, Right, Left, Descendant, Ancestor, Following, Preceding, FollowingSibling, PrecedingSibling, DescendantOrSelf, AncestorOrSelf}
use Rattle.model.proofs.Booleans.{Seen, seen, bool_ext, both_yes, yes_left, yes_right, or_left, or_right, or_cases, lt_or_le}
use Rattle.model.proofs.Booleans.Seen.{yes!, no! }
use Rattle.model.proofs.Exists.{any_intro, any_elim, any_cong, any_one}
use Rattle.model.proofs.Axes.{eqb_comm}
use Rattle.sets.specs.NodeSets.{always, combination}
use Rattle.sets.proofs.Images.{upto_cong, trim_upto, image_cong, image_turned, image_compose, image_or, image_keep, image_kept}
use Rattle.tree.specs.Links.{links}
use Rattle.steps.specs.Moves.{hop, plus, star, forward, is_converse, pair_of, passes_all, Linked}
use Rattle.steps.proofs.Closure.{star_lower}
use Rattle.steps.proofs.Axes.{child_hop, right_hop, descendant_plus, descendant_star, sibling_plus, following_of, following_is, axis_turn_lem}

-- staying
pub self_of : (n : ℕ) (back : Bool) (s f o : List ℕ) → o ≡ tab 256 (combination 1 f s) → f ≡ tab 256 (upto n (always true)) → n ≤ 256 → o ≡ tab 256 (image n (turn back eqb) (memb s))
unfolding image
self_of n back s f o p e l = p ∙ rw e (trim_upto n l (always true) s ∙ upto_cong n l (memb s) _ (λ k m. sym (same back k m)))
  where
    one : (k : ℕ) → k < n → any n (λ x. memb s x && eqb x k) ≡ memb s k
    one k m = any_cong n _ _ (λ x h. and_comm (memb s x) (eqb x k)) ∙ any_one n k (memb s) m

    same : (back : Bool) (k : ℕ) → k < n → any n (λ x. memb s x && turn back eqb x k) ≡ memb s k
    same true k m = any_cong n _ _ (λ x h. ap (λ (b : Bool). memb s x && b) (eqb_comm k x)) ∙ one k m
    same false k m = one k m

-- staying, or hops
pub star_of : (n : ℕ) (back : Bool) (L : ℕ → ℕ) (S : ℕ → Bool) (a b o : List ℕ) → o ≡ tab 256 (combination 0 a b) → a ≡ tab 256 (image n (turn back eqb) S) → b ≡ tab 256 (image n (turn back (plus L)) S) → n ≤ 256 → o ≡ tab 256 (image n (turn back (star L)) S)
unfolding star
star_of n true L S a b o p e f l = p ∙ rw (e, f) (image_or n l (λ x y. eqb y x) (λ x y. plus L y x) S)
star_of n false L S a b o p e f l = p ∙ rw (e, f) (image_or n l eqb (plus L) S)

module _ (t prev : List ℕ) (k : Linked t prev) where
  small : size_of t ≤ 256
  small = k.tree.sound.at_most

  -- up or stay, along the siblings, down or stay

  abbrev across : Bool → ℕ → ℕ → Bool
  across back x w = any (size_of t) (λ z. star (links t) z x && turn back (plus (links prev)) z w)

  abbrev around : Bool → ℕ → ℕ → Bool
  around back x y = any (size_of t) (λ w. across back x w && star (links t) w y)

  around_in : (back : Bool) (x y z w : ℕ) → x < size_of t → y < size_of t → star (links t) z x ≡ true → turn back (plus (links prev)) z w ≡ true → star (links t) w y ≡ true → around back x y ≡ true
  around_in back x y z w lx ly p q r =
      let zx : z ≤ x = star_lower (links t) z x p in
      let wy : w ≤ y = star_lower (links t) w y r in
      any_intro (size_of t) (λ w. across back x w && star (links t) w y) w (omega arith)
      (both_yes (any_intro (size_of t) (λ z. star (links t) z x && turn back (plus (links prev)) z w) z (omega arith) (both_yes p q)) r)

  around_out : (back : Bool) (x y : ℕ) → around back x y ≡ true → (z : ℕ) × (w : ℕ) × (z < size_of t) × (w < size_of t) × (star (links t) z x ≡ true) × (turn back (plus (links prev)) z w ≡ true) × (star (links t) w y ≡ true)
  around_out back x y h =
      let (w, lw, q) = any_elim (size_of t) (λ w. across back x w && star (links t) w y) h in
      let (z, lz, p) = any_elim (size_of t) (λ z. star (links t) z x && turn back (plus (links prev)) z w) (yes_left (across back x w) (star (links t) w y) q) in
      (z, w, lz, lw, yes_left (star (links t) z x) (turn back (plus (links prev)) z w) p, yes_right (star (links t) z x) (turn back (plus (links prev)) z w) p, yes_right (across back x w) (star (links t) w y) q)

  sibling : (x y : ℕ) → y < size_of t → following_sibling (tree_of t) x y ≡ plus (links prev) x y
  sibling x y l = sibling_plus (tree_of t) prev k.siblings x y l

  follows_out : (x y : ℕ) → y < size_of t → following (tree_of t) x y ≡ true → (z : ℕ) × (w : ℕ) × (star (links t) z x ≡ true) × (plus (links prev) z w ≡ true) × (star (links t) w y ≡ true)
  follows_out x y ly h =
      let a = following_is (tree_of t) k.tree x y ly h in
      let l : a.later ≤ y = star_lower (links t) a.later y a.down in
      (a.over, a.later, a.up, sym (sibling a.over a.later (omega arith)) ∙ a.along, a.down)

  around_is : (back : Bool) (x y : ℕ) → x < size_of t → y < size_of t → around back x y ≡ turn back (following (tree_of t)) x y
  around_is true x y lx ly = bool_ext (around true x y) (following (tree_of t) y x)
      (λ h. let (z, w, lz, lw, p, q, r) = around_out true x y h in following_of (tree_of t) k.tree y x ly lx (record { over = w; later = z; up = r; along = sibling w z lz ∙ q; down = p }))
      (λ h. let (w, z, p, q, r) = follows_out y x lx h in around_in true x y z w lx ly r q p)
  around_is false x y lx ly = bool_ext (around false x y) (following (tree_of t) x y)
      (λ h. let (z, w, lz, lw, p, q, r) = around_out false x y h in following_of (tree_of t) k.tree x y lx ly (record { over = z; later = w; up = p; along = sibling z w lw ∙ q; down = r }))
      (λ h. let (z, w, p, q, r) = follows_out x y ly h in around_in false x y z w lx ly p q r)

  pub following_by : (back : Bool) (S : ℕ → Bool) (a b c : List ℕ) → c ≡ tab 256 (image (size_of t) (turn false (star (links t))) (memb b)) → b ≡ tab 256 (image (size_of t) (turn back (plus (links prev))) (memb a)) → a ≡ tab 256 (image (size_of t) (turn true (star (links t))) S) → c ≡ tab 256 (image (size_of t) (turn back (following (tree_of t))) S)
  following_by back S a b c f g h =
      f ∙ ap (λ (l : List ℕ). tab 256 (image (size_of t) (star (links t)) (memb l))) (g ∙ ap (λ (l : List ℕ). tab 256 (image (size_of t) (turn back (plus (links prev))) (memb l))) h ∙ image_compose (size_of t) small (λ x z. star (links t) z x) (turn back (plus (links prev))) S)
      ∙ image_compose (size_of t) small (across back) (star (links t)) S
      ∙ image_cong (size_of t) small (around back) (turn back (following (tree_of t))) S (around_is back)

  -- the forward axes as moves, in their order
  unfoldable pub moves : ℕ → ℕ → ℕ → Bool
  moves h =
      get_or
      (eqb
      ∷ hop (links t)
      ∷ hop (links prev)
      ∷ plus (links t)
      ∷ following (tree_of t)
      ∷ plus (links prev)
      ∷ star (links t)
      ∷ [])
      h
      no_axis

  forward_moves : (h x y : ℕ) → y < size_of t → forward (tree_of t) h x y ≡ moves h x y
  unfolding forward moves
  forward_moves zero x y l = refl
  forward_moves (suc zero) x y l = child_hop (tree_of t) k.tree.sound x y l
  forward_moves (suc (suc zero)) x y l = right_hop (tree_of t) prev k.siblings x y l
  forward_moves (suc (suc (suc zero))) x y l = descendant_plus (tree_of t) k.tree.sound x y l
  forward_moves (suc (suc (suc (suc zero)))) x y l = refl
  forward_moves (suc (suc (suc (suc (suc zero))))) x y l = sibling x y l
  forward_moves (suc (suc (suc (suc (suc (suc zero)))))) x y l = descendant_star (tree_of t) k.tree.sound x y l
  forward_moves (suc (suc (suc (suc (suc (suc (suc h))))))) x y l = refl

  pub forward_by : (h i : ℕ) (back : Bool) (S : ℕ → Bool) (r : List ℕ) → r ≡ tab 256 (image (size_of t) (turn back (moves i)) S) → h ≡ i → r ≡ tab 256 (image (size_of t) (turn back (forward (tree_of t) h)) S)
  forward_by h i back S r e z = e ∙ rw z (image_turned (size_of t) small back (moves i) (forward (tree_of t) i) S (λ x y lx ly. sym (forward_moves i x y ly)))

-- an axis is a forward one or its converse

axis_within : (a : Axis) → axis_number a ≤ 12
axis_within Itself = omega arith
axis_within Child = omega arith
axis_within Parent = omega arith
axis_within Right = omega arith
axis_within Left = omega arith
axis_within Descendant = omega arith
axis_within Ancestor = omega arith
axis_within Following = omega arith
axis_within Preceding = omega arith
axis_within FollowingSibling = omega arith
axis_within PrecedingSibling = omega arith
axis_within DescendantOrSelf = omega arith
axis_within AncestorOrSelf = omega arith

pub axis_turns : (t : Tree) (a : Axis) (x y : ℕ) → axis t (axis_number a) x y ≡ turn (is_converse (axis_number a)) (forward t (pair_of (axis_number a))) x y
axis_turns t a x y = axis_turn_lem t (axis_number a) x y (axis_within a)

-- the pair of one of two axes
pub pair_is : (a b c : Axis) (i : ℕ) → (a ≡ b) ⊎ (a ≡ c) → pair_of (axis_number b) ≡ i → pair_of (axis_number c) ≡ i → pair_of (axis_number a) ≡ i
pair_is a b c i h p q = ⊎_elim (λ e. ap (λ (x : Axis). pair_of (axis_number x)) e ∙ p) (λ e. ap (λ (x : Axis). pair_of (axis_number x)) e ∙ q) h

module _ (t : Tree) (n : ℕ) (a : Axis) (back : Bool) (S : ℕ → Bool) (r : List ℕ) (l : n ≤ 256) where
  axis_by : r ≡ tab 256 (image n (turn back (turn (is_converse (axis_number a)) (forward t (pair_of (axis_number a))))) S) → r ≡ tab 256 (image n (turn back (axis t (axis_number a))) S)
  axis_by e = e ∙ image_turned n l back (turn (is_converse (axis_number a)) (forward t (pair_of (axis_number a)))) (axis t (axis_number a)) S (λ x y lx ly. sym (axis_turns t a x y))

  pub axis_turned : r ≡ tab 256 (image n (turn (not back) (forward t (pair_of (axis_number a)))) S) → is_converse (axis_number a) ≡ true → r ≡ tab 256 (image n (turn back (axis t (axis_number a))) S)
  axis_turned e z = axis_by (e ∙ rw z (twice back))
    where
      twice : (b : Bool) → tab 256 (image n (turn (not b) (forward t (pair_of (axis_number a)))) S) ≡ tab 256 (image n (turn b (turn true (forward t (pair_of (axis_number a))))) S)
      twice true = refl
      twice false = refl

  pub axis_straight : r ≡ tab 256 (image n (turn back (forward t (pair_of (axis_number a)))) S) → is_converse (axis_number a) ≡ false → r ≡ tab 256 (image n (turn back (axis t (axis_number a))) S)
  axis_straight e z = axis_by (e ∙ rw z)

-- numbers of 16 bits are compared as such
pub same_tag : (name g : ℕ) → g < 65536 → (ltb name 65536 && eqb g (name % 65536)) ≡ eqb g name
same_tag name g l = go (seen (ltb name 65536))
  where
    go : Seen (ltb name 65536) → (ltb name 65536 && eqb g (name % 65536)) ≡ eqb g name
    go (yes! p) = let m : name % 65536 ≡ name = let k = ltb-true name 65536 p in omega arith in rw (p, m)
    go (no! p) = rw p (sym (ne_eqb g name (λ q. let k = ltb-false name 65536 p in absurd (omega arith))))

-- a node passes by its tag
pub named_byte : (t : Tree) (name y g v : ℕ) (b : Bool) → v ≡ bit b → b ≡ matches name g → g ≡ t.tag y → v ≡ bit (passes t name y)
unfolding passes
named_byte t name y g v b p q e = p ∙ ap bit (q ∙ ap (matches name) e)

-- a step is an axis and a name test

module _ (t : Tree) (n a name : ℕ) (l : n ≤ 256) (f : List ℕ) (g : f ≡ tab 256 (upto n (passes t name))) where
  pub step_on : (S : ℕ → Bool) (m o : List ℕ) → o ≡ tab 256 (combination 1 m f) → m ≡ tab 256 (image n (turn false (axis t a)) S) → o ≡ tab 256 (image n (turn false (steps t a name)) S)
  unfolding steps
  step_on S m o p e = p ∙ rw (e, g) (image_keep n l (axis t a) (passes t name) S)

  pub step_back : (s m o : List ℕ) → o ≡ tab 256 (image n (turn true (axis t a)) (memb m)) → m ≡ tab 256 (combination 1 s f) → o ≡ tab 256 (image n (turn true (steps t a name)) (memb s))
  unfolding steps
  step_back s m o p e = p ∙ rw (e, g) (image_kept n l (λ x y. axis t a y x) (passes t name) s)

-- an accepted tree has a node
pub some_nodes : (t prev : List ℕ) → Linked t prev → 0 < size_of t
some_nodes t prev k = k.tree.sound.some_node

-- where node 0 is no document node, no node is one
passes_each : (t : Tree) → Ordered t → (name y : ℕ) → y < t.size → passes_all t name ≡ true → passes t name y ≡ true
unfolding passes
passes_each t o name y l h =
    ⊎_elim (λ p. or_left (eqb name 65534) _ p)
    (λ p. or_right (eqb name 65534) _ (or_left (eqb name 65535 && not (is_document t y)) _ (both_yes (yes_left (eqb name 65535) (not (is_document t 0)) p) (rw (element (yes_right (eqb name 65535) (not (is_document t 0)) p))))))
    (or_cases (eqb name 65534) (eqb name 65535 && not (is_document t 0)) h)
  where
    element : not (is_document t 0) ≡ true → is_document t y ≡ false
    element p = ⊎_elim (λ k. o.document y k l) (λ k. let e : y ≡ 0 = omega arith in rw e (not-true (is_document t 0) p)) (lt_or_le 0 y)

-- a step whose test every node passes cuts nothing
pub step_whole : (t prev : List ℕ) (a name : ℕ) (back : Bool) (S : ℕ → Bool) (all : Bool) (o : List ℕ) → o ≡ tab 256 (image (size_of t) (turn back (axis (tree_of t) a)) S)
    → all ≡ passes_all (tree_of t) name → all ≡ true → Linked t prev → o ≡ tab 256 (image (size_of t) (turn back (steps (tree_of t) a name)) S)
unfolding steps
step_whole t prev a name back S all o p e h k =
    p ∙ image_turned (size_of t) (small t prev k) back (axis (tree_of t) a) (steps (tree_of t) a name) S
    (λ x y lx ly. rw (passes_each (tree_of t) k.tree name y ly (sym e ∙ h)) (sym (and_comm (axis (tree_of t) a x y) true)))
