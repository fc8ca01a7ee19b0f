-- The pairs of a reversed path are the path's pairs, swapped.
use Prim.Native.Nat.{ℕ, zero, suc, ◌<◌}
use native.Mathlib.Nat.{not-suc-le-zero}
use native.Mathlib.Omega.{arith}
use mathlib.Core.Path.{◌≡◌, refl, sym, ap, ap₂, ◌∙◌}
use mathlib.Core.Bool.{Bool, true, not, ◌&&◌, ◌||◌, and_comm, and_assoc, and-true}
use lib.Dec.{eqb}
use Rattle.model.specs.Sets.{any}
use Rattle.model.specs.Tree.{Tree}
use Rattle.model.specs.Axes.{axis, passes, steps}
use Rattle.model.specs.Accepted.{Sound}
use Rattle.model.specs.Syntax.{Path, NodeExpr}
use Rattle.model.specs.Syntax.Path.{step, compose, union, intersect, except, filter, variable, from_root, closure}
use Rattle.model.specs.Syntax.NodeExpr.{exists, negate, is}
use Rattle.model.specs.Meaning.{pairs_over, pairs, holds}
use Rattle.model.proofs.Booleans.{no_yes, bool_ext, both_yes, yes_left, yes_right, not_yes}
use Rattle.model.proofs.Exists.{any_cong, any_one}
use Rattle.model.proofs.Axes.{eqb_comm, child_axis, self_converse, axis_converse}
use Rattle.model.proofs.Closure.{closed_cong, closed_turn}
use Rattle.model.proofs.Meaning.{compose_pair, root_pair, exists_at, negate_at}
use Rattle.model.proofs.Exactness.{all_pairs}
use Rattle.reversal.specs.Reversed.{converse, to_node, self_where, self_at_root, reversed}

-- for the reader: the converse of an axis has the axis's pairs, swapped, whatever the code
pub converse_swaps : (t : Tree) (a x y : ℕ) → axis t (converse a) x y ≡ axis t a y x
unfolding axis converse
converse_swaps t zero x y = self_converse t x y
converse_swaps t (suc zero) x y = axis_converse t 0 x y (omega arith)
converse_swaps t (suc (suc zero)) x y = sym (axis_converse t 0 y x (omega arith))
converse_swaps t (suc (suc (suc zero))) x y = axis_converse t 1 x y (omega arith)
converse_swaps t (suc (suc (suc (suc zero)))) x y = sym (axis_converse t 1 y x (omega arith))
converse_swaps t (suc (suc (suc (suc (suc zero))))) x y = axis_converse t 2 x y (omega arith)
converse_swaps t (suc (suc (suc (suc (suc (suc zero)))))) x y = sym (axis_converse t 2 y x (omega arith))
converse_swaps t (suc (suc (suc (suc (suc (suc (suc zero))))))) x y = axis_converse t 3 x y (omega arith)
converse_swaps t (suc (suc (suc (suc (suc (suc (suc (suc zero)))))))) x y = sym (axis_converse t 3 y x (omega arith))
converse_swaps t (suc (suc (suc (suc (suc (suc (suc (suc (suc zero))))))))) x y = axis_converse t 4 x y (omega arith)
converse_swaps t (suc (suc (suc (suc (suc (suc (suc (suc (suc (suc zero)))))))))) x y = sym (axis_converse t 4 y x (omega arith))
converse_swaps t (suc (suc (suc (suc (suc (suc (suc (suc (suc (suc (suc zero))))))))))) x y = axis_converse t 5 x y (omega arith)
converse_swaps t (suc (suc (suc (suc (suc (suc (suc (suc (suc (suc (suc (suc zero)))))))))))) x y = sym (axis_converse t 5 y x (omega arith))
converse_swaps t (suc (suc (suc (suc (suc (suc (suc (suc (suc (suc (suc (suc (suc a))))))))))))) x y = refl

-- of two composed relations among n nodes, the first stays at its node, under a test
stays_first : (n : ℕ) (P Q : ℕ → Bool) (x : ℕ) → x < n → any n (λ z. (eqb x z && P z) && Q z) ≡ (P x && Q x)
stays_first n P Q x l =
    any_cong n (λ z. (eqb x z && P z) && Q z) (λ z. eqb z x && (P z && Q z)) (λ z m. and_assoc (eqb x z) (P z) (Q z) ∙ ap (λ (b : Bool). b && (P z && Q z)) (eqb_comm x z))
    ∙ any_one n x (λ z. P z && Q z) l

-- the second does
stays_last : (n : ℕ) (P : ℕ → Bool) (b : Bool) (y : ℕ) → y < n → any n (λ z. P z && (eqb z y && b)) ≡ (P y && b)
stays_last n P b y l =
    any_cong n (λ z. P z && (eqb z y && b)) (λ z. eqb z y && (P z && b)) (λ z m. sym (and_assoc (P z) (eqb z y) b) ∙ ap (λ (c : Bool). c && b) (and_comm (P z) (eqb z y)) ∙ and_assoc (eqb z y) (P z) b)
    ∙ any_one n y (λ z. P z && b) l

module _ (t : Tree) (g : ℕ → ℕ) where
  -- axis::node()
  to_node_lem : (a x y : ℕ) → pairs t g (to_node a) x y ≡ axis t a x y
  unfolding pairs_over steps passes
  to_node_lem a x y = and-true (axis t a x y)

  -- self::name
  self_named : (name x y : ℕ) → pairs t g (step 0 name) x y ≡ (eqb x y && passes t name y)
  unfolding pairs_over steps axis
  self_named name x y = refl

  -- self::node()[e]
  self_where_lem : (e : NodeExpr) (x y : ℕ) → pairs t g (self_where e) x y ≡ (eqb x y && holds t g e y)
  unfolding pairs_over axis
  self_where_lem e x y = ap (λ (b : Bool). b && holds t g e y) (to_node_lem 0 x y)

  -- p/r, where p stays at its node, under a test
  stays_then : (P : ℕ → Bool) (p r : Path) (x y : ℕ) → ((z : ℕ) → pairs t g p x z ≡ (eqb x z && P z)) → x < t.size
      → pairs t g (compose p r) x y ≡ (P x && pairs t g r x y)
  unfolding pairs_over
  stays_then P p r x y h l =
      any_cong t.size (λ z. pairs t g p x z && pairs t g r z y) (λ z. (eqb x z && P z) && pairs t g r z y)
      (λ z m. ap (λ (b : Bool). b && pairs t g r z y) (h z))
      ∙ stays_first t.size P (λ z. pairs t g r z y) x l

  -- self::name/r
  named_then : (name : ℕ) (r : Path) (x y : ℕ) → x < t.size
      → pairs t g (compose (step 0 name) r) x y ≡ (passes t name x && pairs t g r x y)
  named_then name r x y l = stays_then (passes t name) (step 0 name) r x y (self_named name x) l

  -- self::node()[e]/r
  where_then : (e : NodeExpr) (r : Path) (x y : ℕ) → x < t.size
      → pairs t g (compose (self_where e) r) x y ≡ (holds t g e x && pairs t g r x y)
  where_then e r x y l = stays_then (holds t g e) (self_where e) r x y (self_where_lem e x) l

  -- p/self::node()[e]
  then_where : (p : Path) (e : NodeExpr) (x y : ℕ) → y < t.size
      → pairs t g (compose p (self_where e)) x y ≡ (pairs t g p x y && holds t g e y)
  unfolding pairs_over
  then_where p e x y l =
      any_cong t.size (λ z. pairs t g p x z && pairs t g (self_where e) z y) (λ z. pairs t g p x z && (eqb z y && holds t g e y))
      (λ z m. ap (λ (b : Bool). pairs t g p x z && b) (self_where_lem e z y))
      ∙ stays_last t.size (λ z. pairs t g p x z) (holds t g e y) y l

module _ (t : Tree) (s : Sound t) (g : ℕ → ℕ) where
  -- node 0 goes down to every node, and every node up to it

  down : (y : ℕ) → y < t.size → pairs t g (to_node 11) 0 y ≡ true
  down y l = (root_pair t g 0 y (to_node 11)).0 (all_pairs t s g 0 y l)

  up : (x : ℕ) → x < t.size → pairs t g (to_node 12) x 0 ≡ true
  unfolding converse
  up x l = to_node_lem t g 12 x 0 ∙ converse_swaps t 11 x 0 ∙ sym (to_node_lem t g 11 0 x) ∙ down x l

  -- node 0 alone has no parent

  parent_of : (x y : ℕ) → pairs t g (to_node 2) x y ≡ axis t 1 y x
  unfolding converse
  parent_of x y = to_node_lem t g 2 x y ∙ converse_swaps t 1 x y

  abbrev parentless : NodeExpr
  parentless = negate (exists (to_node 2))

  root_only : (x : ℕ) → x < t.size → holds t g parentless x ≡ true → x ≡ 0
  root_only zero l h = refl
  root_only (suc x) l h =
      let f : t.parent (suc x) < suc x = s.falls (suc x) (omega arith) l in
      let has = parent_of (suc x) (t.parent (suc x)) ∙ (child_axis t (t.parent (suc x)) (suc x)).1 (omega arith, refl) in
      no_yes ((negate_at t g (suc x) 0 (exists (to_node 2))).0 h)
      ((exists_at t g (suc x) 0 (to_node 2)).1 (t.parent (suc x), omega arith, has))

  root_is : holds t g parentless 0 ≡ true
  root_is =
      (negate_at t g 0 0 (exists (to_node 2))).1
      (not_yes (holds t g (exists (to_node 2)) 0)
      (λ h. let (z, l, p) = (exists_at t g 0 0 (to_node 2)).0 h in not-suc-le-zero ((child_axis t z 0).0 (sym (parent_of 0 z) ∙ p)).0))

  -- the reversed variable: its node goes to every node, and no other node goes anywhere
  variable_swapped : (k x y : ℕ) → x < t.size → y < t.size → pairs t g (reversed (variable k)) x y ≡ pairs t g (variable k) y x
  unfolding reversed pairs_over
  variable_swapped k x y lx ly =
      bool_ext (pairs t g (reversed (variable k)) x y) (eqb x (g k))
      (λ h. let (z, l, a, b) = (compose_pair t g x y (compose (self_where (is k)) (to_node 12)) (to_node 11)).0 h in
      yes_left (eqb x (g k)) (pairs t g (to_node 12) x z) (sym (where_then t g (is k) (to_node 12) x z lx) ∙ a))
      (λ h. (compose_pair t g x y (compose (self_where (is k)) (to_node 12)) (to_node 11)).1
      (0, s.some_node, where_then t g (is k) (to_node 12) x 0 lx ∙ both_yes h (up x lx), down y ly))

  -- the reversed path from the root: what reaches the root by the reversed path goes on to every node
  root_swapped : (p : Path) (x y : ℕ) → y < t.size → pairs t g (reversed p) x 0 ≡ pairs t g p 0 x
      → pairs t g (reversed (from_root p)) x y ≡ pairs t g (from_root p) y x
  unfolding reversed pairs_over
  root_swapped p x y ly h =
      bool_ext (pairs t g (reversed (from_root p)) x y) (pairs t g p 0 x)
      (λ r. let (z, l, a, b) = (compose_pair t g x y (compose (reversed p) self_at_root) (to_node 11)).0 r in
      let ends = sym (then_where t g (reversed p) parentless x z l) ∙ a in
      let e : z ≡ 0 = root_only z l (yes_right (pairs t g (reversed p) x z) (holds t g parentless z) ends) in
      sym h ∙ ap (pairs t g (reversed p) x) (sym e) ∙ yes_left (pairs t g (reversed p) x z) (holds t g parentless z) ends)
      (λ r. (compose_pair t g x y (compose (reversed p) self_at_root) (to_node 11)).1
      (0, s.some_node, then_where t g (reversed p) parentless x 0 s.some_node ∙ both_yes (h ∙ r) root_is, down y ly))

  -- for the reader: under every assignment, on every tree whose nodes' parents come before them, the reversed path has the pairs of the
  -- path, swapped
  pub reversed_pairs : (p : Path) (x y : ℕ) → x < t.size → y < t.size → pairs t g (reversed p) x y ≡ pairs t g p y x
  unfolding reversed pairs_over steps
  reversed_pairs (step a name) x y lx ly =
      named_then t g name (to_node (converse a)) x y lx
      ∙ ap (λ (b : Bool). passes t name x && b) (to_node_lem t g (converse a) x y ∙ converse_swaps t a x y)
      ∙ and_comm (passes t name x) (axis t a y x)
  reversed_pairs (compose p q) x y lx ly =
      any_cong t.size (λ z. pairs t g (reversed q) x z && pairs t g (reversed p) z y) (λ z. pairs t g p y z && pairs t g q z x)
      (λ z l. ap₂ ◌&&◌ (reversed_pairs q x z lx l) (reversed_pairs p z y l ly) ∙ and_comm (pairs t g q z x) (pairs t g p y z))
  reversed_pairs (union p q) x y lx ly = ap₂ ◌||◌ (reversed_pairs p x y lx ly) (reversed_pairs q x y lx ly)
  reversed_pairs (intersect p q) x y lx ly = ap₂ ◌&&◌ (reversed_pairs p x y lx ly) (reversed_pairs q x y lx ly)
  reversed_pairs (except p q) x y lx ly = ap₂ (λ (a b : Bool). a && not b) (reversed_pairs p x y lx ly) (reversed_pairs q x y lx ly)
  reversed_pairs (filter p e) x y lx ly =
      where_then t g e (reversed p) x y lx
      ∙ ap (λ (b : Bool). holds t g e x && b) (reversed_pairs p x y lx ly)
      ∙ and_comm (holds t g e x) (pairs t g p y x)
  reversed_pairs (variable k) x y lx ly = variable_swapped k x y lx ly
  reversed_pairs (from_root p) x y lx ly = root_swapped p x y ly (reversed_pairs p x 0 lx s.some_node)
  reversed_pairs (closure p) x y lx ly =
      closed_cong t.size (pairs t g (reversed p)) (λ a b. pairs t g p b a) (reversed_pairs p) t.size (omega arith) x y lx ly
      ∙ closed_turn (pairs t g p) t.size x y

  -- for the reader: reversed twice, a path has the pairs that it had
  pub reversed_twice : (p : Path) (x y : ℕ) → x < t.size → y < t.size → pairs t g (reversed (reversed p)) x y ≡ pairs t g p x y
  reversed_twice p x y lx ly = reversed_pairs (reversed p) x y lx ly ∙ reversed_pairs p y x ly lx
