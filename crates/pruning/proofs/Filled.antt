-- The law that pages rest on: an answer that fills a prefix in which every variable at a negative place is bound satisfies the query
-- with the rest standing for any node. So where the query does not hold with the rest standing for any node, no row that begins with
-- the prefix is an answer, and all of them can be left out. By induction, the same is said of each pair and each node.
use Prim.Native.Nat.{ℕ, ◌<◌, max}
use native.Mathlib.Omega.{arith}
use mathlib.Core.Path.{◌≡◌, sym, ap, ◌∙◌}
use mathlib.Core.Logic.{⊎_elim}
use mathlib.Core.Bool.{Bool, true, false, not, ◌&&◌, ◌||◌}
use lib.Dec.{eqb}
use Rattle.model.specs.Sets.{any, closed}
use Rattle.model.specs.Tree.{Tree}
use Rattle.model.specs.Syntax.{Path, NodeExpr}
use Rattle.model.specs.Syntax.Path.{step, compose, union, intersect, except, filter, variable, from_root, closure}
use Rattle.model.specs.Syntax.NodeExpr.{exists, negate, both, either, is, same}
use Rattle.model.specs.Encoding.{path_term, expr_term}
use Rattle.model.specs.Meaning.{pairs_over, holds_over, pairs, holds}
use Rattle.model.specs.Sharing.{opened, opened_expr, Fills, has_pair}
use Rattle.model.specs.Accepted.{Sound}
use Rattle.model.proofs.Booleans.{Seen, seen, both_yes, yes_left, yes_right, or_left, or_right, or_cases}
use Rattle.model.proofs.Booleans.Seen.{yes!, no! }
use Rattle.model.proofs.Exists.{any_intro, any_elim}
use Rattle.model.proofs.Closure.{closed_refl, closed_step, closed_trans, closed_least}
use Rattle.model.proofs.Sharing.{same_pairs, same_holds, opened_none, opened_none_expr}
use Rattle.model.proofs.Exactness.{all_pairs, all_hold}
use Rattle.pruning.specs.Pruning.{reach_in, bound_in}
use Rattle.pruning.proofs.Standing.{path_reach, expr_reach}

-- a test that implies another, and tests made of such

and_mono : (a b c d : Bool) → (a ≡ true → c ≡ true) → (b ≡ true → d ≡ true) → (a && b) ≡ true → (c && d) ≡ true
and_mono a b c d f g h = both_yes (f (yes_left a b h)) (g (yes_right a b h))

or_mono : (a b c d : Bool) → (a ≡ true → c ≡ true) → (b ≡ true → d ≡ true) → (a || b) ≡ true → (c || d) ≡ true
or_mono a b c d f g h = ⊎_elim (λ p. or_left c d (f p)) (λ p. or_right c d (g p)) (or_cases a b h)

any_mono : (n : ℕ) (f g : ℕ → Bool) → ((z : ℕ) → z < n → f z ≡ true → g z ≡ true) → any n f ≡ true → any n g ≡ true
any_mono n f g w h = let (z, l, p) = any_elim n f h in any_intro n g z l (w z l p)

closed_mono : (n : ℕ) (R S : ℕ → ℕ → Bool) → ((x y : ℕ) → y < n → R x y ≡ true → S x y ≡ true) → (x y : ℕ) → y < n → closed n R x y ≡ true → closed n S x y ≡ true
closed_mono n R S w x y l h =
    closed_least R (λ x y. y < n → closed n S x y ≡ true) (λ x l. closed_refl S n x) (λ x y p l. closed_step S n x y (w x y l p)) n
    (λ x z y m p q l. closed_trans S n x z y m (p m) (q l)) x y h l

module _ (t : Tree) (sound : Sound t) (free : ℕ → Bool) (g h : ℕ → ℕ) (fills : Fills t.size free g h) where
  -- the first n variables are bound
  abbrev Bound : ℕ → Type 0
  Bound n = (k : ℕ) → k < n → free k ≡ false

  from_left : (m n : ℕ) → Bound (max m n) → Bound m
  from_left m n b k l = b k (omega arith)

  from_right : (m n : ℕ) → Bound (max m n) → Bound n
  from_right m n b k l = b k (omega arith)

  -- a part whose variables are all bound is opened to itself, and is the same under both assignments

  path_same : (p : Path) → Bound (reach_in (path_term p)) → (x y : ℕ) → pairs t h p x y ≡ pairs t g (opened free p) x y
  path_same p b x y =
      same_pairs t h g p (λ k u. fills.kept k (b k (path_reach k p u))) x y
      ∙ ap (λ (r : Path). pairs t g r x y) (sym (opened_none free p (λ k u. b k (path_reach k p u))))

  expr_same : (e : NodeExpr) → Bound (reach_in (expr_term e)) → (x : ℕ) → holds t h e x ≡ holds t g (opened_expr free e) x
  expr_same e b x =
      same_holds t h g e (λ k u. fills.kept k (b k (expr_reach k e u))) x
      ∙ ap (λ (r : NodeExpr). holds t g r x) (sym (opened_none_expr free e (λ k u. b k (expr_reach k e u))))

  -- the test whether a variable is at y, and the one that stands for it
  variable_kept : (k y : ℕ) (b : Bool) → (free k ≡ true → b ≡ true) → (free k ≡ false → b ≡ eqb y (g k)) → eqb y (h k) ≡ true → b ≡ true
  variable_kept k y b any-node own c = go (seen (free k))
    where
      go : Seen (free k) → b ≡ true
      go (yes! p) = any-node p
      go (no! p) = own p ∙ ap (eqb y) (sym (fills.kept k p)) ∙ c

  mutual
    unfolding pairs_over holds_over opened opened_expr path_term expr_term bound_in

    filled_pair : (p : Path) → Bound (bound_in (path_term p)) → (x y : ℕ) → y < t.size → pairs t h p x y ≡ true → pairs t g (opened free p) x y ≡ true
    filled_pair (step a name) b x y l c = c
    filled_pair (compose p q) b x y l c =
        any_mono t.size (λ z. pairs t h p x z && pairs t h q z y) (λ z. pairs t g (opened free p) x z && pairs t g (opened free q) z y)
        (λ z m. and_mono (pairs t h p x z) (pairs t h q z y) (pairs t g (opened free p) x z) (pairs t g (opened free q) z y)
        (λ d. filled_pair p (from_left _ _ b) x z m d) (λ d. filled_pair q (from_right _ _ b) z y l d)) c
    filled_pair (union p q) b x y l c =
        or_mono (pairs t h p x y) (pairs t h q x y) (pairs t g (opened free p) x y) (pairs t g (opened free q) x y)
        (λ d. filled_pair p (from_left _ _ b) x y l d) (λ d. filled_pair q (from_right _ _ b) x y l d) c
    filled_pair (intersect p q) b x y l c =
        and_mono (pairs t h p x y) (pairs t h q x y) (pairs t g (opened free p) x y) (pairs t g (opened free q) x y)
        (λ d. filled_pair p (from_left _ _ b) x y l d) (λ d. filled_pair q (from_right _ _ b) x y l d) c
    filled_pair (except p q) b x y l c =
        and_mono (pairs t h p x y) (not (pairs t h q x y)) (pairs t g (opened free p) x y) (not (pairs t g (opened free q) x y))
        (λ d. filled_pair p (from_left _ _ b) x y l d) (λ d. ap not (sym (path_same q (from_right _ _ b) x y)) ∙ d) c
    filled_pair (filter p e) b x y l c =
        and_mono (pairs t h p x y) (holds t h e y) (pairs t g (opened free p) x y) (holds t g (opened_expr free e) y)
        (λ d. filled_pair p (from_left _ _ b) x y l d) (λ d. filled_holds e (from_right _ _ b) y l d) c
    filled_pair (variable k) b x y l c =
        variable_kept k y (pairs t g (opened free (variable k)) x y) (λ p. rw p (all_pairs t sound g x y l)) (λ p. rw p) c
    filled_pair (from_root p) b x y l c = filled_pair p b 0 y l c
    filled_pair (closure p) b x y l c =
        closed_mono t.size (pairs t h p) (pairs t g (opened free p)) (λ u v m d. filled_pair p b u v m d) x y l c

    filled_holds : (e : NodeExpr) → Bound (bound_in (expr_term e)) → (x : ℕ) → x < t.size → holds t h e x ≡ true → holds t g (opened_expr free e) x ≡ true
    filled_holds (exists p) b x l c =
        any_mono t.size (λ y. pairs t h p x y) (λ y. pairs t g (opened free p) x y) (λ y m d. filled_pair p b x y m d) c
    filled_holds (negate e) b x l c = ap not (sym (expr_same e b x)) ∙ c
    filled_holds (both e f) b x l c =
        and_mono (holds t h e x) (holds t h f x) (holds t g (opened_expr free e) x) (holds t g (opened_expr free f) x)
        (λ d. filled_holds e (from_left _ _ b) x l d) (λ d. filled_holds f (from_right _ _ b) x l d) c
    filled_holds (either e f) b x l c =
        or_mono (holds t h e x) (holds t h f x) (holds t g (opened_expr free e) x) (holds t g (opened_expr free f) x)
        (λ d. filled_holds e (from_left _ _ b) x l d) (λ d. filled_holds f (from_right _ _ b) x l d) c
    filled_holds (is k) b x l c =
        variable_kept k x (holds t g (opened_expr free (is k)) x) (λ p. rw p (all_hold t g x l)) (λ p. rw p) c
    filled_holds (same p q) b x l c =
        any_mono t.size (λ y. pairs t h p x y && pairs t h q x y) (λ y. pairs t g (opened free p) x y && pairs t g (opened free q) x y)
        (λ y m. and_mono (pairs t h p x y) (pairs t h q x y) (pairs t g (opened free p) x y) (pairs t g (opened free q) x y)
        (λ d. filled_pair p (from_left _ _ b) x y m d) (λ d. filled_pair q (from_right _ _ b) x y m d)) c

  -- for the reader: where every variable at a negative place is filled, a path that has a pair with some choice of nodes for the others has
  -- one with these standing for any node
  pub filled : (p : Path) → ((k : ℕ) → k < bound_in (path_term p) → free k ≡ false) → has_pair t h p ≡ true → has_pair t g (opened free p) ≡ true
  filled p b c =
      any_mono t.size (λ x. any t.size (λ y. pairs t h p x y)) (λ x. any t.size (λ y. pairs t g (opened free p) x y))
      (λ x m. any_mono t.size (λ y. pairs t h p x y) (λ y. pairs t g (opened free p) x y) (λ y l. filled_pair p b x y l)) c
