-- The theorem of source document 004: a path that keeps the rule of specs/Sharing.antt has a pair with variables standing for any
-- node exactly if it has one with some choice of nodes for them. By induction, the same is said of each pair and each node.
use Prim.Native.Nat.{ℕ, zero, suc, ◌<◌}
use native.Mathlib.Nat.{not-suc-le-zero}
use native.Mathlib.Omega.{arith}
use mathlib.Core.Path.{◌≡◌, refl, sym, ap, ◌∙◌}
use mathlib.Core.Logic.{◌⊎◌, ⊎_elim, ◌↔◌}
use mathlib.Core.Bool.{Bool, true, false, ◌&&◌, ◌||◌, cond}
use lib.Dec.{eqb}
use borrow.Author.Tests.{eq-eqb, eqb-true}
use Rattle.model.specs.Sets.{any}
use Rattle.model.specs.Tree.{Tree}
use Rattle.model.specs.Axes.{axis}
use Rattle.model.specs.Syntax.{Path, NodeExpr}
use Rattle.model.specs.Syntax.Path.{step, compose, union, intersect, except, filter, variable, from_root, closure}
use Rattle.model.specs.Syntax.NodeExpr.{exists, negate, both, either, is, same}
use Rattle.model.specs.Meaning.{pairs_over, holds_over, pairs, holds}
use Rattle.model.specs.Sharing.{in_path, in_expr, shared, used, path_breaks, expr_breaks, Unshared, UnsharedExpr, any_node, everywhere, opened, opened_expr, Fills, Exact}
use Rattle.model.specs.Accepted.{Sound}
use Rattle.model.proofs.Booleans.{Seen, seen, no_yes, both_yes, yes_left, yes_right, or_left, or_right, or_cases, not_yes}
use Rattle.model.proofs.Booleans.Seen.{yes!, no! }
use Rattle.model.proofs.Exists.{any_intro, any_elim, none_of}
use Rattle.model.proofs.Axes.{self_axis, child_axis, descendant_axis, descendant_or_self_axis}
use Rattle.model.proofs.Meaning.{step_pair, root_pair, exists_at}
use Rattle.model.proofs.Sharing.{same_pairs, same_holds, opened_none, opened_none_expr}

-- what stands for a free variable

-- every node is node 0 or below it; m bounds the way up
below_root : (t : Tree) → Sound t → (m y : ℕ) → y < m → y < t.size → axis t 11 0 y ≡ true
below_root t s zero y k l = absurd (not-suc-le-zero k)
below_root t s (suc m) zero k l = (descendant_or_self_axis t 0 0).1 (◌⊎◌.inl refl)
below_root t s (suc m) (suc y) k l =
    let p : t.parent (suc y) < suc y = s.falls (suc y) (omega arith) l in
    (descendant_or_self_axis t 0 (suc y)).1
    (◌⊎◌.inr
    ((descendant_axis t s 0 (suc y) l).1
    (t.parent (suc y), (child_axis t (t.parent (suc y)) (suc y)).1 (omega arith, refl), below_root t s m (t.parent (suc y)) (omega arith) (omega arith))))

-- for the reader: what stands for a free variable has every pair of nodes
pub all_pairs : (t : Tree) → Sound t → (g : ℕ → ℕ) (x y : ℕ) → y < t.size → pairs t g any_node x y ≡ true
all_pairs t s g x y l = (root_pair t g x y (step 11 65534)).1 ((step_pair t g 0 y 11 65534).1 (below_root t s (suc y) y (omega arith) l, ◌⊎◌.inl refl))

-- for the reader: what stands for `. is` a free variable holds at every node
pub all_hold : (t : Tree) (g : ℕ → ℕ) (x : ℕ) → x < t.size → holds t g everywhere x ≡ true
all_hold t g x l = (exists_at t g x x (step 0 65534)).1 (x, l, (step_pair t g x x 0 65534).1 ((self_axis t x x).1 refl, ◌⊎◌.inl refl))

-- only the variables in A decide a test
abbrev Depends : (ℕ → Bool) → ((ℕ → ℕ) → Bool) → Type 0
Depends A P = (g h : ℕ → ℕ) → ((k : ℕ) → A k ≡ true → g k ≡ h k) → P g ≡ P h

by_path : (t : Tree) (p : Path) (x y : ℕ) → Depends (in_path p) (λ h. pairs t h p x y)
by_path t p x y g h w = same_pairs t g h p w x y

by_expr : (t : Tree) (e : NodeExpr) (x : ℕ) → Depends (in_expr e) (λ h. holds t h e x)
by_expr t e x g h w = same_holds t g h e w x

module _ (t : Tree) (sound : Sound t) (free : ℕ → Bool) (few : (k : ℕ) → free k ≡ true → k < 3) (g : ℕ → ℕ) where
  -- with some choice of nodes for the free variables, the test is true
  abbrev Choice : ((ℕ → ℕ) → Bool) → Type 0
  Choice P = (h : ℕ → ℕ) × Fills t.size free g h × (P h ≡ true)

  -- b tells whether there is such a choice
  abbrev Tells : Bool → ((ℕ → ℕ) → Bool) → Type 0
  Tells b P = (b ≡ true) ↔ Choice P

  implied : (P Q : (ℕ → ℕ) → Bool) → ((h : ℕ → ℕ) → P h ≡ true → Q h ≡ true) → Choice P → Choice Q
  implied P Q f (h, w, c) = (h, w, f h c)

  -- the choice of one node for all
  abbrev taking : ℕ → ℕ → ℕ
  taking v k = cond (free k) v (g k)

  takes : (v : ℕ) → v < t.size → Fills t.size free g (taking v)
  takes v l = record { kept = λ k p. rw p; node = λ k p. rw p l }

  -- a test that no free variable decides
  tells_fixed : (A : ℕ → Bool) (P : (ℕ → ℕ) → Bool) → Depends A P → ((k : ℕ) → A k ≡ true → free k ≡ false) → Tells (P g) P
  tells_fixed A P d none = (
    λ c. (taking 0, takes 0 sound.some_node, sym (d g (taking 0) (λ k u. rw (none k u))) ∙ c),
    λ w. d g w.0 (λ k u. sym (w.1.kept k (none k u))) ∙ w.2,
  )

  -- the test whether a variable is at y; b is true where the variable is free, else the test under g
  tells_variable : (k y : ℕ) (b : Bool) → y < t.size → (free k ≡ true → b ≡ true) → (free k ≡ false → b ≡ eqb y (g k)) → Tells b (λ h. eqb y (h k))
  tells_variable k y b l any-node own = go (seen (free k))
    where
      go : Seen (free k) → Tells b (λ h. eqb y (h k))
      go (yes! p) = (λ c. (taking y, takes y l, eq-eqb y (taking y k) (rw p)), λ w. any-node p)
      go (no! p) =
          let (there, back) = tells_fixed (eqb k) (λ h. eqb y (h k)) (λ a b w. ap (eqb y) (w k (eq-eqb k k refl))) (λ j u. ap free (sym (eqb-true k j u)) ∙ p) in
          (λ c. there (sym (own p) ∙ c), λ w. own p ∙ back w)

  -- two choices as one, where no free variable decides both tests
  merge : (A B : ℕ → Bool) (P Q : (ℕ → ℕ) → Bool) → Depends A P → Depends B Q → shared A B ≡ false → Choice P → Choice Q → Choice (λ h. P h && Q h)
  merge A B P Q dp dq apart (a, fa, ca) (b, fb, cb) = (h, record { kept = kept; node = node }, both_yes (dp h a (λ k u. rw u) ∙ ca) (dq h b right ∙ cb))
    where
      h : ℕ → ℕ
      h k = cond (A k) (a k) (b k)

      kept : (k : ℕ) → free k ≡ false → h k ≡ g k
      kept k p = go (seen (A k))
        where
          go : Seen (A k) → h k ≡ g k
          go (yes! u) = rw u (fa.kept k p)
          go (no! u) = rw u (fb.kept k p)

      node : (k : ℕ) → free k ≡ true → h k < t.size
      node k p = go (seen (A k))
        where
          go : Seen (A k) → h k < t.size
          go (yes! u) = rw u (fa.node k p)
          go (no! u) = rw u (fb.node k p)

      right : (k : ℕ) → B k ≡ true → h k ≡ b k
      right k v = go (seen (A k)) (seen (free k))
        where
          go : Seen (A k) → Seen (free k) → h k ≡ b k
          go (no! u) p = rw u
          go (yes! u) (yes! p) = no_yes (none_of 3 (λ k. A k && B k) k apart (few k p)) (both_yes u v)
          go (yes! u) (no! p) = rw u (fa.kept k p ∙ sym (fb.kept k p))

  -- tests made of others

  tells_both : (A B : ℕ → Bool) (P Q : (ℕ → ℕ) → Bool) (a b : Bool) → Depends A P → Depends B Q → shared A B ≡ false → Tells a P → Tells b Q → Tells (a && b) (λ h. P h && Q h)
  tells_both A B P Q a b dp dq apart ta tb = (
    λ c. merge A B P Q dp dq apart (ta.0 (yes_left a b c)) (tb.0 (yes_right a b c)),
    λ w. both_yes (ta.1 (implied (λ h. P h && Q h) P (λ h. yes_left (P h) (Q h)) w)) (tb.1 (implied (λ h. P h && Q h) Q (λ h. yes_right (P h) (Q h)) w)),
  )

  tells_either : (P Q : (ℕ → ℕ) → Bool) (a b : Bool) → Tells a P → Tells b Q → Tells (a || b) (λ h. P h || Q h)
  tells_either P Q a b ta tb = (
    λ c.
        ⊎_elim (λ p. implied P (λ h. P h || Q h) (λ h. or_left (P h) (Q h)) (ta.0 p)) (λ p. implied Q (λ h. P h || Q h) (λ h. or_right (P h) (Q h)) (tb.0 p))
        (or_cases a b c),
    λ w. let (h, f, c) = w in ⊎_elim (λ p. or_left a b (ta.1 (h, f, p))) (λ p. or_right a b (tb.1 (h, f, p))) (or_cases (P h) (Q h) c),
  )

  tells_any : (f : ℕ → Bool) (P : (ℕ → ℕ) → ℕ → Bool) → ((z : ℕ) → z < t.size → Tells (f z) (λ h. P h z)) → Tells (any t.size f) (λ h. any t.size (P h))
  tells_any f P s = (
    λ c.
        let (z, l, d) = any_elim t.size f c in
        implied (λ h. P h z) (λ h. any t.size (P h)) (λ h p. any_intro t.size (P h) z l p) ((s z l).0 d),
    λ w.
        let (h, k, c) = w in
        let (z, l, d) = any_elim t.size (P h) c in
        any_intro t.size f z l ((s z l).1 (h, k, d)),
  )

  -- parts in which no variable stands are opened to themselves

  unused : (A : ℕ → Bool) → used A ≡ false → (k : ℕ) → A k ≡ true → free k ≡ false
  unused A u k c = not_yes (free k) (λ p. no_yes (none_of 3 A k u (few k p)) c)

  path_fixed : (p : Path) → ((k : ℕ) → in_path p k ≡ true → free k ≡ false) → (x y : ℕ) → Tells (pairs t g (opened free p) x y) (λ h. pairs t h p x y)
  path_fixed p none x y = rw (opened_none free p none) (tells_fixed (in_path p) (λ h. pairs t h p x y) (by_path t p x y) none)

  expr_fixed : (e : NodeExpr) → ((k : ℕ) → in_expr e k ≡ true → free k ≡ false) → (x : ℕ) → Tells (holds t g (opened_expr free e) x) (λ h. holds t h e x)
  expr_fixed e none x = rw (opened_none_expr free e none) (tells_fixed (in_expr e) (λ h. holds t h e x) (by_expr t e x) none)

  mutual
    unfolding pairs_over holds_over in_path in_expr path_breaks expr_breaks opened opened_expr

    tells_pair : (p : Path) → Unshared p → (x y : ℕ) → y < t.size → Tells (pairs t g (opened free p) x y) (λ h. pairs t h p x y)
    tells_pair (step a name) u x y l = path_fixed (step a name) (λ k c. no_yes refl c) x y
    tells_pair (compose p q) u x y l =
        tells_any (λ z. pairs t g (opened free p) x z && pairs t g (opened free q) z y) (λ h z. pairs t h p x z && pairs t h q z y)
        (λ z m. tells_both (in_path p) (in_path q) (λ h. pairs t h p x z) (λ h. pairs t h q z y) (pairs t g (opened free p) x z) (pairs t g (opened free q) z y)
        (by_path t p x z) (by_path t q z y) u.0 (tells_pair p u.1.0 x z m) (tells_pair q u.1.1 z y l))
    tells_pair (union p q) u x y l =
        tells_either (λ h. pairs t h p x y) (λ h. pairs t h q x y) (pairs t g (opened free p) x y) (pairs t g (opened free q) x y)
        (tells_pair p u.0 x y l) (tells_pair q u.1 x y l)
    tells_pair (intersect p q) u x y l = path_fixed (intersect p q) (unused (in_path (intersect p q)) u) x y
    tells_pair (except p q) u x y l = path_fixed (except p q) (unused (in_path (except p q)) u) x y
    tells_pair (filter p e) u x y l =
        tells_both (in_path p) (in_expr e) (λ h. pairs t h p x y) (λ h. holds t h e y) (pairs t g (opened free p) x y) (holds t g (opened_expr free e) y)
        (by_path t p x y) (by_expr t e y) u.0 (tells_pair p u.1.0 x y l) (tells_holds e u.1.1 y l)
    tells_pair (variable k) u x y l =
        tells_variable k y (pairs t g (opened free (variable k)) x y) l (λ p. rw p (all_pairs t sound g x y l)) (λ p. rw p)
    tells_pair (from_root p) u x y l = tells_pair p u 0 y l
    tells_pair (closure p) u x y l = path_fixed (closure p) (unused (in_path (closure p)) u) x y

    tells_holds : (e : NodeExpr) → UnsharedExpr e → (x : ℕ) → x < t.size → Tells (holds t g (opened_expr free e) x) (λ h. holds t h e x)
    tells_holds (exists p) u x l = tells_any (pairs t g (opened free p) x) (λ h. pairs t h p x) (λ y m. tells_pair p u x y m)
    tells_holds (negate e) u x l = expr_fixed (negate e) (unused (in_expr (negate e)) u) x
    tells_holds (both e f) u x l =
        tells_both (in_expr e) (in_expr f) (λ h. holds t h e x) (λ h. holds t h f x) (holds t g (opened_expr free e) x) (holds t g (opened_expr free f) x)
        (by_expr t e x) (by_expr t f x) u.0 (tells_holds e u.1.0 x l) (tells_holds f u.1.1 x l)
    tells_holds (either e f) u x l =
        tells_either (λ h. holds t h e x) (λ h. holds t h f x) (holds t g (opened_expr free e) x) (holds t g (opened_expr free f) x)
        (tells_holds e u.0 x l) (tells_holds f u.1 x l)
    tells_holds (is k) u x l =
        tells_variable k x (holds t g (opened_expr free (is k)) x) l (λ p. rw p (all_hold t g x l)) (λ p. rw p)
    tells_holds (same p q) u x l = expr_fixed (same p q) (unused (in_expr (same p q)) u) x

  -- for the reader: the theorem, where only variables below 3 are free: a query has no others
  pub exact : (p : Path) → Unshared p → Exact t free g p
  exact p u =
      tells_any (λ x. any t.size (λ y. pairs t g (opened free p) x y)) (λ h x. any t.size (λ y. pairs t h p x y))
      (λ x l. tells_any (pairs t g (opened free p) x) (λ h. pairs t h p x) (λ y m. tells_pair p u x y m))
