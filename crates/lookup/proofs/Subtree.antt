-- The subtree of a node of an accepted tree is a run of nodes: where it ends, and what that says of descendants.
use Prim.Native.Nat.{ℕ, zero, suc, ◌+◌, ◌≤◌, ◌<◌}
use native.Mathlib.Nat.{eq-or-lt_of_le}
use native.Mathlib.Omega.{arith}
use mathlib.Core.Path.{◌≡◌, sym, ap, ◌∙◌}
use mathlib.Core.Logic.Iff
use mathlib.Core.Logic.{◌⊎◌, ⊎_elim, ◌↔◌}
use mathlib.Core.Bool.{true, false, not}
use lib.Dec.{ltb, eqb}
use borrow.Author.Tests.{ltb-true, ltb-false, lt-ltb, le-ltb, not-false}
use Rattle.model.specs.Sets.{any}
use Rattle.model.specs.Tree.{Tree}
use Rattle.model.specs.Axes.{descendant, following, descendant_or_self, axis}
use Rattle.model.specs.Refusals.{lowest}
use Rattle.model.specs.Accepted.{Sound, Ordered}
use Rattle.model.proofs.Booleans.{Seen, yes!, no!, seen, no_yes, not_yes, guarded, or_says, eqb_says}
use Rattle.model.proofs.Exists.{any_never, none_of, lowest_none, lowest_less, lowest_found, lowest_bad, none_lower}
use Rattle.model.proofs.Axes.{sound_falling, descendant_step, descendant_after, following_axis}

module _ (t : Tree) (s : Sound t) where
  -- descendants by their parents
  by_parent : (x y : ℕ) → 0 < y → y < t.size → (descendant t x y ≡ true) ↔ ((t.parent y ≡ x) ⊎ (descendant t x (t.parent y) ≡ true))
  by_parent x y p l =
      rw (descendant_step t y (sound_falling t y s l) x y p l (omega arith))
      (or_says (eqb (t.parent y) x) (descendant t x (t.parent y)) (eqb_says (t.parent y) x) Iff.rfl)

  -- a descendant of a descendant is one
  over : (k x y z : ℕ) → z ≤ k → z < t.size → descendant t x y ≡ true → descendant t y z ≡ true → descendant t x z ≡ true
  over zero x y z a l p q = let w : y < z = descendant_after t s y z l q in absurd (omega arith)
  over (suc k) x y z a l p q =
      let w : y < z = descendant_after t s y z l q in
      let f : t.parent z < z = s.falls z (omega arith) l in
      (by_parent x z (omega arith) l).1
      (◌⊎◌.inr (⊎_elim (λ e. ap (descendant t x) e ∙ p) (λ r. over k x y (t.parent z) (omega arith) (omega arith) p r) ((by_parent y z (omega arith) l).0 q)))

  module _ (start : ℕ) where
    -- a later node that does not follow is a descendant
    within : (y : ℕ) → start < y → following t start y ≡ false → descendant t start y ≡ true
    unfolding following
    within y a h = not-false (descendant t start y) (guarded (ltb start y) (not (descendant t start y)) h (lt-ltb start y a))

    -- the search for the end of the subtree

    pub end_start : any (start + 1) (following t start) ≡ false
    unfolding following
    end_start = any_never (start + 1) (following t start) (λ k l. rw (le-ltb start k (omega arith)))

    -- the first node that follows is the first whose parent comes before the start
    pub end_test : (y p : ℕ) → p ≡ t.parent y → any y (following t start) ≡ false → start < y → y < t.size → ltb p start ≡ following t start y
    unfolding following
    end_test y p e h a l = rw (lt-ltb start y a, e) (go (seen (ltb (t.parent y) start)))
      where
        f : t.parent y < y
        f = s.falls y (omega arith) l

        go : Seen (ltb (t.parent y) start) → ltb (t.parent y) start ≡ not (descendant t start y)
        go (yes! p) =
            let k : t.parent y < start = ltb-true (t.parent y) start p in
            rw (p, not_yes (descendant t start y) (λ q. ⊎_elim (λ e. absurd (omega arith)) (λ r. absurd (omega (arith, descendant_after t s start (t.parent y) (omega arith) r))) ((by_parent start y (omega arith) l).0 q)))
        go (no! p) =
            let k : start ≤ t.parent y = ltb-false (t.parent y) start p in
            let d : descendant t start y ≡ true = (by_parent start y (omega arith) l).1 (⊎_elim (λ e. ◌⊎◌.inl (sym e)) (λ m. ◌⊎◌.inr (within (t.parent y) m (none_of y (following t start) (t.parent y) h f))) (eq-or-lt_of_le k)) in
            rw (p, d)

module _ (t : Tree) (o : Ordered t) where
  -- the node before a descendant is the node itself or another descendant
  before : (x y : ℕ) → x < y → suc y < t.size → descendant t x (suc y) ≡ true → descendant t x y ≡ true
  unfolding descendant_or_self
  before x y k l h =
      ⊎_elim (λ e. ⊎_elim (λ p. absurd (let w : t.parent (suc y) ≡ y = p in omega arith)) (λ p. ap (λ (u : ℕ). descendant t u y) (sym e) ∙ p) rule)
      (λ q. ⊎_elim (λ p. ap (descendant t x) (sym p) ∙ q) (λ p. over t o.sound y x (t.parent (suc y)) y (omega arith) (omega arith) q p) rule)
      ((by_parent t o.sound x (suc y) (omega arith) l).0 h)
    where
      rule : (t.parent (suc y) ≡ y) ⊎ (descendant t (t.parent (suc y)) y ≡ true)
      rule = (or_says (eqb (t.parent (suc y)) y) (descendant t (t.parent (suc y)) y) (eqb_says (t.parent (suc y)) y) Iff.rfl).0 (o.rule y l)

  -- the descendants of a node stand together, right behind it
  pub together : (x y z : ℕ) → x < y → y ≤ z → z < t.size → descendant t x z ≡ true → descendant t x y ≡ true
  together x y zero a b l h = absurd (omega arith)
  together x y (suc m) a b l h =
      ⊎_elim (λ e. ap (descendant t x) e ∙ h) (λ k. together x y m a (omega arith) (omega arith) (before x m (omega arith) l h))
      (eq-or-lt_of_le b)

  module _ (start : ℕ) where
    abbrev end : ℕ
    end = lowest t.size (following t start)

    pub end_most : end ≤ t.size
    end_most = go (seen (any t.size (following t start)))
      where
        go : Seen (any t.size (following t start)) → end ≤ t.size
        go (yes! p) = let l : end < t.size = lowest_less t.size (following t start) p in omega arith
        go (no! p) = let e : end ≡ t.size = lowest_none t.size (following t start) p in omega arith

    -- a node after the start is in the subtree exactly if it comes before the end

    pub end_inside : (y : ℕ) → start < y → y < end → descendant t start y ≡ true
    end_inside y a l = within t o.sound start y a (none_of end (following t start) y (none_lower t.size (following t start)) l)

    pub end_outside : (y : ℕ) → y < t.size → end ≤ y → descendant t start y ≡ false
    unfolding axis
    end_outside y l h =
        let (a, q) = (following_axis t start end).0 (lowest_bad t.size (following t start) (lowest_found t.size (following t start) (let e : end < t.size = omega arith in e))) in
        not_yes (descendant t start y) (λ p. no_yes q (together start end y a h l p))
