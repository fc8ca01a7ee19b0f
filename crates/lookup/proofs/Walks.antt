-- The walk along a chain: while it goes on, what is left of the chain is the chain from the node that it has come to.
use Prim.Native.Nat.{ℕ, zero, suc, ◌+◌, ◌-◌, ◌≤◌, ◌<◌}
use native.Mathlib.Omega.{arith}
use mathlib.Core.Path.{◌≡◌, refl, sym, ap, ◌∙◌}
use mathlib.Core.Bool.{Bool, true, false, not}
use mathlib.Core.List.{List}
use lib.Dec.{eqb}
use lib.ListN.{length, get_or, set, replicate}
use borrow.Author.Tests.{eq-eqb, ne_eqb}
use Rattle.model.specs.Tree.{Tree}
use Rattle.model.specs.Axes.{descendant, following}
use Rattle.model.specs.Refusals.{lowest, reply}
use Rattle.model.specs.Accepted.{Ordered}
use Rattle.model.proofs.Booleans.{or_left, or_right}
use Rattle.index.specs.Index.{first_from}
use Rattle.lookup.specs.Chain.{stops, ends, wrong, chain_from, chain_of}
use Rattle.lookup.specs.Parts.{along, walk_of}
use Rattle.lookup.proofs.Subtree.{end_most, end_inside, end_outside}
use Rattle.lookup.proofs.Tags.{Later, none!, node!, first_later, right_later}

-- a chain that ends at y, whatever the number of steps left
chain_ends : (t : Tree) (next : List ℕ) (start tag y k : ℕ) → ends t start y ≡ true → chain_from t next start tag k y ≡ stops
unfolding chain_from
chain_ends t next start tag y zero e = refl
chain_ends t next start tag y (suc k) e = rw e

-- the walk has come to y, with these bytes
pub record Walking (t : Tree) (next : List ℕ) (start tag end y : ℕ) (s : List ℕ) : Type 0 where
  pub end_is : end ≡ lowest t.size (following t start)
  pub later : Later t tag start y
  pub left : ℕ
  pub enough : t.size ≤ y + left
  pub same : walk_of (chain_of t next start tag) ≡ along (chain_from t next start tag left y) s

module _ (t : Tree) (next : List ℕ) (start tag end : ℕ) where
  pub walk_start : (y : ℕ) → y ≡ first_from t tag (suc start) → end ≡ lowest t.size (following t start) → Walking t next start tag end y (replicate 256 0)
  unfolding walk_of chain_of
  walk_start y e f = record {
    end_is = f;
    later = rw e (first_later t tag start);
    left = t.size;
    enough = omega arith;
    same = rw e;
  }

  module _ (y : ℕ) (s : List ℕ) (w : Walking t next start tag end y s) (o : Ordered t) where
    -- before the end, y is a node of the subtree

    module _ (l : y < end) where
      walk_below : y < t.size
      walk_below = let m : lowest t.size (following t start) ≤ t.size = end_most t o start in omega (arith, w.end_is)

      pub walk_fits : y < 256
      walk_fits = omega (arith, walk_below, o.sound.at_most)

      pub walk_read : length next ≡ t.size → y < length next
      walk_read e = omega (arith, walk_below)

      goes_on : ends t start y ≡ false
      goes_on = rw (ne_eqb y 65535 (λ e. absurd (omega (arith, walk_fits))), end_inside t o start y (after w.later) (rw (← w.end_is) l))
        where
          after : Later t tag start y → start < y
          after (none! e) = absurd (omega (arith, walk_fits))
          after (node! k m e) = k

      -- so that there is a step left
      step : {A : Type 0} → (k : ℕ) → t.size ≤ y + k → ((j : ℕ) → k ≡ suc j → A) → A
      step zero h f = absurd (omega (arith, walk_below))
      step (suc j) h f = f j refl

      module _ (z : ℕ) (b : Bool) (e : z ≡ get_or next y 0) (f : b ≡ wrong t tag y z) where
        judged : wrong t tag y (get_or next y 0) ≡ b
        judged = ap (wrong t tag y) (sym e) ∙ sym f

        pub walk_breaks : b ≡ true → reply 27 y ≡ (walk_of (chain_of t next start tag)).verdict
        unfolding along chain_from
        walk_breaks p = step w.left w.enough (λ j g. rw (w.same, g, goes_on, judged ∙ p))

        rises : b ≡ false → y < z
        rises p = go (right_later t tag y z (sym f ∙ p))
          where
            go : Later t tag y z → y < z
            go (none! e) = omega (arith, walk_fits)
            go (node! k m e) = k

        pub walk_less : b ≡ false → end - z < end - y
        walk_less p = omega (arith, rises p)

        pub walk_next : b ≡ false → Walking t next start tag end z (set s y 1)
        unfolding along chain_from
        walk_next p = step w.left w.enough (λ j g. record {
          end_is = w.end_is;
          later = onward w.later (right_later t tag y z (sym f ∙ p));
          left = j;
          enough = omega (arith, w.enough, rises p);
          same = rw (w.same, g, goes_on, judged ∙ p, e);
        })
          where
            onward : Later t tag start y → Later t tag y z → Later t tag start z
            onward u (none! e) = none! e
            onward (none! a) (node! k m e) = absurd (omega (arith, walk_fits))
            onward (node! a c d) (node! k m e) = node! (omega arith) m e

    -- from the end on, it is beyond the subtree, or 65535
    pub walk_ends : end ≤ y → (reply 0 0 ≡ (walk_of (chain_of t next start tag)).verdict) × (s ≡ (walk_of (chain_of t next start tag)).nodes)
    unfolding along
    walk_ends l = rw (w.same, chain_ends t next start tag y w.left (over w.later)) (refl, refl)
      where
        over : Later t tag start y → ends t start y ≡ true
        over (none! e) = or_left (eqb y 65535) (not (descendant t start y)) (eq-eqb y 65535 e)
        over (node! k m e) = or_right (eqb y 65535) (not (descendant t start y)) (ap not (end_outside t o start y m (rw (← w.end_is) l)))
