-- Laws of chains: over any index, what is met is asked for; over the tree's own index, all that is asked for is met.
use Prim.Native.Nat.{ℕ, zero, suc, ◌+◌, ◌≤◌, ◌<◌}
use native.Mathlib.Nat.{eq-or-lt_of_le}
use native.Mathlib.Omega.{arith}
use mathlib.Core.Path.{◌≡◌, refl, sym, ap, ◌∙◌}
use mathlib.Core.Logic.{⊎_elim}
use mathlib.Core.Bool.{true, false, not, ◌&&◌}
use mathlib.Core.List.{List}
use lib.Dec.{ltb, eqb}
use lib.ListN.{get_or}
use borrow.Author.Tests.{ltb-true, ltb-false, eqb-true, eq-eqb, ne_eqb, not-false}
use Rattle.model.specs.Tree.{Tree}
use Rattle.model.specs.Axes.{descendant}
use Rattle.model.specs.Accepted.{Ordered}
use Rattle.model.proofs.Axes.{descendant_after}
use Rattle.model.proofs.Booleans.{Seen, yes!, no!, seen, no_yes, bool_ext, both_yes, yes_left, yes_right, or_left, or_right, or_cases, no_or, not_yes}
use Rattle.index.specs.Index.{has, first_from, index_of}
use Rattle.index.proofs.First.{First, first_is}
use Rattle.index.proofs.Numbers.{index_at}
use Rattle.lookup.specs.Chain.{Chain, stops, meets, ends, wrong, chain_from, chain_of, is_broken, is_met}
use Rattle.lookup.proofs.Subtree.{together}
use Rattle.lookup.proofs.Tags.{Later, none!, node!, first_later, right_later, later_right}

-- any index

module _ (t : Tree) (next : List ℕ) (start tag x : ℕ) where
  -- x is a node, a descendant of start, and has the tag
  abbrev Asked : Type 0
  Asked = (x < t.size) × ((descendant t start x ≡ true) × (t.tag x ≡ tag))

  met_from : (k u y : ℕ) → Later t tag u y → is_met (chain_from t next start tag k y) x ≡ true → Asked
  unfolding is_met chain_from
  met_from zero u y w h = no_yes refl h
  met_from (suc k) u y w h = at (seen (ends t start y)) (seen (wrong t tag y (get_or next y 0))) (met_from k y (get_or next y 0))
    where
      here : Later t tag u y → ends t start y ≡ false → x ≡ y → Asked
      here (none! d) p e = no_yes (no_or (eqb y 65535) (not (descendant t start y)) p).0 (eq-eqb y 65535 d)
      here (node! a b d) p e = rw e (b, (not-false (descendant t start y) (no_or (eqb y 65535) (not (descendant t start y)) p).1, d))

      at : Seen (ends t start y) → Seen (wrong t tag y (get_or next y 0)) → (Later t tag y (get_or next y 0) → is_met (chain_from t next start tag k (get_or next y 0)) x ≡ true → Asked) → Asked
      at (yes! p) q ih = no_yes refl (rw p at h)
      at (no! p) (yes! q) ih = no_yes refl (rw (p, q) at h)
      at (no! p) (no! q) ih =
          ⊎_elim (λ e. here w p (eqb-true x y e)) (λ r. ih (right_later t tag y (get_or next y 0) q) r)
          (or_cases (eqb x y) (is_met (chain_from t next start tag k (get_or next y 0)) x) (rw (p, q) at h))

  -- for the reader: every node that a chain meets is a descendant of the start that has the tag, whatever the index
  pub met_within : is_met (chain_of t next start tag) x ≡ true → (x < t.size) × ((descendant t start x ≡ true) × (t.tag x ≡ tag))
  unfolding chain_of
  met_within h = met_from t.size start (first_from t tag (suc start)) (first_later t tag start) h

-- the tree's own index

-- a chain does not break, and meets all that is asked for from w on
record Whole (t : Tree) (start tag w : ℕ) (c : Chain) : Type 0 where
  unbroken : is_broken c ≡ false
  meeting : (x : ℕ) → w ≤ x → x < t.size → descendant t start x ≡ true → t.tag x ≡ tag → is_met c x ≡ true

module _ (t : Tree) (o : Ordered t) (start tag w : ℕ) where
  whole_stops : ((x : ℕ) → w ≤ x → x < t.size → descendant t start x ≡ true → t.tag x ≡ tag → ⊥) → Whole t start tag w stops
  unfolding is_broken is_met
  whole_stops h = record { unbroken = refl; meeting = λ x a b p q. absurd (h x a b p q) }

  module _ (y : ℕ) (h : (z : ℕ) → w ≤ z → z < y → t.tag z ≡ tag → ⊥) where
    -- none comes before y
    from : (x : ℕ) → w ≤ x → t.tag x ≡ tag → y ≤ x
    from x a q = ltb-false x y (not_yes (ltb x y) (λ p. h x a (ltb-true x y p) q))

    whole_meets : (c : Chain) → Whole t start tag (suc y) c → Whole t start tag w (meets y c)
    unfolding is_broken is_met
    whole_meets c v = record {
      unbroken = v.unbroken;
      meeting = λ x a b p q.
          ⊎_elim (λ e. or_left (eqb x y) (is_met c x) (eq-eqb x y (sym e))) (λ m. or_right (eqb x y) (is_met c x) (v.meeting x m b p q))
          (eq-or-lt_of_le (from x a q));
    }

    whole_beyond : start < y → descendant t start y ≡ false → Whole t start tag w stops
    whole_beyond a p = whole_stops (λ x m l r q. no_yes p (together t o start y x a (from x m q) l r))

module _ (t : Tree) (o : Ordered t) (start tag : ℕ) where
  -- by the steps left: the next number at a node of the chain is the first later node with the tag
  own_from : (k w : ℕ) → start < w → t.size ≤ w + k → Whole t start tag w (chain_from t (index_of t) start tag k (first_from t tag w))
  unfolding chain_from
  own_from zero w a h = whole_stops t o start tag w (λ x m l p q. absurd (omega arith))
  own_from (suc k) w a h = go (first_from t tag w) (first_is t tag w) (λ y m. own_from k (suc y) (omega arith) (omega arith))
    where
      go : (y : ℕ) → First t tag w y → ((y : ℕ) → w ≤ y → Whole t start tag (suc y) (chain_from t (index_of t) start tag k (first_from t tag (suc y)))) → Whole t start tag w (chain_from t (index_of t) start tag (suc k) y)
      go y (First.none! e h) ih = rw (eq-eqb y 65535 e) (whole_stops t o start tag w (λ x m l p q. h x m l q))
      go y (First.node! m l e h) ih = at (seen (descendant t start y))
        where
          some : eqb y 65535 ≡ false
          some = ne_eqb y 65535 (λ e. absurd (omega (arith, o.sound.at_most)))

          at : Seen (descendant t start y) → Whole t start tag w (chain_from t (index_of t) start tag (suc k) y)
          at (no! p) = rw (some, p) (whole_beyond t o start tag w y h (omega arith) p)
          at (yes! p) =
              let n : get_or (index_of t) y 0 ≡ first_from t tag (suc y) = index_at t y l ∙ ap (λ (g : ℕ). first_from t g (suc y)) e in
              rw (some, p, n, later_right t tag y (first_from t tag (suc y)) (first_later t tag y))
              (whole_meets t o start tag w y h (chain_from t (index_of t) start tag k (first_from t tag (suc y))) (ih y m))

  own_whole : Whole t start tag (suc start) (chain_of t (index_of t) start tag)
  unfolding chain_of
  own_whole = own_from t.size (suc start) (omega arith) (omega arith)

  -- for the reader: over the tree's own index no chain breaks
  pub own_unbroken : is_broken (chain_of t (index_of t) start tag) ≡ false
  own_unbroken = own_whole.unbroken

  -- for the reader: over the tree's own index a chain meets every descendant that has the tag, and no other node
  pub own_met : (x : ℕ) → x < t.size → is_met (chain_of t (index_of t) start tag) x ≡ (descendant t start x && has t tag x)
  own_met x l =
      bool_ext (is_met (chain_of t (index_of t) start tag) x) (descendant t start x && has t tag x)
      (λ h. let w = met_within t (index_of t) start tag x h in both_yes w.1.0 (eq-eqb (t.tag x) tag w.1.1))
      (λ h.
      let p = yes_left (descendant t start x) (has t tag x) h in
      own_whole.meeting x (descendant_after t o.sound start x l p) l p (eqb-true (t.tag x) tag (yes_right (descendant t start x) (has t tag x) h)))
