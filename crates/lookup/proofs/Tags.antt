-- The search for the first later node that has a tag, and the judgment of a number of the index.
use Prim.Native.Nat.{ℕ, suc, ◌+◌, ◌≤◌, ◌<◌}
use native.Mathlib.Omega.{arith}
use mathlib.Core.Path.{◌≡◌, sym, ap, ◌∙◌}
use mathlib.Core.Bool.{Bool, true, false, not, ◌||◌, and-false, or-true}
use lib.Dec.{ltb, eqb}
use borrow.Author.Tests.{ltb-true, lt-ltb, le-ltb, eqb-true, eq-eqb, ne_eqb, not-false}
use Rattle.model.specs.Sets.{any}
use Rattle.model.specs.Tree.{Tree}
use Rattle.model.proofs.Booleans.{Seen, yes!, no!, seen, no_or, guarded}
use Rattle.model.proofs.Exists.{any_never, any_end}
use Rattle.index.specs.Index.{has, has_from, first_from}
use Rattle.index.proofs.First.{First, from_early, first_at, first_none, first_is}
use Rattle.lookup.specs.Chain.{wrong}

module _ (t : Tree) (tag x : ℕ) where
  pub tag_start : any (x + 1) (has_from t tag (suc x)) ≡ false
  tag_start = any_never (x + 1) (has_from t tag (suc x)) (λ k l. from_early t tag (suc x) k (omega arith))

  module _ (y : ℕ) where
    pub tag_test : (g : ℕ) → g ≡ t.tag y → x < y → eqb g tag ≡ has_from t tag (suc x) y
    unfolding has_from
    tag_test g e l = rw (le-ltb y (suc x) l, e)

    pub tag_found : (b : Bool) → any y (has_from t tag (suc x)) ≡ false → b ≡ has_from t tag (suc x) y → b ≡ true → y < t.size → y ≡ first_from t tag (suc x)
    tag_found b h e p l = sym (first_at t tag (suc x) y h (sym e ∙ p) l)

    pub tag_nowhere : any y (has_from t tag (suc x)) ≡ false → y ≤ t.size → t.size ≤ y → 65535 ≡ first_from t tag (suc x)
    tag_nowhere h l m = sym (first_none t tag (suc x) (any_end t.size y (has_from t tag (suc x)) h l m))

-- a number of the index, by its tests

module _ (t : Tree) (tag y z : ℕ) where
  pub last_right : z ≡ 65535 → false ≡ wrong t tag y z
  unfolding wrong
  last_right e = rw (eq-eqb z 65535 e)

  module _ (ne : z ≡ 65535 → ⊥) where
    pub early_wrong : z ≤ y → true ≡ wrong t tag y z
    unfolding wrong
    early_wrong l = rw (ne_eqb z 65535 ne, le-ltb y z l)

    pub far_wrong : t.size ≤ z → true ≡ wrong t tag y z
    unfolding wrong
    far_wrong l = rw (ne_eqb z 65535 ne, le-ltb z t.size l) (sym (or-true (not (ltb y z))))

    pub tag_wrong : (g : ℕ) → g ≡ t.tag z → y < z → z < t.size → not (eqb g tag) ≡ wrong t tag y z
    unfolding wrong
    tag_wrong g e k l = rw (ne_eqb z 65535 ne, lt-ltb y z k, lt-ltb z t.size l, e)

-- y is 65535, or a node after x that has the tag
pub data Later (t : Tree) (tag x y : ℕ) : Type 0 where
  none! : y ≡ 65535 → Later t tag x y
  node! : x < y → y < t.size → t.tag y ≡ tag → Later t tag x y

module _ (t : Tree) (tag x : ℕ) where
  -- such is the first node after x with the tag
  pub first_later : Later t tag x (first_from t tag (suc x))
  first_later = go (first_is t tag (suc x))
    where
      go : {y : ℕ} → First t tag (suc x) y → Later t tag x y
      go (First.node! m l e h) = node! m l e
      go (First.none! e h) = none! e

  -- and such are the numbers that an index can have at x

  pub right_later : (y : ℕ) → wrong t tag x y ≡ false → Later t tag x y
  unfolding wrong
  right_later y h = go (seen (eqb y 65535))
    where
      go : Seen (eqb y 65535) → Later t tag x y
      go (yes! p) = none! (eqb-true y 65535 p)
      go (no! p) =
          let (a, u) = no_or (not (ltb x y)) (not (ltb y t.size) || not (has t tag y)) (guarded (not (eqb y 65535)) (not (ltb x y) || (not (ltb y t.size) || not (has t tag y))) h (ap not p)) in
          let (b, c) = no_or (not (ltb y t.size)) (not (has t tag y)) u in
          node! (ltb-true x y (not-false (ltb x y) a)) (ltb-true y t.size (not-false (ltb y t.size) b)) (eqb-true (t.tag y) tag (not-false (has t tag y) c))

  pub later_right : (y : ℕ) → Later t tag x y → wrong t tag x y ≡ false
  unfolding wrong
  later_right y (none! e) = sym (last_right t tag x y e)
  later_right y (node! k l e) = rw (lt-ltb x y k, lt-ltb y t.size l, eq-eqb (t.tag y) tag e) (and-false (not (eqb y 65535)))
