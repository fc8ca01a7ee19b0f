-- Following the index from a tag's first node meets exactly the nodes that have it, as many as its count.
use Prim.Native.Nat.{ℕ, zero, suc, ◌+◌, ◌*◌, ◌≤◌, ◌<◌}
use native.Mathlib.Nat.{add-zero}
use native.Mathlib.Omega.{arith}
use mathlib.Core.Path.{◌≡◌, refl, sym, ap, ◌∙◌}
use mathlib.Core.Logic.{◌⊎◌}
use mathlib.Core.List.{List, [], ◌∷◌}
use lib.ListN.{length, get_or}
use lib.Dec.{ltb}
use borrow.Author.Tests.{ltb-true, ltb-false, ne_eqb}
use Rattle.model.specs.Tree.{Tree}
use Rattle.model.proofs.Booleans.{Seen, yes!, no!, seen}
use Rattle.model.proofs.Counts.{Among}
use Rattle.index.specs.Index.{first_from, index_of, present, tag_list}
use Rattle.index.specs.Parts.{Tagged, count_from}
use Rattle.index.specs.Following.{trail, Bearers}
use Rattle.index.proofs.First.{after_other, first_here, first_next, first_past}
use Rattle.index.proofs.Numbers.{index_at, count_here, count_next, count_past, count_whole, tag_list_at}

module _ (t : Tree) (s : Tagged t) (tag : ℕ) where
  no_more : (k : ℕ) → trail (index_of t) k 65535 ≡ []
  unfolding trail
  no_more zero = refl
  no_more (suc k) = refl

  one_more : (k x : ℕ) → x < t.size → t.tag x ≡ tag → trail (index_of t) (suc k) x ≡ x ∷ trail (index_of t) k (first_from t tag (suc x))
  unfolding trail
  one_more k x l e = rw (ne_eqb x 65535 (let w = s.at_most in λ q. absurd (omega arith)), index_at t x l, e)

  -- node x has the tag
  with_it : (x c : ℕ) (nodes : List ℕ) → x < t.size → t.tag x ≡ tag → Bearers t tag (suc x) nodes c → Bearers t tag x (x ∷ nodes) (c + 1)
  with_it x c nodes l e b = record {
    ascending = (λ y h. let w = (b.member y).0 h in omega (arith, w.0), b.ascending);
    member = λ y. (to y, from y);
    many = let w = b.many in omega arith;
  }
    where
      to : (y : ℕ) → Among y (x ∷ nodes) → (x ≤ y) × (y < t.size) × (t.tag y ≡ tag)
      to y (◌⊎◌.inl q) = (omega arith, omega arith, ap t.tag q ∙ e)
      to y (◌⊎◌.inr h) = let w = (b.member y).0 h in (omega (arith, w.0), w.1, w.2)

      from : (y : ℕ) → (x ≤ y) × (y < t.size) × (t.tag y ≡ tag) → Among y (x ∷ nodes)
      from y w = at (native.Mathlib.Decide.ℕ_discrete y x)
        where
          at : Dec (y ≡ x) → Among y (x ∷ nodes)
          at (yes q) = ◌⊎◌.inl q
          at (no q) = ◌⊎◌.inr ((b.member y).1 (let m = w.0 in omega arith, w.1, w.2))

  -- node x has another tag
  without : (x c : ℕ) (nodes : List ℕ) → (t.tag x ≡ tag → ⊥) → Bearers t tag (suc x) nodes c → Bearers t tag x nodes c
  without x c nodes ne b = record {
    ascending = b.ascending;
    member = λ y. (
      λ h. let w = (b.member y).0 h in (omega (arith, w.0), w.1, w.2),
      λ w. (b.member y).1 (after_other t tag x y ne w.0 w.2, w.1, w.2),
    );
    many = b.many;
  }

  -- x is beyond the last node
  beyond : (k x : ℕ) → t.size ≤ x → Bearers t tag x (trail (index_of t) k (first_from t tag x)) (count_from t tag x)
  beyond k x l = rw (first_past t tag x l, count_past t tag x l, no_more k) (record {
    ascending = tt;
    member = λ y. (λ h. absurd h, λ w. let m = w.0 in let j = w.1 in absurd (omega arith));
    many = refl;
  })

  trail_from : (d k x : ℕ) → t.size ≤ x + d → t.size ≤ x + k → Bearers t tag x (trail (index_of t) k (first_from t tag x)) (count_from t tag x)
  trail_from zero k x h j = beyond k x (omega arith)
  trail_from (suc d) k x h j = go (seen (ltb x t.size)) (native.Mathlib.Decide.ℕ_discrete (t.tag x) tag) k j (λ i m. trail_from d i (suc x) (omega arith) m)
    where
      go : Seen (ltb x t.size) → Dec (t.tag x ≡ tag) → (k : ℕ) → t.size ≤ x + k
          → ((i : ℕ) → t.size ≤ suc x + i → Bearers t tag (suc x) (trail (index_of t) i (first_from t tag (suc x))) (count_from t tag (suc x)))
          → Bearers t tag x (trail (index_of t) k (first_from t tag x)) (count_from t tag x)
      go (no! p) q k j ih = beyond k x (ltb-false x t.size p)
      go (yes! p) (no e) k j ih =
          rw (first_next t tag x e, count_next t tag x e) (without x (count_from t tag (suc x)) (trail (index_of t) k (first_from t tag (suc x))) e (ih k (omega arith)))
      go (yes! p) (yes e) zero j ih = let l = ltb-true x t.size p in absurd (omega arith)
      go (yes! p) (yes e) (suc k) j ih =
          let l = ltb-true x t.size p in
          rw (first_here t tag x l e, count_here t tag x l e, one_more k x l e)
          (with_it x (count_from t tag (suc x)) (trail (index_of t) k (first_from t tag (suc x))) l e (ih k (omega arith)))

-- from the first node that the list has of a tag, the index leads to exactly the nodes that have the tag
pub index_chains : (t : Tree) → Tagged t → (i : ℕ) → i < length (present t)
    → Bearers t (get_or (tag_list t) (3 * i) 0) 0 (trail (index_of t) t.size (get_or (tag_list t) (3 * i + 1) 0)) (get_or (tag_list t) (3 * i + 2) 0)
index_chains t s i l =
    rw (
      ap (λ (k : ℕ). get_or (tag_list t) k 0) (sym (add-zero (3 * i))) ∙ tag_list_at t i 0 l (omega arith),
      tag_list_at t i 1 l (omega arith),
      tag_list_at t i 2 l (omega arith),
      sym (count_whole t (get_or (present t) i 0)),
    )
    (trail_from t s (get_or (present t) i 0) t.size t.size 0 (omega arith) (omega arith))
