-- Laws of counting uses in one pass.
use Prim.Native.Nat.{ℕ, zero, suc, ◌+◌, ◌<◌, ◌≤◌}
use native.Mathlib.Nat.{add-zero, add_assoc}
use native.Mathlib.Numerals.{add-one}
use native.Mathlib.Omega.{arith}
use mathlib.Core.Path.{◌≡◌, refl, sym, ap, ◌∙◌, subst}
use mathlib.Core.Bool.{Bool, true, false, not, ◌&&◌, cond, and_comm}
use mathlib.Core.List.{List}
use lib.ListN.{length, get_or, set, replicate, length-set, length-replicate, get_or-replicate}
use lib.Seq.{get_or-set_same, get_or-set_other}
use lib.Dec.{ltb, eqb}
use borrow.Author.Tests.{not-false, not-true, eq-eqb, ne_eqb, lt-ltb, le-ltb}
use Rattle.model.specs.declared.Entry.{Entry}
use Rattle.model.specs.Sets.{bit}
use Rattle.model.specs.QueryTable.{entries_of, entry}
use Rattle.model.specs.Kinds.{has_left, has_right}
use Rattle.model.specs.Checks.{naming, uses, misused}
use Rattle.query.specs.Uses.{kept, one_more, with_use, Counted}

-- one use more, as it is kept

pub more_none : (k : ℕ) → k ≡ 0 → 1 ≡ one_more k
more_none k h = rw h

pub more_some : (k : ℕ) → (k ≡ 0 → ⊥) → 2 ≡ one_more k
more_some k h = rw (ne_eqb k 0 h)

kept_suc : (u : ℕ) → kept (suc u) ≡ one_more (kept u)
unfolding kept
kept_suc zero = refl
kept_suc (suc zero) = refl
kept_suc (suc (suc u)) = refl

kept_bit : (u : ℕ) (b : Bool) → kept (u + bit b) ≡ cond b (one_more (kept u)) (kept u)
kept_bit u true = rw (add-one u) (kept_suc u)
kept_bit u false = rw (add-zero u)

-- what is kept tells 'once' from the rest
once : (u : ℕ) → eqb (kept u) 1 ≡ eqb u 1
unfolding kept
once zero = refl
once (suc zero) = refl
once (suc (suc u)) = sym (ne_eqb (suc (suc u)) 1 (λ h. omega arith))

-- the counts with one use more

module _ (counts : List ℕ) (used : Bool) (i : ℕ) where
  pub use_none : not used ≡ true → counts ≡ with_use counts used i
  unfolding with_use
  use_none h = rw (not-true used h)

  pub use_far : 64 ≤ i → counts ≡ with_use counts used i
  unfolding with_use
  use_far h = rw (le-ltb i 64 h, and_comm used false)

  pub use_stored : (k : ℕ) → k ≡ one_more (get_or counts i 0) → not used ≡ false → i < 64 → set counts i k ≡ with_use counts used i
  unfolding with_use
  use_stored k p h l = rw (not-false used h, lt-ltb i 64 l, p)

  use_size : length (with_use counts used i) ≡ length counts
  unfolding with_use
  use_size = go (used && ltb i 64)
    where
      go : (b : Bool) → length (cond b (set counts i (one_more (get_or counts i 0))) counts) ≡ length counts
      go true = length-set counts i (one_more (get_or counts i 0))
      go false = refl

use_at : (counts : List ℕ) (used : Bool) (j i : ℕ) → length counts ≡ 64 → i < 64 → get_or (with_use counts used j) i 0 ≡ cond (used && eqb j i) (one_more (get_or counts i 0)) (get_or counts i 0)
unfolding with_use
use_at counts false j i s l = refl
use_at counts true j i s l = go (native.Mathlib.Decide.ℕ_discrete j i)
  where
    other : (b : Bool) → (i ≡ j → ⊥) → get_or (cond b (set counts j (one_more (get_or counts j 0))) counts) i 0 ≡ get_or counts i 0
    other true ne = get_or-set_other counts j i (one_more (get_or counts j 0)) 0 ne
    other false ne = refl

    go : Dec (j ≡ i) → get_or (cond (ltb j 64) (set counts j (one_more (get_or counts j 0))) counts) i 0 ≡ cond (eqb j i) (one_more (get_or counts i 0)) (get_or counts i 0)
    go (yes p) = rw (p, eq-eqb i i refl, lt-ltb i 64 l) (get_or-set_same counts i (one_more (get_or counts i 0)) 0 (rw s l))
    go (no p) = rw (ne_eqb j i p) (other (ltb j 64) (λ h. p (sym h)))

-- the pass over the entries: its start, a step, its end, and what it found

pub counted_start : (q : List ℕ) → Counted q 0 (replicate 64 0)
unfolding uses kept
counted_start q = record { size = length-replicate {A = ℕ} 64 0; at = λ i l. get_or-replicate 64 i 0 0 l }

uses_more : (q : List ℕ) (i e : ℕ) (f : Entry) (l r : Bool) → l ≡ has_left f.kind → r ≡ has_right f.kind → f ≡ entry q e → uses q i e + (bit (l && eqb f.left i) + bit (r && eqb f.right i)) ≡ uses q i (e + 1)
unfolding uses
uses_more q i e f l r pl pr pf = rw (add-one e, pl, pr) (ap (λ (x : Entry). uses q i e + naming i x) pf)

pub counted_more : (q : List ℕ) (e : ℕ) (f : Entry) (l r : Bool) (counts a b : List ℕ) → b ≡ with_use a r f.right → a ≡ with_use counts l f.left → l ≡ has_left f.kind → r ≡ has_right f.kind → f ≡ entry q e → Counted q e counts → Counted q (e + 1) b
counted_more q e f l r counts a b pb pa pl pr pf c = record { size = ap length pb ∙ use_size a r f.right ∙ size_a; at = here }
  where
    size_a : length a ≡ 64
    size_a = ap length pa ∙ use_size counts l f.left ∙ c.size

    -- one entry i after one operand
    step : (x y : List ℕ) (used : Bool) (j i u : ℕ) → y ≡ with_use x used j → length x ≡ 64 → i < 64 → get_or x i 0 ≡ kept u → get_or y i 0 ≡ kept (u + bit (used && eqb j i))
    step x y used j i u p s h g =
        ap (λ (z : List ℕ). get_or z i 0) p ∙ use_at x used j i s h ∙ ap (λ (z : ℕ). cond (used && eqb j i) (one_more z) z) g
        ∙ sym (kept_bit u (used && eqb j i))

    here : (i : ℕ) → i < 64 → get_or b i 0 ≡ kept (uses q i (e + 1))
    here i h =
        let A : ℕ = bit (l && eqb f.left i) in
        let B : ℕ = bit (r && eqb f.right i) in
        let u = uses q i e in
        step a b r f.right i (u + A) pb size_a h (step counts a l f.left i u pa c.size h (c.at i h))
        ∙ ap kept (add_assoc u A B ∙ uses_more q i e f l r pl pr pf)

pub counted_end : (q : List ℕ) (e n : ℕ) (counts : List ℕ) → Counted q e counts → e ≤ n → n ≤ e → Counted q n counts
counted_end q e n counts c l h = subst (λ (k : ℕ). Counted q k counts) (let g : e ≡ n = omega arith in g) c

pub use_once : (q : List ℕ) (i : ℕ) (counts : List ℕ) → Counted q (entries_of q) counts → i < 64 → not (eqb (get_or counts i 0) 1) ≡ misused q i
use_once q i counts c l = rw (c.at i l, once (uses q i (entries_of q)))
