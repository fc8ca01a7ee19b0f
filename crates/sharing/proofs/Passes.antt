-- The passes over the entries.
use Prim.Native.Nat.{ℕ, ◌+◌, ◌≤◌, ◌<◌}
use native.Mathlib.Omega.{arith}
use mathlib.Core.Path.{◌≡◌, sym, ap, ap₂, ◌∙◌}
use mathlib.Core.Bool.{Bool, false, ◌&&◌, ◌||◌, or-false}
use mathlib.Core.List.{List}
use lib.Dec.{ltb}
use lib.ListN.{length, set, get_or-eq_default}
use borrow.Author.Tests.{lt-ltb}
use Rattle.model.specs.declared.Entry.{Entry}
use Rattle.model.specs.Sets.{any, bit, tab, memb, upto}
use Rattle.model.specs.QueryTable.{kind, left, right, entry, entries_of}
use Rattle.model.specs.Sharing.{breaks}
use Rattle.model.specs.Accepted.{Shaped}
use Rattle.model.proofs.Bytes.{memb_tab, memb_no, fill_store}
use Rattle.model.proofs.Formed.{left_lower, right_lower, read}
use Rattle.sharing.specs.Occurrences.{occurs, occurrences, standing, breaking}
use Rattle.sharing.proofs.Entries.{occurs_from, breaks_by, breaks_from, standing_same, breaking_same}

-- an entry past the 64th is in no set
pub not_there : (entries : List ℕ) (i : ℕ) → length entries ≡ 64 → 64 ≤ i → false ≡ memb entries i
not_there entries i e l = sym (memb_no entries i (get_or-eq_default entries 0 (omega arith)))

module _ (q : List ℕ) (ok : Shaped q) where
  -- the entries below m in which a variable stands
  known : (v m i : ℕ) → m ≤ entries_of q → i < m → memb (tab 64 (upto m (occurs q v))) i ≡ occurs q v i
  unfolding upto
  known v m i l h = memb_tab 64 (λ k. ltb k m && occurs q v k) i (omega (arith, ok.few)) ∙ rw (lt-ltb i m h)

  module _ (e : ℕ) (within : e < entries_of q) (f : Entry) (pf : f ≡ entry q e) where
    -- one entry more
    pub occurrences_more : (v : ℕ) (found : List ℕ) (x : ℕ) (l r b : Bool) → found ≡ tab 64 (upto e (occurs q v)) → x ≡ bit b → b ≡ standing f v l r
        → l ≡ memb found f.left → r ≡ memb found f.right → set found e x ≡ tab 64 (upto (e + 1) (occurs q v))
    occurrences_more v found x l r b p px pb pl pr = fill_store 64 (occurs q v) found e x p (px ∙ ap bit here)
      where
        here : b ≡ occurs q v e
        here =
            pb ∙ ap (λ (z : Entry). standing z v l r) pf
            ∙ standing_same (entry q e) v l r (occurs q v (left q e)) (occurs q v (right q e))
            (λ c. pl ∙ ap₂ (λ (s : List ℕ) (z : Entry). memb s z.left) p pf ∙ known v e (left q e) (omega arith) (left_lower q ok.formed e within c))
            (λ c. pr ∙ ap₂ (λ (s : List ℕ) (z : Entry). memb s z.right) p pf ∙ known v e (right q e) (omega arith) (right_lower q ok.formed e within c))
            ∙ sym (occurs_from q v e (read q ok.formed e within))

    -- the test by one variable
    broken_by : (v : ℕ) (entries : List ℕ) (b : Bool) → entries ≡ occurrences q v → b ≡ breaking f.kind (memb entries f.left) (memb entries f.right) (memb entries e) → b ≡ breaks_by q e v
    unfolding occurrences
    broken_by v entries b pe pb =
        pb ∙ rw (pe, pf, known v (entries_of q) e (omega arith) within)
        (breaking_same (kind q e) _ _ _ _ (occurs q v e)
        (λ c. known v (entries_of q) (left q e) (omega arith) (omega (arith, left_lower q ok.formed e within c)))
        (λ c. known v (entries_of q) (right q e) (omega arith) (omega (arith, right_lower q ok.formed e within c))))

    -- by all three
    pub broken_here : (first second third : List ℕ) (a b c : Bool)
        → a ≡ breaking f.kind (memb first f.left) (memb first f.right) (memb first e)
        → b ≡ breaking f.kind (memb second f.left) (memb second f.right) (memb second e)
        → c ≡ breaking f.kind (memb third f.left) (memb third f.right) (memb third e)
        → first ≡ occurrences q 0 → second ≡ occurrences q 1 → third ≡ occurrences q 2 → (c || (b || a)) ≡ breaks q e
    unfolding any
    broken_here first second third a b c pa pb pc p₀ p₁ p₂ =
        rw (broken_by 0 first a p₀ pa, broken_by 1 second b p₁ pb, broken_by 2 third c p₂ pc)
        (ap (λ (z : Bool). breaks_by q e 2 || (breaks_by q e 1 || z)) (sym (or-false (breaks_by q e 0))) ∙ sym (breaks_from q e (read q ok.formed e within)))
