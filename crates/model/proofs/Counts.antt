-- Laws of the number of ones in a list of bytes.
use Prim.Native.Nat.{ℕ, zero, suc, ◌+◌, ◌-◌, ◌≤◌, ◌<◌}
use native.Mathlib.Nat.{not-suc-le-zero, add-zero, zero-add, add_assoc}
use native.Mathlib.Numerals.{add-one}
use native.Mathlib.Omega.{arith}
use mathlib.Core.Path.{◌≡◌, refl, sym, ap, ◌∙◌}
use mathlib.Core.Logic.{◌⊎◌, ◌↔◌}
use mathlib.Core.Bool.{Bool, true, false, not, ◌||◌, ◌&&◌}
use mathlib.Core.List.{List, [], ◌∷◌, ◌++◌, map}
use lib.Dec.{ltb, eqb}
use lib.ListN.{length, get_or}
use borrow.Author.Tests.{le-ltb, eq-eqb, ne_eqb}
use Rattle.model.specs.Sets.{any, bit, tab, ones, memb, upto}
use Rattle.model.proofs.Bytes.{length_tab, tab_snoc, tab_append, tab_front}

-- What the reader's law speaks of.

-- the number is one of the numbers
abbrev pub Among : ℕ → List ℕ → Type 0
Among x [] = ⊥
Among x (y ∷ ys) = (x ≡ y) ⊎ Among x ys

-- each number is less than every later one: the numbers are in order, and each is there once
abbrev pub Ascending : List ℕ → Type 0
Ascending [] = Unit
Ascending (x ∷ xs) = ((y : ℕ) → Among y xs → x < y) × Ascending xs

-- the numbers are the places of a list that hold 1, in order, each once
pub record PlacesOfOnes (s places : List ℕ) : Type 0 where
  pub ascending : Ascending places
  pub member : (x : ℕ) → Among x places ↔ ((x < length s) × (get_or s x 0 ≡ 1))

-- the places of a list with one byte more in front

among_later : (x : ℕ) (ps : List ℕ) → Among x ps → Among (suc x) (map suc ps)
among_later x [] h = h
among_later x (p ∷ ps) (◌⊎◌.inl e) = ◌⊎◌.inl (ap suc e)
among_later x (p ∷ ps) (◌⊎◌.inr h) = ◌⊎◌.inr (among_later x ps h)

among_earlier : (y : ℕ) (ps : List ℕ) → Among y (map suc ps) → (x : ℕ) × (y ≡ suc x) × Among x ps
among_earlier y [] h = absurd h
among_earlier y (p ∷ ps) (◌⊎◌.inl e) = (p, e, ◌⊎◌.inl refl)
among_earlier y (p ∷ ps) (◌⊎◌.inr h) = let (x, e, w) = among_earlier y ps h in (x, e, ◌⊎◌.inr w)

ascending_later : (ps : List ℕ) → Ascending ps → Ascending (map suc ps)
ascending_later [] h = h
ascending_later (p ∷ ps) h = (λ y w. let (x, e, m) = among_earlier y ps w in let l : p < x = h.0 x m in omega arith, ascending_later ps h.1)

-- the places of a list, from those of the bytes behind its first: a 1 in front has place 0

module _ (b : ℕ) (s ps : List ℕ) (w : PlacesOfOnes s ps) where
  later : (x : ℕ) → Among (suc x) (map suc ps) ↔ ((suc x < suc (length s)) × (get_or s x 0 ≡ 1))
  later x = (
    λ h. let (y, p, m) = among_earlier (suc x) ps h in let q : x ≡ y = omega arith in let v = (w.member y).0 m in (omega arith, rw q v.1),
    λ h. among_later x ps ((w.member x).1 (omega arith, h.1)),
  )

  places_one : b ≡ 1 → PlacesOfOnes (b ∷ s) (0 ∷ map suc ps)
  places_one e = record {
    ascending = (λ y h. let (x, p, m) = among_earlier y ps h in omega arith, ascending_later ps w.ascending);
    member = at;
  }
    where
      behind : (x : ℕ) → Among (suc x) (0 ∷ map suc ps) → Among (suc x) (map suc ps)
      behind x (◌⊎◌.inl p) = absurd (omega arith)
      behind x (◌⊎◌.inr h) = h

      at : (x : ℕ) → Among x (0 ∷ map suc ps) ↔ ((x < suc (length s)) × (get_or (b ∷ s) x 0 ≡ 1))
      at zero = (λ h. (omega arith, e), λ h. ◌⊎◌.inl refl)
      at (suc x) = (λ h. (later x).0 (behind x h), λ h. ◌⊎◌.inr ((later x).1 h))

  places_none : (b ≡ 1 → ⊥) → PlacesOfOnes (b ∷ s) (map suc ps)
  places_none e = record { ascending = ascending_later ps w.ascending; member = at }
    where
      at : (x : ℕ) → Among x (map suc ps) ↔ ((x < suc (length s)) × (get_or (b ∷ s) x 0 ≡ 1))
      at zero = (λ h. let (y, p, m) = among_earlier 0 ps h in absurd (omega arith), λ h. absurd (e h.1))
      at (suc x) = later x

length_later : (ps : List ℕ) → length (map suc ps) ≡ length ps
length_later [] = refl
length_later (p ∷ ps) = ap suc (length_later ps)

-- for the reader: the number of ones is the number of places that hold 1
pub ones_places : (s : List ℕ) → (places : List ℕ) × PlacesOfOnes s places × (length places ≡ ones s)
unfolding ones
ones_places [] = ([], record { ascending = tt; member = λ x. (λ h. absurd h, λ h. absurd (not-suc-le-zero h.0)) }, refl)
ones_places (b ∷ s) = go (native.Mathlib.Decide.ℕ_discrete b 1) (ones_places s)
  where
    go : Dec (b ≡ 1) → (places : List ℕ) × PlacesOfOnes s places × (length places ≡ ones s) → (places : List ℕ) × PlacesOfOnes (b ∷ s) places × (length places ≡ bit (eqb b 1) + ones s)
    go (yes e) (ps, w, l) = (0 ∷ map suc ps, places_one b s ps w e, rw (e, length_later ps, l) (let h : suc (ones s) ≡ 1 + ones s = omega arith in h))
    go (no e) (ps, w, l) = (map suc ps, places_none b s ps w e, rw (ne_eqb b 1 e, length_later ps, l) (sym (zero-add (ones s))))

-- for the reader: there are at most as many as bytes
pub ones_most : (s : List ℕ) → ones s ≤ length s
unfolding ones
ones_most [] = omega arith
ones_most (b ∷ s) = at (eqb b 1) (ones_most s)
  where
    at : (c : Bool) → ones s ≤ length s → bit c + ones s ≤ suc (length s)
    at true h = omega arith
    at false h = omega arith

-- Ones of lists that are joined, and of the bytes of a set.

pub ones_append : (a b : List ℕ) → ones (a ++ b) ≡ ones a + ones b
unfolding ones
ones_append [] b = sym (zero-add (ones b))
ones_append (x ∷ a) b = rw (ones_append a b) (sym (add_assoc (bit (eqb x 1)) (ones a) (ones b)))

one_bit : (b : Bool) → bit (eqb (bit b) 1) ≡ bit b
one_bit true = refl
one_bit false = refl

module _ (S : ℕ → Bool) where
  -- one node more
  ones_snoc : (n : ℕ) → ones (tab (suc n) S) ≡ ones (tab n S) + bit (S n)
  unfolding ones
  ones_snoc n = rw (tab_snoc n S, ones_append (tab n S) (bit (S n) ∷ []), one_bit (S n), add-zero (bit (S n)))

  pub ones_start : 0 ≡ ones (tab 0 S)
  unfolding ones tab
  ones_start = refl

  pub ones_next : (i k b : ℕ) → k ≡ ones (tab i S) → b ≡ bit (S i) → k + b ≡ ones (tab (i + 1) S)
  ones_next i k b p q = rw (p, q, add-one i) (sym (ones_snoc i))

  pub ones_whole : (n i k : ℕ) → k ≡ ones (tab i S) → i ≤ n → n ≤ i → k ≡ ones (tab n S)
  ones_whole n i k p l h = p ∙ ap (λ (j : ℕ). ones (tab j S)) (let e : i ≡ n = omega arith in e)

  pub ones_within : (i k : ℕ) → k ≡ ones (tab i S) → k ≤ i
  ones_within i k p = let l = ones_most (tab i S) in omega (arith, length_tab i S)

  ones_none : (n : ℕ) → ((k : ℕ) → k < n → S k ≡ false) → ones (tab n S) ≡ 0
  ones_none zero h = sym ones_start
  ones_none (suc n) h = ones_snoc n ∙ rw (ones_none n (λ k l. h k (omega arith)), h n (omega arith))

  -- there is a one exactly if the set has a node
  pub ones_any : (n : ℕ) → not (eqb (ones (tab n S)) 0) ≡ any n S
  unfolding any
  ones_any zero = rw (sym ones_start)
  ones_any (suc n) = rw (ones_snoc n) (at (S n) (ones_any n))
    where
      at : (b : Bool) → not (eqb (ones (tab n S)) 0) ≡ any n S → not (eqb (ones (tab n S) + bit b) 0) ≡ (b || any n S)
      at true h = rw (ne_eqb (ones (tab n S) + 1) 0 (omega arith))
      at false h = rw (add-zero (ones (tab n S))) h

-- no node, and one
pub ones_zero : (n : ℕ) (S : ℕ → Bool) (s : List ℕ) → s ≡ tab n (upto 0 S) → 0 ≡ ones s
unfolding upto
ones_zero n S s p = sym (ap ones p ∙ ones_none (λ k. ltb k 0 && S k) n (λ k l. rw (le-ltb k 0 (omega arith))))

pub ones_one : (n x : ℕ) (s : List ℕ) → s ≡ tab n (λ k. eqb k x) → x < n → 1 ≡ ones s
ones_one n x s p l = sym (ap ones p ∙ go n l)
  where
    go : (n : ℕ) → x < n → ones (tab n (λ k. eqb k x)) ≡ 1
    go zero l = absurd (not-suc-le-zero l)
    go (suc n) l = ones_snoc (λ k. eqb k x) n ∙ at (native.Mathlib.Decide.ℕ_discrete n x) (go n)
      where
        at : Dec (n ≡ x) → (x < n → ones (tab n (λ k. eqb k x)) ≡ 1) → ones (tab n (λ k. eqb k x)) + bit (eqb n x) ≡ 1
        at (yes e) h = rw (ones_none (λ k. eqb k x) n (λ k m. ne_eqb k x (omega arith)), eq-eqb n x e)
        at (no e) h = rw (ne_eqb n x e, add-zero (ones (tab n (λ k. eqb k x)))) (h (omega arith))

-- 256 bytes that hold nodes below n have their ones among the first n
pub ones_front : (n : ℕ) (S : ℕ → Bool) (s : List ℕ) → s ≡ tab 256 (upto n S) → n ≤ 256 → ones s ≡ ones (tab n (memb s))
unfolding upto
ones_front n S s p h =
    ap ones p
    ∙ ap (λ (k : ℕ). ones (tab k (upto n S))) (let e : 256 ≡ n + (256 - n) = omega arith in e)
    ∙ rw (tab_append n (256 - n) (upto n S), ones_append (tab n (upto n S)) (tab (256 - n) (λ k. upto n S (n + k))), beyond, add-zero (ones (tab n (upto n S))))
    (ap ones (sym (ap (λ (z : List ℕ). tab n (memb z)) p ∙ tab_front n (upto n S) h)))
  where
    beyond : ones (tab (256 - n) (λ k. ltb (n + k) n && S (n + k))) ≡ 0
    beyond = ones_none (λ k. ltb (n + k) n && S (n + k)) (256 - n) (λ k l. rw (le-ltb (n + k) n (omega arith)))

-- the count of the nodes that 256 bytes hold is the number of their ones
pub ones_bytes : (S : ℕ → Bool) (s : List ℕ) (k : ℕ) → k ≡ ones (tab 256 (memb s)) → s ≡ tab 256 S → k ≡ ones s
ones_bytes S s k p e = p ∙ ap ones (ap (λ (z : List ℕ). tab 256 (memb z)) e ∙ tab_front 256 S (omega arith) ∙ sym e)
