-- Laws of sets as bytes, and of the loops that fill them.
use Prim.Native.Nat.{ℕ, zero, suc, ◌+◌, ◌*◌, ◌/◌, ◌%◌, ◌≤◌, ◌<◌}
use native.Mathlib.Nat.{not-suc-le-zero, le_of_suc-le-suc, suc-mul, mul-le-mul_right, mul-add-div_right, mul-add-mod_self_right, mod-eq_of_lt, div-eq_of_lt, add-zero, add-suc}
use native.Mathlib.Numerals.{add-one}
use native.Mathlib.Omega.{arith}
use mathlib.Core.Path.{◌≡◌, refl, sym, ap, ◌∙◌}
use mathlib.Core.Bool.{Bool, true, false, not, ◌&&◌, and_comm}
use mathlib.Core.List.{List, [], ◌∷◌, ◌++◌, append_assoc, append-nil}
use lib.ListN.{length, get_or, set, drop, replicate, length-append, length-drop, length-set, length-replicate, get_or-replicate}
use lib.Seq.{ext_get_or, get_or-set_same, get_or-set_other, set_at, drop-cons}
use lib.Dec.{ltb, eqb}
use borrow.Author.Tests.{ltb-true, lt-ltb, le-ltb, eq-eqb, ne_eqb}
use Rattle.model.specs.Sets.{bit, tab, memb, upto}
use Rattle.model.specs.Results.{cell}
use Rattle.model.proofs.Booleans.{bool_ext, both_yes, yes_right}

pub length_tab : (n : ℕ) (S : ℕ → Bool) → length (tab n S) ≡ n
unfolding tab
length_tab zero S = refl
length_tab (suc n) S = ap suc (length_tab n (λ k. S (suc k)))

pub get_or_tab : (n : ℕ) (S : ℕ → Bool) (i : ℕ) → i < n → get_or (tab n S) i 0 ≡ bit (S i)
unfolding tab
get_or_tab zero S i l = absurd (not-suc-le-zero l)
get_or_tab (suc n) S zero l = refl
get_or_tab (suc n) S (suc i) l = get_or_tab n (λ k. S (suc k)) i (le_of_suc-le-suc l)

pub tab_of : (n : ℕ) (S : ℕ → Bool) (l : List ℕ) → length l ≡ n → ((i : ℕ) → i < n → get_or l i 0 ≡ bit (S i)) → l ≡ tab n S
tab_of n S l e h =
    ext_get_or 0 l (tab n S) (e ∙ sym (length_tab n S)) (λ i k. let m : i < n = omega arith in h i m ∙ sym (get_or_tab n S i m))

pub tab_cong : (n : ℕ) (S R : ℕ → Bool) → ((i : ℕ) → i < n → S i ≡ R i) → tab n S ≡ tab n R
tab_cong n S R h = tab_of n R (tab n S) (length_tab n S) (λ i l. get_or_tab n S i l ∙ ap bit (h i l))

-- an empty set
pub tab_none : (n : ℕ) (S : ℕ → Bool) → ((i : ℕ) → S i ≡ false) → replicate n 0 ≡ tab n S
tab_none n S h = tab_of n S (replicate n 0) (length-replicate n 0) (λ i l. get_or-replicate n i 0 0 l ∙ rw (h i))

-- one byte is stored
pub tab_set : (n : ℕ) (S R : ℕ → Bool) (i : ℕ) (b : Bool) → R i ≡ b → ((k : ℕ) → (k ≡ i → ⊥) → S k ≡ R k) → set (tab n S) i (bit b) ≡ tab n R
tab_set n S R i b e h = tab_of n R (set (tab n S) i (bit b)) (length-set (tab n S) i (bit b) ∙ length_tab n S) (λ k l. at k l (native.Mathlib.Decide.ℕ_discrete k i))
  where
    at : (k : ℕ) → k < n → Dec (k ≡ i) → get_or (set (tab n S) i (bit b)) k 0 ≡ bit (R k)
    at k l (yes p) = rw (p, e) (get_or-set_same (tab n S) i (bit b) 0 (omega (arith, length_tab n S)))
    at k l (no p) = get_or-set_other (tab n S) i k (bit b) 0 p ∙ get_or_tab n S k l ∙ ap bit (h k p)

-- a set of numbers below m
pub tab_below : (n m : ℕ) (S : ℕ → Bool) → ((i : ℕ) → S i ≡ true → i < m) → tab n S ≡ tab n (upto m S)
unfolding upto
tab_below n m S h = tab_cong n S (λ i. ltb i m && S i) (λ i l. bool_ext (S i) (ltb i m && S i) (λ p. both_yes (lt-ltb i m (h i p)) p) (yes_right (ltb i m) (S i)))

not_zero : (b : Bool) → not (eqb (bit b) 0) ≡ b
not_zero true = refl
not_zero false = refl

pub memb_tab : (n : ℕ) (S : ℕ → Bool) (i : ℕ) → i < n → memb (tab n S) i ≡ S i
unfolding memb
memb_tab n S i l = rw (get_or_tab n S i l) (not_zero (S i))

-- a loop that fills a set from the front

module _ (n : ℕ) (S : ℕ → Bool) where
  pub fill_start : replicate n 0 ≡ tab n (upto 0 S)
  unfolding upto
  fill_start = tab_none n (λ k. ltb k 0 && S k) (λ k. rw (le-ltb k 0 (omega arith)))

  same_or : (i k : ℕ) → (k ≡ i → ⊥) → ltb k i ≡ ltb k (i + 1)
  same_or i k ne = bool_ext (ltb k i) (ltb k (i + 1)) (λ p. lt-ltb k (i + 1) (let q : k < i = ltb-true k i p in omega arith))
      (λ p. lt-ltb k i (let q : k < i + 1 = ltb-true k (i + 1) p in omega arith))

  -- S i is b, and its byte is stored at i
  pub fill_more : (i : ℕ) (b : Bool) → S i ≡ b → set (tab n (upto i S)) i (bit b) ≡ tab n (upto (i + 1) S)
  unfolding upto
  fill_more i b e =
      tab_set n (λ k. ltb k i && S k) (λ k. ltb k (i + 1) && S k) i b (rw (lt-ltb i (i + 1) (omega arith)) e) (λ k p. rw (same_or i k p))

  -- S i is false, and nothing is stored
  pub fill_skip : (i : ℕ) → S i ≡ false → tab n (upto i S) ≡ tab n (upto (i + 1) S)
  unfolding upto
  fill_skip i e = tab_cong n (λ k. ltb k i && S k) (λ k. ltb k (i + 1) && S k) at
    where
      at : (k : ℕ) → k < n → (ltb k i && S k) ≡ (ltb k (i + 1) && S k)
      at k h = go (native.Mathlib.Decide.ℕ_discrete k i)
        where
          go : Dec (k ≡ i) → (ltb k i && S k) ≡ (ltb k (i + 1) && S k)
          go (yes p) = rw (p, e, and_comm (ltb i i) false, and_comm (ltb i (i + 1)) false)
          go (no p) = rw (same_or i k p)

  pub fill_end : tab n (upto n S) ≡ tab n S
  unfolding upto
  fill_end = tab_cong n (λ k. ltb k n && S k) S (λ k l. rw (lt-ltb k n l))

-- the same, for a list that is known to hold the part, and a value that is known to be the bit
pub fill_store : (n : ℕ) (S : ℕ → Bool) (r : List ℕ) (i v : ℕ) → r ≡ tab n (upto i S) → v ≡ bit (S i) → set r i v ≡ tab n (upto (i + 1) S)
fill_store n S r i v p q = rw (p, q) (fill_more n S i (S i) refl)

pub fill_none : (n : ℕ) (S : ℕ → Bool) (r : List ℕ) (i : ℕ) → r ≡ tab n (upto i S) → S i ≡ false → r ≡ tab n (upto (i + 1) S)
fill_none n S r i p q = p ∙ fill_skip n S i q

pub fill_done : (n : ℕ) (S : ℕ → Bool) (r : List ℕ) (i m : ℕ) → r ≡ tab n (upto i S) → i ≤ m → m ≤ i → r ≡ tab n (upto m S)
fill_done n S r i m p l h = p ∙ ap (λ (k : ℕ). tab n (upto k S)) (omega arith)

pub fill_whole : (n : ℕ) (S : ℕ → Bool) (r : List ℕ) (i : ℕ) → r ≡ tab n (upto i S) → i ≤ n → n ≤ i → r ≡ tab n S
fill_whole n S r i p l h = fill_done n S r i n p l h ∙ fill_end n S

-- one store in an empty set
pub one_of : (n x : ℕ) → set (replicate n 0) x 1 ≡ tab n (λ k. eqb k x)
one_of n x =
    ap (λ (l : List ℕ). set l x 1) (tab_none n (λ k. false) (λ k. refl))
    ∙ tab_set n (λ k. false) (λ k. eqb k x) x true (eq-eqb x x refl) (λ k p. sym (ne_eqb k x p))

pub memb_yes : (s : List ℕ) (x : ℕ) → (get_or s x 0 ≡ 0 → ⊥) → memb s x ≡ true
unfolding memb
memb_yes s x h = rw (ne_eqb (get_or s x 0) 0 h)

pub memb_no : (s : List ℕ) (x : ℕ) → get_or s x 0 ≡ 0 → memb s x ≡ false
unfolding memb
memb_no s x h = rw h

-- one byte more at the end
pub tab_snoc : (n : ℕ) (S : ℕ → Bool) → tab (suc n) S ≡ tab n S ++ (bit (S n) ∷ [])
unfolding tab
tab_snoc zero S = refl
tab_snoc (suc n) S = ap (λ (l : List ℕ). bit (S zero) ∷ l) (tab_snoc n (λ k. S (suc k)))

-- the bytes of two parts
pub tab_append : (a n : ℕ) (S : ℕ → Bool) → tab (a + n) S ≡ tab a S ++ tab n (λ k. S (a + k))
unfolding tab
tab_append a zero S = rw (add-zero a) (sym (append-nil (tab a S)))
tab_append a (suc n) S =
    rw (add-suc a n)
    (tab_snoc (a + n) S
    ∙ ap (λ (l : List ℕ). l ++ (bit (S (a + n)) ∷ [])) (tab_append a n S)
    ∙ append_assoc (tab a S) (tab n (λ k. S (a + k))) (bit (S (a + n)) ∷ [])
    ∙ ap (λ (l : List ℕ). tab a S ++ l) (sym (tab_snoc n (λ k. S (a + k)))))

-- one number more over the front of a list d
pub front_store : (P d l : List ℕ) (i v : ℕ) → l ≡ P ++ drop i d → length P ≡ i → i < length d → set l i v ≡ (P ++ (v ∷ [])) ++ drop (i + 1) d
front_store P d l i v p size h =
    rw (p, add-one i, drop-cons d i 0 h) (set_at P (get_or d i 0) (drop (suc i) d) v i size ∙ sym (append_assoc P (v ∷ []) (drop (suc i) d)))

-- a loop that writes numbers over the front; after i turns they are F i
module _ (F : ℕ → List ℕ) (d l : List ℕ) (i : ℕ) (p : l ≡ F i ++ drop i d) where
  pub front_more : (v : ℕ) → F (suc i) ≡ F i ++ (v ∷ []) → length (F i) ≡ i → i < length d → set l i v ≡ F (i + 1) ++ drop (i + 1) d
  front_more v more size h =
      front_store (F i) d l i v p size h ∙ ap (λ (P : List ℕ). P ++ drop (i + 1) d) (sym more ∙ ap F (sym (add-one i)))

  pub front_done : (n : ℕ) → i ≤ n → n ≤ i → l ≡ F n ++ drop n d
  front_done n a b = p ∙ ap (λ (k : ℕ). F k ++ drop k d) (let e : i ≡ n = omega arith in e)

-- the same where they are the bytes of a set
pub over_start : (S : ℕ → Bool) (d : List ℕ) → d ≡ tab 0 S ++ drop 0 d
unfolding tab
over_start S d = refl

pub over_more : (S : ℕ → Bool) (d l : List ℕ) (i v : ℕ) → l ≡ tab i S ++ drop i d → v ≡ bit (S i) → i < length d → set l i v ≡ tab (i + 1) S ++ drop (i + 1) d
over_more S d l i v p q h = front_more (λ k. tab k S) d l i p v (tab_snoc i S ∙ ap (λ (x : ℕ). tab i S ++ (x ∷ [])) (sym q)) (length_tab i S) h

pub length_over : (S : ℕ → Bool) (d l : List ℕ) (i : ℕ) → l ≡ tab i S ++ drop i d → i ≤ length d → length l ≡ length d
length_over S d l i p h = rw (p, length-append (tab i S) (drop i d), length_tab i S, length-drop i d) (omega arith)

pub over_done : (S : ℕ → Bool) (d l : List ℕ) (i n : ℕ) → l ≡ tab i S ++ drop i d → i ≤ n → n ≤ i → l ≡ tab n S ++ drop n d
over_done S d l i n p a b = front_done (λ k. tab k S) d l i p n a b

-- the front of 256 bytes
pub tab_front : (n : ℕ) (S : ℕ → Bool) → n ≤ 256 → tab n (memb (tab 256 S)) ≡ tab n S
tab_front n S h = tab_cong n (memb (tab 256 S)) S (λ i l. memb_tab 256 S i (omega arith))

-- the cells of a table of n rows of n cells: row x begins at x * n

module _ (n x at : ℕ) (e : at ≡ x * n) where
  pub row_next : at + n ≡ (x + 1) * n
  row_next = rw (e, add-one x, suc-mul x n)

  pub row_fits : x < n → at + n ≤ n * n
  row_fits l = rw row_next (mul-le-mul_right n (let h : x + 1 ≤ n = omega arith in h))

  pub cell_at : (R : ℕ → ℕ → Bool) (k : ℕ) → k < n → cell n R (at + k) ≡ R x k
  unfolding cell
  cell_at R k l =
      let d : (x * n + k) / n ≡ x = mul-add-div_right (let h : 0 < n = omega arith in h) x k ∙ rw (div-eq_of_lt l, add-zero x) in
      let m : (x * n + k) % n ≡ k = mul-add-mod_self_right x n k ∙ mod-eq_of_lt l in
      rw (e, d, m)
