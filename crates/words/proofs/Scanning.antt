-- Laws for looking for words of a table in a text.
use Prim.Native.Nat.{ℕ, suc, ◌+◌, ◌-◌, ◌*◌, ◌%◌, ◌≤◌, ◌<◌, min}
use native.Mathlib.Numerals.{add-one}
use native.Mathlib.Omega.{arith}
use mathlib.Core.Path.{◌≡◌, refl, sym, ap, ◌∙◌}
use mathlib.Core.Logic.{◌⊎◌}
use mathlib.Core.Bool.{Bool, true, false, ◌&&◌, cond}
use mathlib.Core.List.{List, [], ◌∷◌}
use lib.ListN.{length, take, drop, get_or, drop_of_length-le, length-drop}
use lib.Seq.{drop-cons, length-take-le, take_all}
use lib.Dec.{eqb}
use borrow.Author.Tests.{eq-eqb, ne_eqb}
use Rattle.model.proofs.Booleans.{lt_or_le}
use Rattle.words.specs.Words.{word_table}
use Rattle.words.specs.Words.{common, slot, greater, scan_from}
use Rattle.std.specs.Prelude.{Ok, Err}

pub common_nil : (w : List ℕ) → common w [] ≡ 0
unfolding common
common_nil [] = refl
common_nil (c ∷ w) = refl

-- what is still to compare after i bytes
module _ (word text : List ℕ) where
  abbrev pub rest : ℕ → ℕ
  rest i = common (drop i word) (drop i text)

  module _ (i : ℕ) (inv : common word text ≡ i + rest i) where
    stopped : rest i ≡ 0 → i ≡ common word text
    stopped e = let k : i + rest i ≡ i = omega arith in sym (inv ∙ k)

    pub bytes_end : min (length word) (length text) ≤ i → i ≤ min (length word) (length text) → min (length word) (length text) ≡ common word text
    unfolding common
    bytes_end h l = (let q : min (length word) (length text) ≡ i = omega arith in q) ∙ stopped (go (lt_or_le i (length word)))
      where
        go : (i < length word) ⊎ (length word ≤ i) → rest i ≡ 0
        go (◌⊎◌.inr w) = ap (λ (l : List ℕ). common l (drop i text)) (drop_of_length-le word w)
        go (◌⊎◌.inl w) = ap (common (drop i word)) (drop_of_length-le text (let t : length text ≤ i = omega arith in t)) ∙ common_nil (drop i word)

    module _ (w : i < length word) (t : i < length text) where
      opened : rest i ≡ cond (eqb (get_or text i 0) (get_or word i 0)) (suc (rest (i + 1))) 0
      unfolding common
      opened =
          let e : suc i ≡ i + 1 = omega arith in
          rw (drop-cons word i 0 w, drop-cons text i 0 t)
          (ap (λ (j : ℕ). cond (eqb (get_or text i 0) (get_or word i 0)) (suc (common (drop j word) (drop j text))) 0) e)

      pub bytes_differ : (get_or word i 0 ≡ get_or text i 0 → ⊥) → i ≡ common word text
      bytes_differ d = stopped (opened ∙ rw (ne_eqb (get_or text i 0) (get_or word i 0) (λ e. d (sym e))))

      pub bytes_agree : get_or word i 0 ≡ get_or text i 0 → common word text ≡ (i + 1) + rest (i + 1)
      bytes_agree d =
          let e : rest i ≡ suc (rest (i + 1)) = opened ∙ rw (eq-eqb (get_or text i 0) (get_or word i 0) (sym d)) in
          inv ∙ (let q : i + rest i ≡ (i + 1) + rest (i + 1) = omega arith in q)

-- a word of a table and a text, as slices
pub same_slices : (words text : List ℕ) (at from len n : ℕ) → at ≤ length text
    → n ≡ common (take (from + len - from) (drop from words)) (take (length text - at) (drop at text)) → n ≡ common (take len (drop from words)) (drop at text)
same_slices words text at from len n h e =
    let l : from + len - from ≡ len = omega arith in
    let t : take (length text - at) (drop at text) ≡ drop at text = take_all (length text - at) (drop at text) (omega (arith, length-drop at text)) in
    e ∙ ap (λ (i : ℕ). common (take i (drop from words)) (take (length text - at) (drop at text))) l ∙ ap (common (take len (drop from words))) t

-- one word of the table after the other

pub slot_length : (words : List ℕ) (k : ℕ) → 21 * k + 21 ≤ length words → length (slot words k) ≡ get_or words (21 * k) 0 % 21
unfolding slot
slot_length words k h =
    let m : get_or words (21 * k) 0 % 21 < 21 = omega arith in
    length-take-le (get_or words (21 * k) 0 % 21) (drop (21 * k + 1) words)
    (let e = length-drop (21 * k + 1) words in omega arith)

module _ (words : List ℕ) (may : List Bool) (text : List ℕ) (lo hi : ℕ) (k best : ℕ) (live : Bool) (len n : ℕ) where
  -- what is known of word k
  pub record Looked : Type 0 where
    pub room : 21 * hi ≤ length words
    pub below : k < hi
    pub kept : scan_from words may text k (hi - k) best ≡ scan_from words may text lo (hi - lo) 0
    pub flag : live ≡ get_or may k false
    pub size : len ≡ get_or words (21 * k) 0 % 21
    pub same : n ≡ common (take len (drop (21 * k + 1) words)) text

  next_word : Looked
      → scan_from words may text k (hi - k) best
      ≡ cond (live && eqb n len) (Ok k) (scan_from words may text (k + 1) (hi - (k + 1)) (cond live (greater best n) best))
  unfolding scan_from slot
  next_word w =
      let m : hi - k ≡ suc (hi - (k + 1)) = let b = w.below in omega arith in
      let l : length (slot words k) ≡ len = slot_length words k (let b = w.below in let r = w.room in omega arith) ∙ sym w.size in
      let s : common (slot words k) text ≡ n = ap (λ (j : ℕ). common (take j (drop (21 * k + 1) words)) text) (sym w.size) ∙ sym w.same in
      ap (λ (j : ℕ). scan_from words may text k j best) m
      ∙ shape (get_or may k false) (common (slot words k) text) (length (slot words k)) (sym w.flag) s l
    where
      shape : (f : Bool) (a b : ℕ) → f ≡ live → a ≡ n → b ≡ len
          → cond (f && eqb a b) (Ok k) (scan_from words may text (suc k) (hi - (k + 1)) (cond f (greater best a) best))
          ≡ cond (live && eqb n len) (Ok k) (scan_from words may text (k + 1) (hi - (k + 1)) (cond live (greater best n) best))
      shape f a b p q r = rw (p, q, r, sym (add-one k))

  pub word_found : Looked → (live && eqb n len) ≡ true → Ok k ≡ scan_from words may text lo (hi - lo) 0
  word_found w t = sym (next_word w ∙ rw t) ∙ w.kept

  pub word_missed : (r : ℕ) → r ≡ cond live (greater best n) best → Looked → (live && eqb n len) ≡ false
      → scan_from words may text (k + 1) (hi - (k + 1)) r ≡ scan_from words may text lo (hi - lo) 0
  word_missed r e w t = ap (λ (j : ℕ). scan_from words may text (k + 1) (hi - (k + 1)) j) e ∙ sym (next_word w ∙ rw t) ∙ w.kept

pub words_end : (words : List ℕ) (may : List Bool) (text : List ℕ) (lo hi k best : ℕ)
    → scan_from words may text k (hi - k) best ≡ scan_from words may text lo (hi - lo) 0 → hi ≤ k → Err best ≡ scan_from words may text lo (hi - lo) 0
unfolding scan_from
words_end words may text lo hi k best e h = (let z : hi - k ≡ 0 = omega arith in let s : scan_from words may text k (hi - k) best ≡ Err best = rw z in sym s) ∙ e

pub table_length : (k x : ℕ) → k < 36 → x ≡ get_or word_table (21 * k) 0 → x % 21 ≡ length (slot word_table k)
table_length k x h e = ap (λ (j : ℕ). j % 21) e ∙ sym (slot_length word_table k (room k h))
  where
    room : (k : ℕ) → k < 36 → 21 * k + 21 ≤ length word_table
    room k h = let z : length word_table ≡ 756 = unfold word_table in refl in omega arith
