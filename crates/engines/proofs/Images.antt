-- Laws of images that are read from a table of bits.
use Prim.Native.Nat.{ℕ, ◌+◌, ◌-◌, ◌*◌, ◌≤◌, ◌<◌}
use native.Mathlib.Nat.{zero-add}
use native.Mathlib.Omega.{arith}
use mathlib.Core.Path.{◌≡◌, refl, sym, ap, ap₂, ◌∙◌}
use mathlib.Core.Bool.{Bool, true, false, ◌&&◌, or_comm}
use mathlib.Core.List.{List, ◌++◌}
use lib.ListN.{get_or, take, drop, replicate, length-drop, length-replicate, get_or-replicate}
use lib.Seq.{get_or-drop}
use lib.Dec.{ltb}
use borrow.Author.Tests.{ltb-true, lt-ltb, le-ltb}
use Rattle.model.specs.Sets.{any, bit, tab, memb, upto, turn, image}
use Rattle.model.proofs.Booleans.{bool_ext, both_yes, yes_left, yes_right}
use Rattle.model.proofs.Exists.{any_intro, any_elim, any_cong, any_next}
use Rattle.model.proofs.Bytes.{tab_of, tab_cong, tab_append, memb_yes, memb_no}
use Rattle.sets.specs.NodeSets.{combine}
use Rattle.sets.proofs.Images.{upto_cong}
use Rattle.bits.specs.Words.{words, has_bit}
use Rattle.bits.specs.BitTables.{bit_relation}
use Rattle.bits.specs.Rows.{has_pair}
use Rattle.bits.proofs.Words.{words_cong}
use Rattle.packing.specs.Parts.{row_bit}
use Rattle.tables.specs.Tables.{joined_row, merged_sets}
use Rattle.tables.proofs.Rows.{row_bit_lem, empty_set}
use Rattle.engines.specs.Reading.{joined_rows, meets}

-- the rows of a set's nodes, joined one after the other

module _ (w s : List ℕ) where
  pub rows_start : replicate 4 0 ≡ words 4 (joined_rows 0 (bit_relation w) s)
  unfolding joined_rows any
  rows_start = empty_set _ (λ y. refl)

  module _ (r : List ℕ) (x : ℕ) (p : r ≡ words 4 (joined_rows x (bit_relation w) s)) where
    pub rows_join : (o : List ℕ) → o ≡ words 4 (joined_row r w x) → (get_or s x 0 ≡ 0 → ⊥) → o ≡ words 4 (joined_rows (x + 1) (bit_relation w) s)
    unfolding joined_rows
    rows_join o q h = q ∙ words_cong 4 _ _ (λ y l.
        or_comm (has_bit r y) (bit_relation w x y)
        ∙ sym (sym (any_next x (λ z. memb s z && bit_relation w z y) (has_bit r y) (row_bit_lem r _ p y (omega arith))) ∙ rw (memb_yes s x h)))

    pub rows_skip : get_or s x 0 ≡ 0 → r ≡ words 4 (joined_rows (x + 1) (bit_relation w) s)
    unfolding joined_rows
    rows_skip h = p ∙ words_cong 4 _ _ (λ y l. sym (sym (any_next x (λ z. memb s z && bit_relation w z y) _ refl) ∙ rw (memb_no s x h)))

-- the first row of a table of one
first_row : (w : List ℕ) (y : ℕ) → bit_relation w 0 y ≡ has_bit w y
unfolding bit_relation
first_row w y = ap (has_bit w) (zero-add y)

-- a row and a set have a node in common exactly if what they have in common is occupied
pub row_meets : (w s own both : List ℕ) (x : ℕ) (b : Bool) → b ≡ has_pair (bit_relation both) 0 → both ≡ words 4 (merged_sets 1 own s) → own ≡ words 4 (bit_relation w x) → b ≡ meets (bit_relation w) s x
unfolding meets combine
row_meets w s own both x b p q r =
    p ∙ any_cong 256 _ _ (λ y l. first_row both y ∙ row_bit_lem both _ q y l ∙ ap (λ (c : Bool). c && has_bit s y) (row_bit_lem own _ r y l))

-- a row of bits over the front of 256 empty bytes
pub row_bytes : (s r : List ℕ) (n : ℕ) → r ≡ take 0 (replicate 256 0) ++ tab n (row_bit s 0) ++ drop (0 + n) (replicate 256 0) → n ≤ 256 → r ≡ tab 256 (upto n (has_bit s))
unfolding upto
row_bytes s r n p h =
    p
    ∙ ap₂ (λ (a b : List ℕ). a ++ b) (tab_cong n _ _ below) (tab_of (256 - n) _ _ (length-drop (0 + n) (replicate 256 0) ∙ rw (length-replicate {A = ℕ} 256 0) (omega arith)) beyond)
    ∙ sym (tab_append n (256 - n) (upto n (has_bit s)))
    ∙ ap (λ (k : ℕ). tab k (upto n (has_bit s))) (let e : n + (256 - n) ≡ 256 = omega arith in e)
  where
    below : (k : ℕ) → k < n → has_bit s (64 * 0 + k) ≡ (ltb k n && has_bit s k)
    below k l = rw (lt-ltb k n l) (ap (has_bit s) (let e : 64 * 0 + k ≡ k = omega arith in e))

    beyond : (i : ℕ) → i < 256 - n → get_or (drop (0 + n) (replicate 256 0)) i 0 ≡ bit (ltb (n + i) n && has_bit s (n + i))
    beyond i l = get_or-drop (0 + n) (replicate 256 0) i 0 ∙ get_or-replicate 256 (0 + n + i) 0 0 (omega arith) ∙ rw (le-ltb (n + i) n (omega arith))

-- the image, read either way

module _ (n : ℕ) (le : n ≤ 256) (w s : List ℕ) (back : Bool) (o : List ℕ) where
  pub read_forwards : (r : List ℕ) → o ≡ tab 256 (upto n (has_bit r)) → r ≡ words 4 (joined_rows n (bit_relation w) s) → back ≡ false → o ≡ tab 256 (image n (turn back (bit_relation w)) (memb s))
  unfolding joined_rows image
  read_forwards r p q b = rw b (p ∙ upto_cong n le _ _ (λ y l. row_bit_lem r _ q y (omega arith)))

  pub read_backwards : (r : List ℕ) → o ≡ tab 256 (upto n (meets (bit_relation w) r)) → r ≡ words 4 (upto n (memb s)) → back ≡ true → o ≡ tab 256 (image n (turn back (bit_relation w)) (memb s))
  unfolding meets image upto
  read_backwards r p q b = rw b (p ∙ upto_cong n le _ _ (λ x l. bool_ext _ _
      (λ h.
      let (y, m, g) = any_elim 256 (λ y. bit_relation w x y && has_bit r y) h in
      let k = sym (row_bit_lem r _ q y m) ∙ yes_right (bit_relation w x y) (has_bit r y) g in
      any_intro n (λ y. memb s y && bit_relation w x y) y (ltb-true y n (yes_left (ltb y n) (memb s y) k))
      (both_yes (yes_right (ltb y n) (memb s y) k) (yes_left (bit_relation w x y) (has_bit r y) g)))
      (λ h.
      let (y, m, g) = any_elim n (λ y. memb s y && bit_relation w x y) h in
      any_intro 256 (λ y. bit_relation w x y && has_bit r y) y (omega arith)
      (both_yes (yes_right (memb s y) (bit_relation w x y) g)
      (row_bit_lem r _ q y (omega arith) ∙ both_yes (lt-ltb y n m) (yes_left (memb s y) (bit_relation w x y) g))))))
