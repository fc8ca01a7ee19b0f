-- Laws of rows of four words: read, written, joined, occupied; sets of four words.
use Prim.Native.Nat.{ℕ, zero, suc, ◌+◌, ◌*◌, ◌/◌, ◌%◌, ◌^◌, ◌≤◌, ◌<◌}
use native.Mathlib.Nat.{zero-add}
use native.Mathlib.Omega.{arith}
use mathlib.Core.Path.{◌≡◌, refl, sym, ap, ap₂, ◌∙◌}
use mathlib.Core.Logic.{⊎_elim}
use mathlib.Core.Bool.{Bool, true, false, not, ◌&&◌, ◌||◌, and-true, and-false, or-false}
use mathlib.Core.List.{List, [], ◌∷◌}
use lib.ListN.{length, get_or, set, replicate, length-set, length-replicate, get_or-replicate}
use lib.Seq.{get_or-set_same, get_or-set_other}
use lib.Dec.{eqb, ltb}
use borrow.Rule.Slice.PartMut.{put_mid}
use borrow.Author.Rules.{rules}
use Rattle.std.proofs.lemmas.List.{places}
use Rattle.std.proofs.lemmas.Grind.{common_steps}
use borrow.Author.Tests.{eqb-true, eqb-false, eq-eqb, ne_eqb, lt-ltb, le-ltb}
use Rattle.model.specs.Sets.{any, upto}
use Rattle.model.proofs.Booleans.{Seen, yes!, no!, seen, lt_or_le}
use Rattle.model.proofs.Exists.{any_cong}
use Rattle.sets.specs.NodeSets.{only, combine}
use Rattle.bits.specs.Words.{test_bit, word, words, has_bit}
use Rattle.bits.specs.BitTables.{bit_relation}
use Rattle.bits.specs.Rows.{RowBecomes, has_pair, kept_row}
use Rattle.bits.proofs.Words.{word_cong, word_none, word_zero, test_word, length_words, get_d_words, has_bit_words, words_of, words_cong, has_bit_at, word_at, test_none, any_append}
use Rattle.bits.proofs.Rows.{bit_at}
use Rattle.tables.specs.Tables.{merged_bits, merged_sets, only_if, joined_row}

-- four words

pub four_words : (S : ℕ → Bool) (a b c d : ℕ) → a ≡ word 64 (λ k. S (0 + k)) → b ≡ word 64 (λ k. S (64 + k)) → c ≡ word 64 (λ k. S (128 + k)) → d ≡ word 64 (λ k. S (192 + k))
    → a ∷ b ∷ c ∷ d ∷ [] ≡ words 4 S
four_words S a b c d p q r s = words_of 4 S (a ∷ b ∷ c ∷ d ∷ []) refl at
  where
    at : (i : ℕ) → i < 4 → get_or (a ∷ b ∷ c ∷ d ∷ []) i 0 ≡ word 64 (λ k. S (64 * i + k))
    at zero l = p
    at (suc zero) l = q
    at (suc (suc zero)) l = r
    at (suc (suc (suc zero))) l = s
    at (suc (suc (suc (suc i)))) l = absurd (omega arith)

pub row_length : (r : List ℕ) (S : ℕ → Bool) → r ≡ words 4 S → length r ≡ 4
row_length r S p = ap length p ∙ length_words 4 S

pub row_bit_lem : (r : List ℕ) (S : ℕ → Bool) → r ≡ words 4 S → (y : ℕ) → y < 256 → has_bit r y ≡ S y
row_bit_lem r S p y l = ap (λ (x : List ℕ). has_bit x y) p ∙ has_bit_words 4 S y (omega arith)

pub row_is : (r : List ℕ) (S : ℕ → Bool) → r ≡ words 4 S → r ≡ words 4 (has_bit r)
row_is r S p = p ∙ words_cong 4 _ _ (λ y l. sym (row_bit_lem r S p y (omega arith)))

-- bit k of word j of row x
pub bit_in : (w : List ℕ) (x j k : ℕ) → k < 64 → test_bit (get_or w (4 * x + j) 0) k ≡ bit_relation w x (64 * j + k)
unfolding bit_relation
bit_in w x j k l = sym (has_bit_at w (4 * x + j) k l) ∙ ap (has_bit w) (let e : 64 * (4 * x + j) + k ≡ 256 * x + (64 * j + k) = omega arith in e)

-- a word of a row that is read
pub get_word : (w : List ℕ) (x j i : ℕ) → i ≡ 4 * x + j → get_or w i 0 < 2 ^ 64 → get_or w i 0 ≡ word 64 (λ k. bit_relation w x (64 * j + k))
unfolding bit_relation
get_word w x j i e f = word_at w i f ∙ word_cong 64 _ _ (λ k l. ap (has_bit w) (let g : 64 * i + k ≡ 256 * x + (64 * j + k) = omega arith in g))

-- a word of two sets combined
pub merged_word : (op : ℕ) (a b : List ℕ) (j v : ℕ) → v ≡ word 64 (merged_bits op (get_or a j 0) (get_or b j 0)) → v ≡ word 64 (λ k. merged_sets op a b (64 * j + k))
merged_word op a b j v p = p ∙ word_cong 64 _ _ (λ k l. sym (ap₂ (combine op) (has_bit_at a j k l) (has_bit_at b j k l)))

-- a word of a set joined with a row
pub join_word : (r w : List ℕ) (z j i v : ℕ) → i ≡ 4 * z + j → v ≡ word 64 (merged_bits 0 (get_or r j 0) (get_or w i 0)) → v ≡ word 64 (λ k. joined_row r w z (64 * j + k))
unfolding combine
join_word r w z j i v e p =
    p ∙ word_cong 64 _ _ (λ k l. ap₂ (λ (a b : Bool). a || b) (sym (has_bit_at r j k l)) (ap (λ (q : ℕ). test_bit (get_or w q 0) k) e ∙ bit_in w z j k l))

-- a part of a table is written

module _ (w r : List ℕ) (a k : ℕ) (h : a + k ≤ length w) (e : length r ≡ k) where
  put_size : length (put_mid a k w r) ≡ length w
  put_size = grind (arith, common_steps)

  put_below : (i : ℕ) → i < a → get_or (put_mid a k w r) i 0 ≡ get_or w i 0
  put_below i l = search (rules, places)

  put_in : (i : ℕ) → i < k → get_or (put_mid a k w r) (a + i) 0 ≡ get_or r i 0
  put_in i l = search (rules, places)

  put_behind : (i : ℕ) → a + k ≤ i → get_or (put_mid a k w r) i 0 ≡ get_or w i 0
  put_behind i l = search (rules, places)

pub put_row : (w r p : List ℕ) (x k : ℕ) → 4 * x + 4 ≤ length w → length r ≡ 4 → p ≡ r → k ≡ 4 → RowBecomes x (has_bit r) w (put_mid (4 * x) k w p)
unfolding has_bit
put_row w r p x k h e q z = rw (q, z) (record {
  size = put_size w r (4 * x) 4 h e;
  bits = λ y l. bit_at (put_mid (4 * x) 4 w r) x y ∙ ap (λ (v : ℕ). test_bit v (y % 64)) (put_in w r (4 * x) 4 h e (y / 64) (omega arith));
  before = λ i l. put_below w r (4 * x) 4 h e i l;
  behind = λ i l. put_behind w r (4 * x) 4 h e i l;
})

-- a row that stays, and one that is cleared

pub row_stays : (b : Bool) (x : ℕ) (w : List ℕ) → b ≡ true → RowBecomes x (kept_row b (bit_relation w) x) w w
row_stays b x w p = record { size = refl; bits = λ y l. ap (λ (c : Bool). c && bit_relation w x y) (sym p); before = λ i l. refl; behind = λ i l. refl }

pub row_cleared : (b : Bool) (x : ℕ) (w o : List ℕ) → RowBecomes x (has_bit (replicate 4 0)) w o → b ≡ false → RowBecomes x (kept_row b (bit_relation w) x) w o
unfolding has_bit
row_cleared b x w o r p = record {
  size = r.size;
  bits = λ y l.
      r.bits y l ∙ ap (λ (v : ℕ). test_bit v (y % 64)) (get_or-replicate 4 (y / 64) 0 0 (omega arith)) ∙ test_none (y % 64)
      ∙ ap (λ (c : Bool). c && bit_relation w x y) (sym p);
  before = r.before;
  behind = r.behind;
}

-- a row with a bit set

module _ (w : List ℕ) (x : ℕ) where
  some_bit : (j i : ℕ) → i ≡ 4 * x + j → get_or w i 0 < 2 ^ 64 → not (eqb (get_or w i 0) 0) ≡ any 64 (λ k. bit_relation w x (64 * j + k))
  some_bit j i e f = ap (λ (v : ℕ). not (eqb v 0)) (get_word w x j i e f) ∙ word_zero 64 (λ k. bit_relation w x (64 * j + k))

  pub occupied : get_or w (4 * x) 0 < 2 ^ 64 → get_or w (4 * x + 1) 0 < 2 ^ 64 → get_or w (4 * x + 2) 0 < 2 ^ 64 → get_or w (4 * x + 3) 0 < 2 ^ 64
      → (((not (eqb (get_or w (4 * x) 0) 0) || not (eqb (get_or w (4 * x + 1) 0) 0)) || not (eqb (get_or w (4 * x + 2) 0) 0)) || not (eqb (get_or w (4 * x + 3) 0) 0)) ≡ has_pair (bit_relation w) x
  occupied f g h k =
      ap₂ (λ (a b : Bool). a || b)
      (ap₂ (λ (a b : Bool). a || b)
      (ap₂ (λ (a b : Bool). a || b) (some_bit 0 (4 * x) (omega arith) f ∙ any_cong 64 _ S (λ k l. ap S (zero-add k))) (some_bit 1 (4 * x + 1) refl g))
      (some_bit 2 (4 * x + 2) refl h))
      (some_bit 3 (4 * x + 3) refl k)
      ∙ sym (any_append 192 64 S ∙ ap (λ (b : Bool). b || any 64 (λ k. S (192 + k))) (any_append 128 64 S ∙ ap (λ (b : Bool). b || any 64 (λ k. S (128 + k))) (any_append 64 64 S)))
    where
      S : ℕ → Bool
      S = bit_relation w x

-- one bit of a set of four words is stored

pub empty_set : (S : ℕ → Bool) → ((p : ℕ) → S p ≡ false) → replicate 4 0 ≡ words 4 S
empty_set S h = words_of 4 S (replicate 4 0) (length-replicate {A = ℕ} 4 0) (λ i l. get_or-replicate 4 i 0 0 l ∙ sym (word_none 64 _ (λ k m. h (64 * i + k))))

module _ (S R : ℕ → Bool) (r : List ℕ) (x v : ℕ) where
  pub bit_stored : r ≡ words 4 S → x < 256 → v ≡ word 64 (λ k. R (64 * (x / 64) + k)) → ((p : ℕ) → (p ≡ x → ⊥) → S p ≡ R p) → set r (x / 64) v ≡ words 4 R
  bit_stored p l q h = words_of 4 R (set r (x / 64) v) (length-set r (x / 64) v ∙ row_length r S p) (λ i m. at i m (native.Mathlib.Decide.ℕ_discrete i (x / 64)))
    where
      at : (i : ℕ) → i < 4 → Dec (i ≡ x / 64) → get_or (set r (x / 64) v) i 0 ≡ word 64 (λ k. R (64 * i + k))
      at i m (yes e) =
          ap (λ (k : ℕ). get_or (set r (x / 64) v) k 0) e ∙ get_or-set_same r (x / 64) v 0 (omega (arith, row_length r S p)) ∙ q
          ∙ word_cong 64 _ _ (λ k g. ap (λ (j : ℕ). R (64 * j + k)) (sym e))
      at i m (no d) =
          get_or-set_other r (x / 64) i v 0 d ∙ ap (λ (o : List ℕ). get_or o i 0) p ∙ get_d_words 4 S i m
          ∙ word_cong 64 _ _ (λ k g. h (64 * i + k) (λ e. d (omega arith)))

-- the place of number x in its word
place : (x k : ℕ) → k < 64 → eqb k (x % 64) ≡ eqb (64 * (x / 64) + k) x
place x k l = go (seen (eqb k (x % 64)))
  where
    go : Seen (eqb k (x % 64)) → eqb k (x % 64) ≡ eqb (64 * (x / 64) + k) x
    go (yes! p) = p ∙ sym (eq-eqb (64 * (x / 64) + k) x (let e : k ≡ x % 64 = eqb-true k (x % 64) p in omega arith))
    go (no! p) = p ∙ sym (ne_eqb (64 * (x / 64) + k) x (λ e. eqb-false k (x % 64) p (omega arith)))

pub single_set : (x v : ℕ) → v ≡ word 64 (only_if true (x % 64)) → x < 256 → set (replicate 4 0) (x / 64) v ≡ words 4 (only x)
single_set x v p l =
    bit_stored (λ k. false) (only x) (replicate 4 0) x v (empty_set (λ k. false) (λ k. refl)) l (p ∙ word_cong 64 _ _ (λ k g. place x k g)) (λ k d. sym (ne_eqb k x d))

-- the next number of a set that is made from the front
module _ (S : ℕ → Bool) (x : ℕ) where
  past : (p : ℕ) → (p ≡ x → ⊥) → upto x S p ≡ upto (x + 1) S p
  unfolding upto
  past p d = ⊎_elim (λ l. rw (lt-ltb p x l, lt-ltb p (x + 1) (omega arith))) (λ l. rw (le-ltb p x l, le-ltb p (x + 1) (omega arith))) (lt_or_le p x)

  here : (b : Bool) → b ≡ S x → (upto x S x || (b && true)) ≡ upto (x + 1) S x
  unfolding upto
  here b e = rw (le-ltb x x (omega arith), lt-ltb x (x + 1) (omega arith)) (and-true b ∙ e)

  more : (b : Bool) → b ≡ S x → (p : ℕ) → (upto x S p || (b && eqb p x)) ≡ upto (x + 1) S p
  more b e p = go (seen (eqb p x))
    where
      go : Seen (eqb p x) → (upto x S p || (b && eqb p x)) ≡ upto (x + 1) S p
      go (yes! q) = rw q (ap (λ (k : ℕ). upto x S k || (b && true)) (eqb-true p x q) ∙ here b e ∙ ap (upto (x + 1) S) (sym (eqb-true p x q)))
      go (no! q) = rw (q, and-false b) (or-false (upto x S p) ∙ past p (eqb-false p x q))

  pub start_stored : (r : List ℕ) (b : Bool) (c v : ℕ) → r ≡ words 4 (upto x S) → b ≡ S x → c ≡ word 64 (only_if b (x % 64)) → v ≡ word 64 (merged_bits 0 (get_or r (x / 64) 0) c) → x < 256
      → set r (x / 64) v ≡ words 4 (upto (x + 1) S)
  unfolding combine
  start_stored r b c v p e q z l =
      bit_stored (upto x S) (upto (x + 1) S) r x v p l
      (z ∙ word_cong 64 _ _ (λ k g.
      ap₂ (λ (a d : Bool). a || d)
      (sym (has_bit_at r (x / 64) k g) ∙ row_bit_lem r (upto x S) p (64 * (x / 64) + k) (omega arith))
      (ap (λ (u : ℕ). test_bit u k) q ∙ test_word 64 (only_if b (x % 64)) k g ∙ ap (λ (t : Bool). b && t) (place x k g))
      ∙ more b e (64 * (x / 64) + k)))
      past

pub starts_none : (S : ℕ → Bool) → replicate 4 0 ≡ words 4 (upto 0 S)
unfolding upto
starts_none S = empty_set (λ p. ltb p 0 && S p) (λ p. rw (le-ltb p 0 (omega arith)))

pub starts_whole : (S : ℕ → Bool) (r : List ℕ) (x n : ℕ) → r ≡ words 4 (upto x S) → x ≤ n → n ≤ x → r ≡ words 4 (upto n S)
starts_whole S r x n p l h = p ∙ ap (λ (k : ℕ). words 4 (upto k S)) (omega arith)
