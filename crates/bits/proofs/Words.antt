-- Laws of words as sets of bits, to which all reasoning about bits comes down. Every operation on words is one on the tests of their
-- bits: word_or, word_and, word_not, word_one, test_shift, test_without; a word is the word of its own bits: word_bits.
use Prim.Native.Nat.{ℕ, zero, suc, ◌+◌, ◌-◌, ◌*◌, ◌/◌, ◌%◌, ◌^◌, ◌≤◌, ◌<◌, min, max}
use native.Mathlib.Nat.{not-suc-le-zero, le_of_suc-le-suc, lt_of_lt_of_le, pow-suc, add-zero, add-suc, div-add-mod', div-one, div-eq_of_lt, zero-div, add_comm}
use native.Mathlib.Numerals.{one-add, add-one}
use native.Mathlib.Omega.{arith}
use mathlib.Core.Path.{◌≡◌, refl, sym, ap, ap₂, ◌∙◌, subst}
use mathlib.Core.Bool.{Bool, true, false, not, ◌&&◌, ◌||◌, and-true, or-false}
use mathlib.Core.Logic.{⊎_elim}
use mathlib.Core.List.{List, [], ◌∷◌, ◌++◌, append_assoc, append-nil}
use lib.ListN.{length, get_or}
use lib.Dec.{eqb, ltb, eqb-suc-suc}
use lib.Seq.{ext_get_or}
use lib.Arith.{digits_div, digits_mod}
use lib.Pow.{shr-shr, pow_mono, shr_le, shl_exact, pow_pos}
use lib.Bits.{bit_and, bit_or, and_step, or_step, and_self, or_shifted_r}
use lib.Count.{count_trailing_zeros}
use borrow.Author.Tests.{eqb-true, ne_eqb, ltb-false, le-ltb, not-true, lt-ltb}
use Rattle.model.specs.Sets.{any, bit}
use Rattle.model.proofs.Booleans.{Seen, yes!, no!, seen, no_yes, bool_ext, both_yes, yes_left, yes_right, lt_or_le}
use Rattle.model.proofs.Exists.{any_intro, any_elim, none_of}
use Rattle.bits.specs.Words.{test_bit, word, words, has_bit}

pub bit_lt : (b : Bool) → bit b < 2
bit_lt true = omega arith
bit_lt false = omega arith

-- the lowest bit, and the others

pub half : (k : ℕ) (f : ℕ → Bool) → word (suc k) f / 2 ≡ word k (λ i. f (suc i))
unfolding word
half k f = digits_div (word k (λ i. f (suc i))) (bit_lt (f 0))

pub odd : (k : ℕ) (f : ℕ → Bool) → word (suc k) f % 2 ≡ bit (f 0)
unfolding word
odd k f = digits_mod (word k (λ i. f (suc i))) (bit_lt (f 0))

pub word_cong : (k : ℕ) (f g : ℕ → Bool) → ((i : ℕ) → i < k → f i ≡ g i) → word k f ≡ word k g
unfolding word
word_cong zero f g h = refl
word_cong (suc k) f g h = rw (h 0 (omega arith), word_cong k (λ i. f (suc i)) (λ i. g (suc i)) (λ i l. h (suc i) (omega arith)))

pub word_lt : (k : ℕ) (f : ℕ → Bool) → word k f < 2 ^ k
unfolding word
word_lt zero f = omega arith
word_lt (suc k) f = rw (pow-suc 2 k) (let a = word_lt k (λ i. f (suc i)) in let b = bit_lt (f 0) in omega arith)

-- the operations on words

pub word_or : (k : ℕ) (f g : ℕ → Bool) → bit_or (word k f) (word k g) ≡ word k (λ i. f i || g i)
unfolding word
word_or zero f g = refl
word_or (suc k) f g =
    or_step (word (suc k) f) (word (suc k) g)
    ∙ rw (half k f, half k g, odd k f, odd k g, word_or k (λ i. f (suc i)) (λ i. g (suc i)), top (f 0) (g 0))
  where
    top : (a b : Bool) → max (bit a) (bit b) ≡ bit (a || b)
    top true true = refl
    top true false = refl
    top false true = refl
    top false false = refl

pub word_and : (k : ℕ) (f g : ℕ → Bool) → bit_and (word k f) (word k g) ≡ word k (λ i. f i && g i)
unfolding word
word_and zero f g = refl
word_and (suc k) f g =
    and_step (word (suc k) f) (word (suc k) g)
    ∙ rw (half k f, half k g, odd k f, odd k g, word_and k (λ i. f (suc i)) (λ i. g (suc i)), top (f 0) (g 0))
  where
    top : (a b : Bool) → min (bit a) (bit b) ≡ bit (a && b)
    top true true = refl
    top true false = refl
    top false true = refl
    top false false = refl

complement : (k : ℕ) (f : ℕ → Bool) → word k f + word k (λ i. not (f i)) + 1 ≡ 2 ^ k
unfolding word
complement zero f = refl
complement (suc k) f = rw (pow-suc 2 k) (let h = complement k (λ i. f (suc i)) in let g = one (f 0) in omega arith)
  where
    one : (b : Bool) → bit b + bit (not b) ≡ 1
    one true = refl
    one false = refl

pub word_not : (k : ℕ) (f : ℕ → Bool) → (2 ^ k - 1) - word k f ≡ word k (λ i. not (f i))
word_not k f = let h = complement k f in omega arith

-- a word of no bit, and of one

pub word_none : (k : ℕ) (f : ℕ → Bool) → ((i : ℕ) → i < k → f i ≡ false) → word k f ≡ 0
unfolding word
word_none zero f h = refl
word_none (suc k) f h = rw (h 0 (omega arith), word_none k (λ i. f (suc i)) (λ i l. h (suc i) (omega arith)))

-- one bit more at the top
pub word_snoc : (k : ℕ) (f : ℕ → Bool) → word (suc k) f ≡ word k f + bit (f k) * 2 ^ k
unfolding word
word_snoc zero f = omega arith
word_snoc (suc k) f = rw (pow-suc 2 k) (let h = word_snoc k (λ i. f (suc i)) in let g = times (f (suc k)) in omega arith)
  where
    times : (b : Bool) → bit b * (2 ^ k * 2) ≡ bit b * 2 ^ k * 2
    times true = omega arith
    times false = omega arith

-- the tests of a word's bits, and the word of a word's tests

shift : (w i : ℕ) → w / 2 ^ suc i ≡ w / 2 / 2 ^ i
shift w i = rw (sym (one-add i)) (sym (shr-shr w 1 i))

test_zero : (w : ℕ) → test_bit w 0 ≡ eqb (w % 2) 1
test_zero w = rw (div-one w)

-- for the reader: bit i of the word of a set is set exactly if i is in it
pub test_word : (k : ℕ) (f : ℕ → Bool) (i : ℕ) → i < k → test_bit (word k f) i ≡ f i
test_word zero f i l = absurd (not-suc-le-zero l)
test_word (suc k) f zero l = test_zero (word (suc k) f) ∙ rw (odd k f) (low (f 0))
  where
    low : (b : Bool) → eqb (bit b) 1 ≡ b
    low true = refl
    low false = refl
test_word (suc k) f (suc i) l =
    ap (λ (x : ℕ). eqb (x % 2) 1) (shift (word (suc k) f) i ∙ ap (λ (x : ℕ). x / 2 ^ i) (half k f))
    ∙ test_word k (λ j. f (suc j)) i (le_of_suc-le-suc l)

-- and a word is the word of its own bits
pub word_bits : (k w : ℕ) → w < 2 ^ k → word k (test_bit w) ≡ w
unfolding word
word_bits zero w h = omega arith
word_bits (suc k) w h =
    ap₂ (λ (x y : ℕ). x * 2 + y)
    (word_cong k (λ i. test_bit w (suc i)) (test_bit (w / 2)) (λ i l. ap (λ (x : ℕ). eqb (x % 2) 1) (shift w i))
    ∙ word_bits k (w / 2) (let g : w < 2 ^ k * 2 = rw (pow-suc 2 k) at h in omega arith))
    (ap bit (test_zero w) ∙ low (w % 2) (omega arith))
    ∙ div-add-mod' w 2
  where
    low : (x : ℕ) → x < 2 → bit (eqb x 1) ≡ x
    low zero h = refl
    low (suc zero) h = refl
    low (suc (suc x)) h = absurd (omega arith)

-- a word of one bit
pub word_one : (k i : ℕ) → i < k → word k (λ j. eqb j i) ≡ 2 ^ i
unfolding word
word_one zero i l = absurd (not-suc-le-zero l)
word_one (suc k) zero l = rw (word_none k (λ j. eqb (suc j) 0) (λ j m. ne_eqb (suc j) 0 (λ e. omega arith)))
word_one (suc k) (suc i) l =
    rw (word_cong k (λ j. eqb (suc j) (suc i)) (λ j. eqb j i) (λ j m. eqb-suc-suc j i), word_one k i (le_of_suc-le-suc l), ne_eqb 0 (suc i) (λ e. omega arith), pow-suc 2 i) (add-zero (2 ^ i * 2))

-- the word is 0 exactly if no bit is set
pub word_zero : (k : ℕ) (f : ℕ → Bool) → not (eqb (word k f) 0) ≡ any k f
word_zero k f = go (seen (any k f)) (seen (eqb (word k f) 0))
  where
    go : Seen (any k f) → Seen (eqb (word k f) 0) → not (eqb (word k f) 0) ≡ any k f
    go (yes! p) (no! q) = rw (p, q)
    go (no! p) z = rw (p, word_none k f (λ i l. none_of k f i p l))
    go (yes! p) (yes! q) =
        let (i, l, h) = any_elim k f p in
        no_yes (rw (zero-div (2 ^ i))) (rw (eqb-true (word k f) 0 q) at (test_word k f i l ∙ h))

-- lists of words

pub length_words : (m : ℕ) (S : ℕ → Bool) → length (words m S) ≡ m
unfolding words
length_words zero S = refl
length_words (suc m) S = ap suc (length_words m (λ p. S (64 + p)))

pub get_d_words : (m : ℕ) (S : ℕ → Bool) (i : ℕ) → i < m → get_or (words m S) i 0 ≡ word 64 (λ k. S (64 * i + k))
unfolding words
get_d_words zero S i l = absurd (not-suc-le-zero l)
get_d_words (suc m) S zero l = word_cong 64 S (λ k. S (64 * 0 + k)) (λ k h. ap S (omega arith))
get_d_words (suc m) S (suc i) l =
    get_d_words m (λ p. S (64 + p)) i (le_of_suc-le-suc l) ∙ word_cong 64 (λ k. S (64 + (64 * i + k))) (λ k. S (64 * suc i + k)) (λ k h. ap S (omega arith))

-- number p is in the words of a set exactly if it is in the set
pub has_bit_words : (m : ℕ) (S : ℕ → Bool) (p : ℕ) → p < 64 * m → has_bit (words m S) p ≡ S p
unfolding has_bit
has_bit_words m S p l =
    rw (get_d_words m S (p / 64) (omega arith)) (test_word 64 (λ k. S (64 * (p / 64) + k)) (p % 64) (omega arith) ∙ ap S (omega arith))

pub words_of : (m : ℕ) (S : ℕ → Bool) (l : List ℕ) → length l ≡ m → ((i : ℕ) → i < m → get_or l i 0 ≡ word 64 (λ k. S (64 * i + k))) → l ≡ words m S
words_of m S l e h = ext_get_or 0 l (words m S) (e ∙ sym (length_words m S)) (λ i k. let g : i < m = omega arith in h i g ∙ sym (get_d_words m S i g))

pub words_cong : (m : ℕ) (S R : ℕ → Bool) → ((p : ℕ) → p < 64 * m → S p ≡ R p) → words m S ≡ words m R
words_cong m S R h = words_of m R (words m S) (length_words m S) (λ i l. get_d_words m S i l ∙ word_cong 64 _ _ (λ k g. h (64 * i + k) (omega arith)))

-- one word more at the end
pub words_snoc : (m : ℕ) (S : ℕ → Bool) → words (suc m) S ≡ words m S ++ (word 64 (λ k. S (64 * m + k)) ∷ [])
unfolding words
words_snoc zero S = ap (λ (x : ℕ). x ∷ []) (word_cong 64 S (λ k. S (64 * 0 + k)) (λ k h. ap S (omega arith)))
words_snoc (suc m) S =
    ap (λ (l : List ℕ). word 64 S ∷ l) (words_snoc m (λ p. S (64 + p))
    ∙ ap (λ (x : ℕ). words m (λ p. S (64 + p)) ++ (x ∷ [])) (word_cong 64 (λ k. S (64 + (64 * m + k))) (λ k. S (64 * suc m + k)) (λ k h. ap S (omega arith))))

-- bit k of word i of a list of words
pub has_bit_at : (l : List ℕ) (i k : ℕ) → k < 64 → has_bit l (64 * i + k) ≡ test_bit (get_or l i 0) k
unfolding has_bit
has_bit_at l i k h =
    let a : (64 * i + k) / 64 ≡ i = omega arith in
    let b : (64 * i + k) % 64 ≡ k = omega arith in
    rw (a, b)

-- a word of a list as the word of its bits
pub word_at : (l : List ℕ) (i : ℕ) → get_or l i 0 < 2 ^ 64 → get_or l i 0 ≡ word 64 (λ k. has_bit l (64 * i + k))
word_at l i h = sym (word_cong 64 (λ k. has_bit l (64 * i + k)) (test_bit (get_or l i 0)) (λ k g. has_bit_at l i k g) ∙ word_bits 64 (get_or l i 0) h)

-- the words of two parts
pub words_append : (a m : ℕ) (S : ℕ → Bool) → words (a + m) S ≡ words a S ++ words m (λ k. S (64 * a + k))
unfolding words
words_append a zero S = rw (add-zero a) (sym (append-nil (words a S)))
words_append a (suc m) S =
    rw (add-suc a m)
    (words_snoc (a + m) S
    ∙ ap (λ (l : List ℕ). l ++ (word 64 (λ k. S (64 * (a + m) + k)) ∷ [])) (words_append a m S)
    ∙ append_assoc (words a S) (words m (λ k. S (64 * a + k))) (word 64 (λ k. S (64 * (a + m) + k)) ∷ [])
    ∙ ap (λ (l : List ℕ). words a S ++ l)
    (ap (λ (x : ℕ). words m (λ k. S (64 * a + k)) ++ (x ∷ [])) (word_cong 64 _ _ (λ k h. ap S (let e : 64 * (a + m) + k ≡ 64 * a + (64 * m + k) = omega arith in e)))
    ∙ sym (words_snoc m (λ k. S (64 * a + k)))))

-- the bits of a word from bit m on

pub test_shift : (w m k : ℕ) → test_bit (w / 2 ^ m) k ≡ test_bit w (m + k)
test_shift w m k = ap (λ (x : ℕ). eqb (x % 2) 1) (shr-shr w m k)

pub test_beyond : (w k i : ℕ) → w < 2 ^ k → k ≤ i → test_bit w i ≡ false
test_beyond w k i h l = ap (λ (x : ℕ). eqb (x % 2) 1) (div-eq_of_lt (lt_of_lt_of_le h (pow_mono l)))

-- the shifted word is 0 exactly if none of them is set
pub any_from : (w m : ℕ) → w < 2 ^ 64 → not (eqb (w / 2 ^ m) 0) ≡ any 64 (λ k. not (ltb k m) && test_bit w k)
any_from w m h =
    ap (λ (v : ℕ). not (eqb v 0)) (sym (word_bits 64 (w / 2 ^ m) (let l = shr_le w m in omega arith)))
    ∙ word_zero 64 (test_bit (w / 2 ^ m))
    ∙ bool_ext (any 64 (test_bit (w / 2 ^ m))) (any 64 (λ k. not (ltb k m) && test_bit w k)) there back
  where
    there : any 64 (test_bit (w / 2 ^ m)) ≡ true → any 64 (λ k. not (ltb k m) && test_bit w k) ≡ true
    there p =
        let (k, l, q) = any_elim 64 (test_bit (w / 2 ^ m)) p in
        let t : test_bit w (m + k) ≡ true = sym (test_shift w m k) ∙ q in
        ⊎_elim (λ g. any_intro 64 (λ k. not (ltb k m) && test_bit w k) (m + k) g (both_yes (ap not (le-ltb (m + k) m (omega arith))) t))
        (λ g. no_yes (test_beyond w 64 (m + k) h g) t) (lt_or_le (m + k) 64)

    back : any 64 (λ k. not (ltb k m) && test_bit w k) ≡ true → any 64 (test_bit (w / 2 ^ m)) ≡ true
    back p =
        let (k, l, q) = any_elim 64 (λ k. not (ltb k m) && test_bit w k) p in
        let g : m ≤ k = ltb-false k m (not-true (ltb k m) (yes_left (not (ltb k m)) (test_bit w k) q)) in
        any_intro 64 (test_bit (w / 2 ^ m)) (k - m) (omega arith)
        (test_shift w m (k - m) ∙ ap (test_bit w) (let e : m + (k - m) ≡ k = omega arith in e) ∙ yes_right (not (ltb k m)) (test_bit w k) q)

-- a word whose bits from k on are 0 is the word of its first k bits
pub word_short : (k m : ℕ) (f g : ℕ → Bool) → k ≤ m → ((i : ℕ) → i < k → f i ≡ g i) → ((i : ℕ) → k ≤ i → i < m → g i ≡ false) → word k f ≡ word m g
unfolding word
word_short zero m f g l h z = sym (word_none m g (λ i u. z i (omega arith) u))
word_short (suc k) zero f g l h z = absurd (not-suc-le-zero l)
word_short (suc k) (suc m) f g l h z =
    rw (h 0 (omega arith), word_short k m (λ i. f (suc i)) (λ i. g (suc i)) (le_of_suc-le-suc l) (λ i u. h (suc i) (omega arith)) (λ i u v. z (suc i) (omega arith) (omega arith)))

-- a bit of two words joined
pub test_or : (a b k : ℕ) → a < 2 ^ 64 → b < 2 ^ 64 → k < 64 → test_bit (bit_or a b) k ≡ (test_bit a k || test_bit b k)
test_or a b k fa fb l =
    ap (λ (v : ℕ). test_bit v k) (ap₂ bit_or (sym (word_bits 64 a fa)) (sym (word_bits 64 b fb)) ∙ word_or 64 (test_bit a) (test_bit b))
    ∙ test_word 64 (λ i. test_bit a i || test_bit b i) k l

-- one bit more is set
pub word_more : (f : ℕ → Bool) (w k v : ℕ) → w ≡ word k f → v ≡ bit (f k) → k < 64 → bit_or w ((v * 2 ^ k) % 2 ^ 64) ≡ word (k + 1) f
word_more f w k v p q l =
    rw (p, q, add-one k, shl_exact {a = bit (f k)} 1 k 64 (bit_lt (f k)) (omega arith), or_shifted_r (bit (f k)) k (word k f) (word_lt k f), word_snoc k f)
    (add_comm (bit (f k) * 2 ^ k) (word k f))

-- the lowest m bits
pub word_below : (k m : ℕ) → m ≤ k → word k (λ i. ltb i m) ≡ 2 ^ m - 1
unfolding word
word_below zero zero h = refl
word_below zero (suc m) h = absurd (omega arith)
word_below (suc k) zero h = word_none (suc k) (λ i. ltb i 0) (λ i l. le-ltb i 0 (omega arith))
word_below (suc k) (suc m) h =
    rw (word_cong k (λ i. ltb (suc i) (suc m)) (λ i. ltb i m) (λ i l. same i), word_below k m (le_of_suc-le-suc h), lt-ltb 0 (suc m) (omega arith), pow-suc 2 m)
    (let p : 0 < 2 ^ m = pow_pos m in omega arith)
  where
    same : (i : ℕ) → ltb (suc i) (suc m) ≡ ltb i m
    same i = ⊎_elim (λ l. lt-ltb (suc i) (suc m) (omega arith) ∙ sym (lt-ltb i m l)) (λ l. le-ltb (suc i) (suc m) (omega arith) ∙ sym (le-ltb i m l)) (lt_or_le i m)

pub one_shifted : (m : ℕ) → m < 64 → 1 ≤ (1 * 2 ^ m) % 2 ^ 64
one_shifted m l = rw (shl_exact {a = 1} 1 m 64 (omega arith) (omega arith)) (let p : 0 < 2 ^ m = pow_pos m in omega arith)

-- the lowest bit

-- t is the lowest number below k that passes f
pub record Lowest (k : ℕ) (f : ℕ → Bool) (t : ℕ) : Type 0 where
  pub below : t < k
  pub holds : f t ≡ true
  pub first : (i : ℕ) → i < t → f i ≡ false

module _ (k : ℕ) (f : ℕ → Bool) where
  lowest_here : f 0 ≡ true → count_trailing_zeros (suc k) (word (suc k) f) ≡ 0
  unfolding count_trailing_zeros
  lowest_here p = rw (odd k f, p)

  lowest_later : f 0 ≡ false → count_trailing_zeros (suc k) (word (suc k) f) ≡ suc (count_trailing_zeros k (word k (λ i. f (suc i))))
  unfolding count_trailing_zeros
  lowest_later p = rw (odd k f, half k f, p)

  any_later : f 0 ≡ false → any (suc k) f ≡ true → any k (λ i. f (suc i)) ≡ true
  any_later p h = go (any_elim (suc k) f h)
    where
      go : ((x : ℕ) × (x < suc k) × (f x ≡ true)) → any k (λ i. f (suc i)) ≡ true
      go (zero, l, q) = no_yes p q
      go (suc x, l, q) = any_intro k (λ i. f (suc i)) x (le_of_suc-le-suc l) q

  some_word : any k f ≡ true → 0 < word k f
  some_word h =
      ⊎_elim (λ l. l) (λ l. no_yes (ap (λ (v : ℕ). not (eqb v 0)) (let e : word k f ≡ 0 = omega arith in e)) (word_zero k f ∙ h)) (lt_or_le 0 (word k f))

pub lowest_bit : (k : ℕ) (f : ℕ → Bool) → any k f ≡ true → Lowest k f (count_trailing_zeros k (word k f))
unfolding any
lowest_bit zero f h = no_yes refl h
lowest_bit (suc k) f h = go (seen (f 0)) (lowest_bit k (λ i. f (suc i)))
  where
    go : Seen (f 0) → (any k (λ i. f (suc i)) ≡ true → Lowest k (λ i. f (suc i)) (count_trailing_zeros k (word k (λ i. f (suc i))))) → Lowest (suc k) f (count_trailing_zeros (suc k) (word (suc k) f))
    go (yes! p) ih = subst (Lowest (suc k) f) (sym (lowest_here k f p)) record { below = omega arith; holds = p; first = λ i l. absurd (omega arith) }
    go (no! p) ih =
        let w = ih (any_later k f p h) in
        subst (Lowest (suc k) f) (sym (lowest_later k f p)) record { below = omega (arith, w.below); holds = w.holds; first = at w }
      where
        at : {t : ℕ} → Lowest k (λ i. f (suc i)) t → (i : ℕ) → i < suc t → f i ≡ false
        at w zero l = p
        at w (suc i) l = w.first i (le_of_suc-le-suc l)

-- a word and the word less one: the lowest bit goes

and_odd : (w h : ℕ) → w / 2 ≡ h → w % 2 ≡ 1 → bit_and w (w - 1) ≡ h * 2
and_odd w h p q =
    let a : (w - 1) / 2 ≡ h = omega arith in
    let b : (w - 1) % 2 ≡ 0 = omega arith in
    and_step w (w - 1) ∙ rw (p, q, a, b, and_self h) (omega arith)

and_even : (w h : ℕ) → w / 2 ≡ h → w % 2 ≡ 0 → 0 < h → bit_and w (w - 1) ≡ bit_and h (h - 1) * 2
and_even w h p q l =
    let a : (w - 1) / 2 ≡ h - 1 = omega arith in
    let b : (w - 1) % 2 ≡ 1 = omega arith in
    and_step w (w - 1) ∙ rw (p, q, a, b) (omega arith)

without_lowest : (k : ℕ) (f : ℕ → Bool) → any k f ≡ true → bit_and (word k f) (word k f - 1) ≡ word k (λ i. f i && not (eqb i (count_trailing_zeros k (word k f))))
unfolding any
without_lowest zero f h = no_yes refl h
without_lowest (suc k) f h = go (seen (f 0)) (without_lowest k (λ i. f (suc i)))
  where
    g : ℕ → ℕ → Bool
    g t i = f i && not (eqb i t)

    -- the bits above the lowest place
    up : (t : ℕ) (u : ℕ → Bool) → ((i : ℕ) → eqb (suc i) t ≡ u i) → g t 0 ≡ false → word (suc k) (g t) ≡ word k (λ i. f (suc i) && not (u i)) * 2
    up t u e z =
        (let d : word (suc k) (g t) ≡ word (suc k) (g t) / 2 * 2 + word (suc k) (g t) % 2 = omega arith in d)
        ∙ rw (half k (g t), odd k (g t), z, word_cong k (λ i. g t (suc i)) (λ i. f (suc i) && not (u i)) (λ i l. rw (e i))) (omega arith)

    go : Seen (f 0) → (any k (λ i. f (suc i)) ≡ true → bit_and (word k (λ i. f (suc i))) (word k (λ i. f (suc i)) - 1) ≡ word k (λ i. f (suc i) && not (eqb i (count_trailing_zeros k (word k (λ i. f (suc i)))))))
        → bit_and (word (suc k) f) (word (suc k) f - 1) ≡ word (suc k) (g (count_trailing_zeros (suc k) (word (suc k) f)))
    go (yes! p) ih =
        and_odd (word (suc k) f) (word k (λ i. f (suc i))) (half k f) (odd k f ∙ rw p)
        ∙ sym (ap (λ (t : ℕ). word (suc k) (g t)) (lowest_here k f p)
        ∙ up 0 (λ i. false) (λ i. ne_eqb (suc i) 0 (λ e. omega arith)) (rw p)
        ∙ ap (λ (v : ℕ). v * 2) (word_cong k (λ i. f (suc i) && true) (λ i. f (suc i)) (λ i l. and-true (f (suc i)))))
    go (no! p) ih =
        let s = any_later k f p h in
        and_even (word (suc k) f) (word k (λ i. f (suc i))) (half k f) (odd k f ∙ rw p) (some_word k (λ i. f (suc i)) s)
        ∙ ap (λ (v : ℕ). v * 2) (ih s)
        ∙ sym (ap (λ (t : ℕ). word (suc k) (g t)) (lowest_later k f p)
        ∙ up (suc (count_trailing_zeros k (word k (λ i. f (suc i))))) (λ i. eqb i (count_trailing_zeros k (word k (λ i. f (suc i))))) (λ i. eqb-suc-suc i _) (rw p))

-- the same of a word that is not 0
module _ (w : ℕ) (fits : w < 2 ^ 64) (some : w ≡ 0 → ⊥) where
  has : any 64 (test_bit w) ≡ true
  has = sym (word_zero 64 (test_bit w)) ∙ ap (λ (v : ℕ). not (eqb v 0)) (word_bits 64 w fits) ∙ rw (ne_eqb w 0 some)

  pub lowest_of : Lowest 64 (test_bit w) (count_trailing_zeros 64 w)
  lowest_of = subst (λ (v : ℕ). Lowest 64 (test_bit w) (count_trailing_zeros 64 v)) (word_bits 64 w fits) (lowest_bit 64 (test_bit w) has)

  pub test_without : (k : ℕ) → k < 64 → test_bit (bit_and w (w - 1)) k ≡ (test_bit w k && not (eqb k (count_trailing_zeros 64 w)))
  test_without k l =
      ap (λ (v : ℕ). test_bit v k) (subst (λ (v : ℕ). bit_and v (v - 1) ≡ word 64 (λ i. test_bit w i && not (eqb i (count_trailing_zeros 64 v)))) (word_bits 64 w fits) (without_lowest 64 (test_bit w) has))
      ∙ test_word 64 (λ i. test_bit w i && not (eqb i (count_trailing_zeros 64 w))) k l

-- 0 has no bit
pub test_none : (k : ℕ) → test_bit 0 k ≡ false
test_none k = rw (zero-div (2 ^ k))

-- some number of two parts
pub any_append : (a b : ℕ) (f : ℕ → Bool) → any (a + b) f ≡ (any a f || any b (λ k. f (a + k)))
unfolding any
any_append a zero f = rw (add-zero a) (sym (or-false (any a f)))
any_append a (suc b) f = rw (add-suc a b, any_append a b f) (flip (f (a + b)) (any a f) (any b (λ k. f (a + k))))
  where
    flip : (x y z : Bool) → (x || (y || z)) ≡ (y || (x || z))
    flip true true z = refl
    flip true false z = refl
    flip false y z = refl
