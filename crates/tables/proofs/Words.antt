-- What the functions on single words give, by the laws of words: two words combined, one bit, the lowest bits.
use Prim.Native.Nat.{ℕ, ◌+◌, ◌-◌, ◌*◌, ◌%◌, ◌^◌, ◌≤◌, ◌<◌}
use native.Mathlib.Omega.{arith}
use mathlib.Core.Path.{◌≡◌, refl, sym, ap, ap₂, ◌∙◌}
use mathlib.Core.Logic.{⊎_elim}
use mathlib.Core.Bool.{Bool, true, false, not, and-true}
use lib.Dec.{ltb}
use lib.Pow.{shl_exact}
use lib.Bits.{bit_and, bit_or}
use borrow.Author.Tests.{lt-ltb, le-ltb}
use Rattle.model.specs.Sets.{bit, upto}
use Rattle.model.proofs.Booleans.{lt_or_le}
use Rattle.sets.specs.NodeSets.{combine}
use Rattle.bits.specs.Words.{test_bit, word}
use Rattle.bits.proofs.Words.{bit_lt, word_cong, word_or, word_and, word_not, word_none, word_one, word_bits, word_below}
use Rattle.tables.specs.Tables.{merged_bits, only_if, full_from}

-- two words combined

module _ (a b : ℕ) (fa : a < 2 ^ 64) (fb : b < 2 ^ 64) where
  pub merge_or : bit_or a b ≡ word 64 (merged_bits 0 a b)
  unfolding combine
  merge_or = ap₂ bit_or (sym (word_bits 64 a fa)) (sym (word_bits 64 b fb)) ∙ word_or 64 (test_bit a) (test_bit b)

  pub merge_and : bit_and a b ≡ word 64 (merged_bits 1 a b)
  unfolding combine
  merge_and = ap₂ bit_and (sym (word_bits 64 a fa)) (sym (word_bits 64 b fb)) ∙ word_and 64 (test_bit a) (test_bit b)

  pub merge_not : bit_and a (18446744073709551615 - b) ≡ word 64 (merged_bits 2 a b)
  unfolding combine
  merge_not =
      ap₂ bit_and (sym (word_bits 64 a fa)) (ap (λ (x : ℕ). 18446744073709551615 - x) (sym (word_bits 64 b fb)) ∙ word_not 64 (test_bit b))
      ∙ word_and 64 (test_bit a) (λ k. not (test_bit b k))

-- one bit, and the lowest bits

pub only_word : (b : Bool) (k : ℕ) → k < 64 → (bit b * 2 ^ k) % 2 ^ 64 ≡ word 64 (only_if b k)
only_word b k l = shl_exact {a = bit b} 1 k 64 (bit_lt b) (omega arith) ∙ go b
  where
    go : (b : Bool) → bit b * 2 ^ k ≡ word 64 (only_if b k)
    go true = (let e : 1 * 2 ^ k ≡ 2 ^ k = omega arith in e) ∙ sym (word_one 64 k l)
    go false = (let e : 0 * 2 ^ k ≡ 0 = omega arith in e) ∙ sym (word_none 64 (only_if false k) (λ i h. refl))

module _ (n base : ℕ) where
  full_word : (m : ℕ) → m ≤ 64 → ((i : ℕ) → i < 64 → ltb (base + i) n ≡ ltb i m) → 2 ^ m - 1 ≡ word 64 (full_from n base)
  unfolding upto
  full_word m h e = sym (word_cong 64 (full_from n base) (λ i. ltb i m) (λ i l. and-true (ltb (base + i) n) ∙ e i l) ∙ word_below 64 m h)

  -- with how many of them are below n, at most 64
  module _ (m : ℕ) (d : m ≡ n - base) where
    alike : (i : ℕ) → i < 64 → ltb (base + i) n ≡ ltb i m
    alike i l = ⊎_elim (λ k. lt-ltb (base + i) n (omega arith) ∙ sym (lt-ltb i m k)) (λ k. le-ltb (base + i) n (omega arith) ∙ sym (le-ltb i m k)) (lt_or_le i m)

    pub full_all : 64 ≤ m → 18446744073709551615 ≡ word 64 (full_from n base)
    full_all h = full_word 64 (omega arith) (λ i l. alike i l ∙ lt-ltb i m (omega arith) ∙ sym (lt-ltb i 64 l))

    pub full_some : m < 64 → (1 * 2 ^ m) % 2 ^ 64 - 1 ≡ word 64 (full_from n base)
    full_some h =
        ap (λ (v : ℕ). v - 1) (shl_exact {a = 1} 1 m 64 (omega arith) (omega arith) ∙ (let e : 1 * 2 ^ m ≡ 2 ^ m = omega arith in e))
        ∙ full_word m (omega arith) alike
