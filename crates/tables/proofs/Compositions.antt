-- Laws of compositions: a row is joined with the rows that another one names, word by word and from set bit to set bit.
use Prim.Native.Nat.{ℕ, ◌+◌, ◌-◌, ◌*◌, ◌^◌, ◌≤◌, ◌<◌}
use native.Mathlib.Omega.{arith}
use mathlib.Core.Path.{◌≡◌, refl, sym, ap, ap₂, ◌∙◌}
use mathlib.Core.Logic.{⊎_elim}
use mathlib.Core.Bool.{Bool, true, false, not, ◌&&◌, ◌||◌, and-false, or-false, or_assoc}
use mathlib.Core.List.{List}
use lib.ListN.{get_or, replicate}
use lib.Dec.{eqb, ltb}
use lib.Bits.{bit_and, and_lt, and_le_r}
use lib.Count.{count_trailing_zeros}
use borrow.Author.Tests.{eqb-true, lt-ltb, le-ltb, ltb-true}
use Rattle.model.specs.Sets.{any}
use Rattle.model.proofs.Booleans.{bool_ext, both_yes, yes_left, yes_right, lt_or_le}
use Rattle.model.proofs.Exists.{any_intro, any_elim, any_cong, any_never, any_or, any_one}
use Rattle.bits.specs.Words.{test_bit, words, has_bit}
use Rattle.bits.specs.BitTables.{bit_relation}
use Rattle.bits.specs.Rows.{composed}
use Rattle.bits.proofs.Words.{words_cong, lowest_of, test_without, test_none, any_append}
use Rattle.tables.specs.Tables.{joined_row, by_word, joined_word}
use Rattle.tables.proofs.Rows.{row_bit_lem, row_is, bit_in, empty_set}

-- what is reached from the nodes that a word names

module _ (n : ℕ) (K : ℕ → ℕ → Bool) (base : ℕ) where
  pub by_none : (y : ℕ) → by_word n K base 0 y ≡ false
  unfolding by_word
  by_none y = any_never 64 _ (λ k l. rw (test_none k))

  module _ (w : ℕ) (fits : w < 2 ^ 64) (some : w ≡ 0 → ⊥) where
    -- all its nodes are beyond n
    by_past : (y : ℕ) → n ≤ base + count_trailing_zeros 64 w → by_word n K base w y ≡ false
    unfolding by_word
    by_past y h = any_never 64 _ (λ k l. ⊎_elim
        (λ (g : k < count_trailing_zeros 64 w). rw ((lowest_of w fits some).first k g))
        (λ (g : count_trailing_zeros 64 w ≤ k). rw (le-ltb (base + k) n (omega arith), and-false (test_bit w k)))
        (lt_or_le k (count_trailing_zeros 64 w)))

    -- its lowest node, and the others
    by_next : (y : ℕ) → base + count_trailing_zeros 64 w < n → by_word n K base w y ≡ (K (base + count_trailing_zeros 64 w) y || by_word n K base (bit_and w (w - 1)) y)
    unfolding by_word
    by_next y h =
        any_cong 64 _ _ at
        ∙ sym (any_or 64 (λ k. eqb k (count_trailing_zeros 64 w) && K (base + k) y) (λ k. (test_bit (bit_and w (w - 1)) k && ltb (base + k) n) && K (base + k) y))
        ∙ ap (λ (b : Bool). b || any 64 (λ k. (test_bit (bit_and w (w - 1)) k && ltb (base + k) n) && K (base + k) y))
        (any_one 64 (count_trailing_zeros 64 w) (λ k. K (base + k) y) (lowest_of w fits some).below)
      where
        split : (a e l c : Bool) → (e ≡ true → (a ≡ true) × (l ≡ true)) → ((a && l) && c) ≡ ((e && c) || (((a && not e) && l) && c))
        split a true l c p = let (q, r) = p refl in rw (q, r) (sym (or-false c))
        split true false l c p = refl
        split false false l c p = refl

        at : (k : ℕ) → k < 64 → ((test_bit w k && ltb (base + k) n) && K (base + k) y) ≡ ((eqb k (count_trailing_zeros 64 w) && K (base + k) y) || ((test_bit (bit_and w (w - 1)) k && ltb (base + k) n) && K (base + k) y))
        at k l =
            split (test_bit w k) (eqb k (count_trailing_zeros 64 w)) (ltb (base + k) n) (K (base + k) y) (λ p.
            let e : k ≡ count_trailing_zeros 64 w = eqb-true k (count_trailing_zeros 64 w) p in
            (ap (test_bit w) e ∙ (lowest_of w fits some).holds, lt-ltb (base + k) n (omega arith)))
            ∙ ap (λ (b : Bool). (eqb k (count_trailing_zeros 64 w) && K (base + k) y) || ((b && ltb (base + k) n) && K (base + k) y)) (sym (test_without w fits some k l))

-- one word of a row: what is joined already, and what the rest of the word still names
pub record Pending (n : ℕ) (kept : List ℕ) (base : ℕ) (row : List ℕ) (w : ℕ) (r : List ℕ) (rest : ℕ) : Type 0 where
  pub fits : rest < 2 ^ 64
  pub form : r ≡ words 4 (has_bit r)
  pub bits : (y : ℕ) → y < 256 → joined_word n (bit_relation kept) base rest r y ≡ joined_word n (bit_relation kept) base w row y

pub pending_start : (n : ℕ) (kept : List ℕ) (base : ℕ) (row : List ℕ) (w : ℕ) → row ≡ words 4 (has_bit row) → w < 2 ^ 64 → Pending n kept base row w row w
pending_start n kept base row w p f = record { fits = f; form = p; bits = λ y l. refl }

module _ (n : ℕ) (kept : List ℕ) (base : ℕ) (row : List ℕ) (w : ℕ) (r : List ℕ) (rest : ℕ) (p : Pending n kept base row w r rest) where
  whole : ((y : ℕ) → by_word n (bit_relation kept) base rest y ≡ false) → r ≡ words 4 (joined_word n (bit_relation kept) base w row)
  whole h = p.form ∙ words_cong 4 _ _ (λ y l. sym (or-false (has_bit r y)) ∙ ap (λ (b : Bool). has_bit r y || b) (sym (h y)) ∙ p.bits y (omega arith))

  pub pending_done : rest ≡ 0 → r ≡ words 4 (joined_word n (bit_relation kept) base w row)
  pending_done e = whole (λ y. ap (λ (v : ℕ). by_word n (bit_relation kept) base v y) e ∙ by_none n (bit_relation kept) base y)

  pub pending_less : (rest ≡ 0 → ⊥) → bit_and rest (rest - 1) < rest
  pending_less some = omega (arith, and_le_r rest (rest - 1))

  module _ (some : rest ≡ 0 → ⊥) (z : ℕ) (e : z ≡ count_trailing_zeros 64 rest) where
    pub pending_past : n ≤ base + z → r ≡ words 4 (joined_word n (bit_relation kept) base w row)
    pending_past h = whole (λ y. by_past n (bit_relation kept) base rest p.fits some y (omega arith))

    pub pending_next : (o : List ℕ) → o ≡ words 4 (joined_row r kept (base + z)) → base + z < n → Pending n kept base row w o (bit_and rest (rest - 1))
    pending_next o q h = record {
      fits = and_lt 64 rest (rest - 1) p.fits (omega (arith, p.fits));
      form = row_is o _ q;
      bits = λ y l.
          ap (λ (b : Bool). b || by_word n (bit_relation kept) base (bit_and rest (rest - 1)) y) (row_bit_lem o _ q y l)
          ∙ or_assoc (has_bit r y) (bit_relation kept (base + z) y) (by_word n (bit_relation kept) base (bit_and rest (rest - 1)) y)
          ∙ ap (λ (b : Bool). has_bit r y || b) (ap (λ (k : ℕ). bit_relation kept (base + k) y || by_word n (bit_relation kept) base (bit_and rest (rest - 1)) y) e
          ∙ sym (by_next n (bit_relation kept) base rest p.fits some y (omega arith)))
          ∙ p.bits y l;
    }

-- a whole row

-- y is reached from x through a node below k
abbrev pub reached : ℕ → ℕ → List ℕ → List ℕ → ℕ → ℕ → Bool
reached k n acc kept x y = any k (λ z. (bit_relation acc x z && ltb z n) && bit_relation kept z y)

module _ (n : ℕ) (acc kept : List ℕ) (x : ℕ) where
  pub reached_start : replicate 4 0 ≡ words 4 (reached 0 n acc kept x)
  unfolding any
  reached_start = empty_set _ (λ y. refl)

  pub reached_next : (j : ℕ) (r o : List ℕ) → r ≡ words 4 (reached (64 * j) n acc kept x) → o ≡ words 4 (joined_word n (bit_relation kept) (64 * j) (get_or acc (4 * x + j) 0) r)
      → o ≡ words 4 (reached (64 * (j + 1)) n acc kept x)
  unfolding by_word
  reached_next j r o p q = q ∙ words_cong 4 _ _ (λ y l.
      ap₂ (λ (a b : Bool). a || b) (row_bit_lem r _ p y (omega arith))
      (any_cong 64 _ _ (λ k g. ap (λ (b : Bool). (b && ltb (64 * j + k) n) && bit_relation kept (64 * j + k) y) (bit_in acc x j k g)))
      ∙ sym (any_append (64 * j) 64 (λ z. (bit_relation acc x z && ltb z n) && bit_relation kept z y))
      ∙ ap (λ (k : ℕ). reached k n acc kept x y) (let e : 64 * j + 64 ≡ 64 * (j + 1) = omega arith in e))

  pub reached_end : (j : ℕ) (r : List ℕ) → r ≡ words 4 (reached (64 * j) n acc kept x) → j ≤ 4 → 4 ≤ j → n ≤ 256 → r ≡ words 4 (composed n (bit_relation acc) (bit_relation kept) x)
  unfolding composed
  reached_end j r p a b h = p ∙ words_cong 4 _ _ (λ y l. bool_ext _ _
      (λ q.
      let (z, m, s) = any_elim (64 * j) (λ z. (bit_relation acc x z && ltb z n) && bit_relation kept z y) q in
      let c = yes_left (bit_relation acc x z && ltb z n) (bit_relation kept z y) s in
      any_intro n (λ z. bit_relation acc x z && bit_relation kept z y) z (ltb-true z n (yes_right (bit_relation acc x z) (ltb z n) c))
      (both_yes (yes_left (bit_relation acc x z) (ltb z n) c) (yes_right (bit_relation acc x z && ltb z n) (bit_relation kept z y) s)))
      (λ q.
      let (z, m, s) = any_elim n (λ z. bit_relation acc x z && bit_relation kept z y) q in
      any_intro (64 * j) (λ z. (bit_relation acc x z && ltb z n) && bit_relation kept z y) z (omega arith)
      (both_yes (both_yes (yes_left (bit_relation acc x z) (bit_relation kept z y) s) (lt-ltb z n m)) (yes_right (bit_relation acc x z) (bit_relation kept z y) s))))
