-- Laws of the loops that write whole tables, word by word and row by row.
use Prim.Native.Nat.{ℕ, ◌+◌, ◌*◌, ◌/◌, ◌%◌, ◌≤◌, ◌<◌}
use native.Mathlib.Omega.{arith}
use mathlib.Core.Path.{◌≡◌, refl, sym, ap, ap₂, ◌∙◌, subst}
use mathlib.Core.Bool.{Bool, true, false, ◌&&◌}
use mathlib.Core.List.{List, ◌++◌}
use lib.ListN.{length, get_or, set, take, drop, length-set}
use lib.Seq.{get_or-set_same, get_or-set_other}
use lib.Dec.{eqb}
use borrow.Author.Rules.{rules}
use Rattle.std.proofs.lemmas.List.{places}
use Rattle.std.proofs.lemmas.Grind.{common_steps}
use borrow.Author.Tests.{eqb-true, eqb-false, eq-eqb, ne_eqb}
use Rattle.model.proofs.Booleans.{Seen, yes!, no!, seen}
use Rattle.model.proofs.Exists.{any_cong}
use Rattle.sets.specs.NodeSets.{only, combine}
use Rattle.bits.specs.Words.{test_bit, word, words, has_bit}
use Rattle.bits.specs.BitTables.{bit_relation}
use Rattle.bits.specs.Rows.{Becomes, RowBecomes, diagonal, ending_in, starting_in, from_node, composed, kept_row}
use Rattle.bits.proofs.Words.{test_word}
use Rattle.bits.proofs.Rows.{bit_at, row_same, row_other}
use Rattle.tables.specs.Tables.{joined, merged_bits, joined_bits}
use Rattle.tables.proofs.Rows.{row_bit_lem}

-- word by word

-- the words o are the words w but for the first i, of which each k is F k
pub record Front (F : ℕ → ℕ) (i : ℕ) (w o : List ℕ) : Type 0 where
  pub size : length o ≡ length w
  pub done : (k : ℕ) → k < i → get_or o k 0 ≡ F k
  pub rest : (k : ℕ) → i ≤ k → get_or o k 0 ≡ get_or w k 0

pub front_start : (F : ℕ → ℕ) (w : List ℕ) → Front F 0 w w
front_start F w = record { size = refl; done = λ k l. absurd (omega arith); rest = λ k l. refl }

pub front_more : (F : ℕ → ℕ) (i : ℕ) (w o : List ℕ) (v : ℕ) → Front F i w o → v ≡ F i → i < length w → Front F (i + 1) w (set o i v)
front_more F i w o v f e h = record {
  size = length-set o i v ∙ f.size;
  done = λ k l. at k l (native.Mathlib.Decide.ℕ_discrete k i);
  rest = λ k l. get_or-set_other o i k v 0 (λ d. omega arith) ∙ f.rest k (omega arith);
}
  where
    at : (k : ℕ) → k < i + 1 → Dec (k ≡ i) → get_or (set o i v) k 0 ≡ F k
    at k l (yes p) = ap (λ (j : ℕ). get_or (set o i v) j 0) p ∙ get_or-set_same o i v 0 (omega (arith, f.size)) ∙ e ∙ ap F (sym p)
    at k l (no p) = get_or-set_other o i k v 0 p ∙ f.done k (omega arith)

-- a table is read off its words bit by bit
front_end : (F : ℕ → ℕ) (i n : ℕ) (R : ℕ → ℕ → Bool) (w o : List ℕ) → Front F i w o → i ≤ 4 * n → 4 * n ≤ i
    → ((x y : ℕ) → x < n → y < 256 → test_bit (F (4 * x + y / 64)) (y % 64) ≡ R x y) → Becomes n R w o
front_end F i n R w o f a b h = record {
  size = f.size;
  bits = λ x y l m. bit_at o x y ∙ ap (λ (v : ℕ). test_bit v (y % 64)) (f.done (4 * x + y / 64) (omega arith)) ∙ h x y l m;
  rest = λ k l. f.rest k (omega arith);
}

-- a copy, and the words of two tables combined and of the pairs that end in a set

unfoldable pub combined_word : ℕ → Bool → List ℕ → List ℕ → ℕ → ℕ
combined_word op turned kept w k = word 64 (joined_bits op turned (get_or kept k 0) (get_or w k 0))

unfoldable pub filtered_word : List ℕ → List ℕ → ℕ → ℕ
filtered_word s w k = word 64 (merged_bits 1 (get_or w k 0) (get_or s (k % 4) 0))

pub copy_of : (from w p : List ℕ) (n : ℕ) → 4 * n ≤ length w → 4 * n ≤ length from → p ≡ take (4 * n) from → Becomes n (bit_relation from) w (p ++ drop (4 * n) w)
copy_of from w p n a b e = rw e (record {
  size = grind (arith, common_steps);
  bits = λ x y l m. bit_at (take (4 * n) from ++ drop (4 * n) w) x y ∙ ap (λ (v : ℕ). test_bit v (y % 64)) (front (4 * x + y / 64) (omega arith)) ∙ sym (bit_at from x y);
  rest = λ i l. search (rules, places);
})
  where
    front : (i : ℕ) → i < 4 * n → get_or (take (4 * n) from ++ drop (4 * n) w) i 0 ≡ get_or from i 0
    front i l = search (rules, places)

module _ (op : ℕ) (turned : Bool) (kept : List ℕ) (i : ℕ) (w o : List ℕ) (f : Front (combined_word op turned kept w) i w o) where
  pub combine_more : (v : ℕ) → v ≡ word 64 (joined_bits op turned (get_or kept i 0) (get_or o i 0)) → i < length w → Front (combined_word op turned kept w) (i + 1) w (set o i v)
  unfolding combined_word
  combine_more v e h = front_more (combined_word op turned kept w) i w o v f
      (e ∙ ap (λ (a : ℕ). word 64 (joined_bits op turned (get_or kept i 0) a)) (f.rest i (omega arith))) h

  pub combine_end : (n : ℕ) → i ≤ 4 * n → 4 * n ≤ i → Becomes n (joined op turned (bit_relation kept) (bit_relation w)) w o
  unfolding combined_word
  combine_end n a b = front_end (combined_word op turned kept w) i n (joined op turned (bit_relation kept) (bit_relation w)) w o f a b
      (λ x y l m. test_word 64 (joined_bits op turned (get_or kept (4 * x + y / 64) 0) (get_or w (4 * x + y / 64) 0)) (y % 64) (omega arith) ∙ at turned x y)
    where
      at : (t : Bool) (x y : ℕ) → joined_bits op t (get_or kept (4 * x + y / 64) 0) (get_or w (4 * x + y / 64) 0) (y % 64) ≡ joined op t (bit_relation kept) (bit_relation w) x y
      at true x y = ap₂ (combine op) (sym (bit_at w x y)) (sym (bit_at kept x y))
      at false x y = ap₂ (combine op) (sym (bit_at kept x y)) (sym (bit_at w x y))

module _ (s : List ℕ) (i : ℕ) (w o : List ℕ) (f : Front (filtered_word s w) i w o) where
  pub filter_more : (v : ℕ) → v ≡ word 64 (merged_bits 1 (get_or o i 0) (get_or s (i % 4) 0)) → i < length w → Front (filtered_word s w) (i + 1) w (set o i v)
  unfolding filtered_word
  filter_more v e h = front_more (filtered_word s w) i w o v f (e ∙ ap (λ (a : ℕ). word 64 (merged_bits 1 a (get_or s (i % 4) 0))) (f.rest i (omega arith))) h

  pub filter_end : (n : ℕ) → i ≤ 4 * n → 4 * n ≤ i → Becomes n (ending_in (has_bit s) (bit_relation w)) w o
  unfolding filtered_word combine has_bit
  filter_end n a b = front_end (filtered_word s w) i n (ending_in (has_bit s) (bit_relation w)) w o f a b (λ x y l m.
      let e : (4 * x + y / 64) % 4 ≡ y / 64 = omega arith in
      test_word 64 (merged_bits 1 (get_or w (4 * x + y / 64) 0) (get_or s ((4 * x + y / 64) % 4) 0)) (y % 64) (omega arith)
      ∙ ap₂ (λ (c d : Bool). c && d) (sym (bit_at w x y)) (ap (λ (k : ℕ). test_bit (get_or s k 0) (y % 64)) e))

-- row by row

pub rows_start : (R : ℕ → ℕ → Bool) (w : List ℕ) → Becomes 0 R w w
rows_start R w = record { size = refl; bits = λ x y l m. absurd (omega arith); rest = λ k l. refl }

pub rows_more : (R : ℕ → ℕ → Bool) (S : ℕ → Bool) (x : ℕ) (w l o : List ℕ) → Becomes x R w l → RowBecomes x S l o → ((y : ℕ) → y < 256 → S y ≡ R x y) → Becomes (x + 1) R w o
rows_more R S x w l o b r h = record {
  size = r.size ∙ b.size;
  bits = λ z y a c. at z y a c (native.Mathlib.Decide.ℕ_discrete z x);
  rest = λ i a. r.behind i (omega arith) ∙ b.rest i (omega arith);
}
  where
    at : (z y : ℕ) → z < x + 1 → y < 256 → Dec (z ≡ x) → bit_relation o z y ≡ R z y
    at z y a c (yes p) = ap (λ (k : ℕ). bit_relation o k y) p ∙ r.bits y c ∙ h y c ∙ ap (λ (k : ℕ). R k y) (sym p)
    at z y a c (no p) = row_other z x S l o r p y c ∙ b.bits z y (omega arith) c

pub rows_end : (R : ℕ → ℕ → Bool) (x n : ℕ) (w o : List ℕ) → Becomes x R w o → x ≤ n → n ≤ x → Becomes n R w o
rows_end R x n w o b l h = subst (λ (k : ℕ). Becomes k R w o) (let e : x ≡ n = omega arith in e) b

-- a row that is not yet written
pub row_kept : (R : ℕ → ℕ → Bool) (x : ℕ) (w l : List ℕ) → Becomes x R w l → (z y : ℕ) → x ≤ z → y < 256 → bit_relation l z y ≡ bit_relation w z y
row_kept R x w l b z y g h = row_same w l z y h (b.rest (4 * z + y / 64) (omega arith))

pub diagonal_more : (x : ℕ) (w l o r : List ℕ) → Becomes x diagonal w l → RowBecomes x (has_bit r) l o → r ≡ words 4 (only x) → Becomes (x + 1) diagonal w o
diagonal_more x w l o r b p q = rows_more diagonal (has_bit r) x w l o b p (λ y h. row_bit_lem r (only x) q y h ∙ turned y (seen (eqb y x)))
  where
    turned : (y : ℕ) → Seen (eqb y x) → eqb y x ≡ eqb x y
    turned y (yes! e) = e ∙ sym (eq-eqb x y (sym (eqb-true y x e)))
    turned y (no! e) = e ∙ sym (ne_eqb x y (λ d. eqb-false y x e (sym d)))

pub spread_more : (z x : ℕ) (w l o r : List ℕ) → Becomes x (from_node z (bit_relation w)) w l → RowBecomes x (has_bit r) l o → r ≡ words 4 (bit_relation w z)
    → Becomes (x + 1) (from_node z (bit_relation w)) w o
spread_more z x w l o r b p q = rows_more (from_node z (bit_relation w)) (has_bit r) x w l o b p (λ y h. row_bit_lem r (bit_relation w z) q y h)

pub keep_more : (s : List ℕ) (c : Bool) (x : ℕ) (w l o : List ℕ) → Becomes x (starting_in (has_bit s) (bit_relation w)) w l → RowBecomes x (kept_row c (bit_relation l) x) l o
    → c ≡ test_bit (get_or s (x / 64) 0) (x % 64) → Becomes (x + 1) (starting_in (has_bit s) (bit_relation w)) w o
unfolding has_bit
keep_more s c x w l o b p q = rows_more (starting_in (has_bit s) (bit_relation w)) (kept_row c (bit_relation l) x) x w l o b p
    (λ y h. ap₂ (λ (d e : Bool). d && e) q (row_kept (starting_in (has_bit s) (bit_relation w)) x w l b x y (omega arith) h))

pub compose_more : (n : ℕ) (kept : List ℕ) (x : ℕ) (w l o r : List ℕ) → Becomes x (composed n (bit_relation w) (bit_relation kept)) w l → RowBecomes x (has_bit r) l o
    → r ≡ words 4 (composed n (bit_relation l) (bit_relation kept) x) → n ≤ 256 → Becomes (x + 1) (composed n (bit_relation w) (bit_relation kept)) w o
unfolding composed
compose_more n kept x w l o r b p q g = rows_more (composed n (bit_relation w) (bit_relation kept)) (has_bit r) x w l o b p (λ y h.
    row_bit_lem r (composed n (bit_relation l) (bit_relation kept) x) q y h
    ∙ any_cong n _ _ (λ z m. ap (λ (d : Bool). d && bit_relation kept z y) (row_kept (composed n (bit_relation w) (bit_relation kept)) x w l b x z (omega arith) (omega arith))))
