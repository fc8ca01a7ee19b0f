-- Laws of the closure of a table where it stands: the rows that are joined, and what stands in the table after each turn.
use Prim.Native.Nat.{ℕ, zero, suc, ◌+◌, ◌*◌, ◌/◌, ◌%◌, ◌≤◌, ◌<◌}
use native.Mathlib.Numerals.{add-one}
use native.Mathlib.Omega.{arith}
use mathlib.Core.Path.{◌≡◌, refl, sym, ap, ap₂, ◌∙◌}
use mathlib.Core.Logic.{⊎_elim}
use mathlib.Core.Bool.{Bool, true, false, not, ◌&&◌, ◌||◌, or-false}
use mathlib.Core.List.{List}
use lib.ListN.{get_or}
use lib.Dec.{eqb}
use borrow.Author.Tests.{not-true, not-false}
use Rattle.model.specs.Sets.{via, closed}
use Rattle.model.proofs.Booleans.{lt_or_le}
use Rattle.model.proofs.Axes.{eqb_comm}
use Rattle.sets.specs.NodeSets.{only}
use Rattle.bits.specs.Words.{test_bit, words, has_bit}
use Rattle.bits.specs.BitTables.{bit_relation}
use Rattle.bits.specs.Rows.{Becomes, RowBecomes}
use Rattle.bits.proofs.Rows.{bit_at}
use Rattle.tables.specs.Tables.{joined_row, reflexive, through}
use Rattle.tables.proofs.Rows.{row_bit_lem}
use Rattle.tables.proofs.Tables.{rows_more, row_kept}

-- the diagonal, row by row

pub diagonal_joined : (x : ℕ) (w l o s r : List ℕ) → Becomes x (reflexive (bit_relation w)) w l → RowBecomes x (has_bit r) l o → r ≡ words 4 (joined_row s l x) → s ≡ words 4 (only x)
    → Becomes (x + 1) (reflexive (bit_relation w)) w o
diagonal_joined x w l o s r b p q e = rows_more (reflexive (bit_relation w)) (has_bit r) x w l o b p (λ y h.
    row_bit_lem r (joined_row s l x) q y h
    ∙ ap₂ (λ (c d : Bool). c || d) (row_bit_lem s (only x) e y h ∙ eqb_comm y x) (row_kept (reflexive (bit_relation w)) x w l b x y (omega arith) h))

-- one row, which has the pair with z or has not

module _ (there : Bool) (x z : ℕ) (w : List ℕ) (t : there ≡ test_bit (get_or w (4 * x + z / 64) 0) (z % 64)) where
  pub row_apart : not there ≡ true → RowBecomes x (through z (bit_relation w) x) w w
  row_apart h = record {
    size = refl;
    bits = λ y l. sym (ap (λ (c : Bool). bit_relation w x y || (c && bit_relation w z y)) (bit_at w x z ∙ sym t ∙ not-true there h) ∙ or-false (bit_relation w x y));
    before = λ i l. refl;
    behind = λ i l. refl;
  }

  pub row_joined : (o s r : List ℕ) → RowBecomes x (has_bit r) w o → r ≡ words 4 (joined_row s w z) → s ≡ words 4 (bit_relation w x) → not there ≡ false → RowBecomes x (through z (bit_relation w) x) w o
  row_joined o s r p q e h = record {
    size = p.size;
    bits = λ y l.
        p.bits y l ∙ row_bit_lem r (joined_row s w z) q y l
        ∙ ap₂ (λ (c d : Bool). c || d) (row_bit_lem s (bit_relation w x) e y l) (sym (ap (λ (c : Bool). c && bit_relation w z y) (bit_at w x z ∙ sym t ∙ not-false there h)));
    before = p.before;
    behind = p.behind;
  }

-- every row

absorbed : (a b : Bool) → (a || (b && a)) ≡ a
absorbed true b = refl
absorbed false true = refl
absorbed false false = refl

module _ (z x : ℕ) (w l : List ℕ) (b : Becomes x (through z (bit_relation w)) w l) where
  -- row z stays, whether its turn has come or not
  meeting : (y : ℕ) → y < 256 → bit_relation l z y ≡ bit_relation w z y
  meeting y h =
      ⊎_elim (λ g. b.bits z y g h ∙ absorbed (bit_relation w z y) (bit_relation w z z)) (λ g. row_kept (through z (bit_relation w)) x w l b z y g h) (lt_or_le z x)

  pub rows_joined : (o : List ℕ) → RowBecomes x (through z (bit_relation l) x) l o → z < 256 → Becomes (x + 1) (through z (bit_relation w)) w o
  rows_joined o r k = rows_more (through z (bit_relation w)) (through z (bit_relation l) x) x w l o b r (λ y h.
      ap₂ (λ (c d : Bool). c || d) (kept y h) (ap₂ (λ (c d : Bool). c && d) (kept z k) (meeting y h)))
    where
      kept : (y : ℕ) → y < 256 → bit_relation l x y ≡ bit_relation w x y
      kept y h = row_kept (through z (bit_relation w)) x w l b x y (omega arith) h

-- turn by turn, from a table with the diagonal

twice : (a b : Bool) → (a || (a || b)) ≡ (a || b)
twice true b = refl
twice false b = refl

pub close_more : (n z : ℕ) (a l o : List ℕ) → Becomes n (via (bit_relation a) z) a l → Becomes n (through z (bit_relation l)) l o → z < n → n ≤ 256 → Becomes n (via (bit_relation a) (z + 1)) a o
unfolding via
close_more n z a l o b c k m = record {
  size = c.size ∙ b.size;
  bits = λ x y g h.
      c.bits x y g h
      ∙ ap₂ (λ (p q : Bool). p || q) (b.bits x y g h) (ap₂ (λ (p q : Bool). p && q) (b.bits x z g (omega arith)) (b.bits z y k h))
      ∙ sym (ap (λ (i : ℕ). via (bit_relation a) i x y) (add-one z));
  rest = λ i g. c.rest i g ∙ b.rest i g;
}

module _ (n : ℕ) (w a : List ℕ) (d : Becomes n (reflexive (bit_relation w)) w a) where
  pub close_start : Becomes n (via (bit_relation a) 0) a a
  unfolding via
  close_start = record {
    size = refl;
    bits = λ x y l h. d.bits x y l h ∙ sym (ap (λ (c : Bool). eqb x y || c) (d.bits x y l h) ∙ twice (eqb x y) (bit_relation w x y));
    rest = λ i g. refl;
  }

  -- the diagonal that was added is in the closure
  added : n ≤ 256 → (k : ℕ) → k ≤ n → (x y : ℕ) → x < n → y < 256 → via (bit_relation a) k x y ≡ via (bit_relation w) k x y
  unfolding via
  added m zero j x y g h = ap (λ (c : Bool). eqb x y || c) (d.bits x y g h) ∙ twice (eqb x y) (bit_relation w x y)
  added m (suc k) j x y g h =
      ap₂ (λ (p q : Bool). p || q) (added m k (omega arith) x y g h)
      (ap₂ (λ (p q : Bool). p && q) (added m k (omega arith) x k g (omega arith)) (added m k (omega arith) k y (omega arith) h))

  pub close_end : (z : ℕ) (o : List ℕ) → Becomes n (via (bit_relation a) z) a o → z ≤ n → n ≤ z → n ≤ 256 → Becomes n (closed n (bit_relation w)) w o
  close_end z o b j k m = record {
    size = b.size ∙ d.size;
    bits = λ x y g h. b.bits x y g h ∙ ap (λ (i : ℕ). via (bit_relation a) i x y) (let e : z ≡ n = omega arith in e) ∙ added m n (omega arith) x y g h;
    rest = λ i g. b.rest i g ∙ d.rest i g;
  }
