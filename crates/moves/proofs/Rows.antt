-- Laws of rows that are written.
use Prim.Native.Nat.{ℕ, ◌%◌, ◌/◌}
use native.Mathlib.Omega.{arith}
use mathlib.Core.Path.{◌≡◌, sym, ap, ◌∙◌}
use mathlib.Core.Bool.{Bool, true, false, ◌||◌}
use mathlib.Core.List.{List}
use lib.ListN.{replicate, get_or-replicate}
use Rattle.sets.specs.NodeSets.{always}
use Rattle.bits.specs.Words.{test_bit, words, has_bit}
use Rattle.bits.specs.BitTables.{bit_relation}
use Rattle.bits.specs.Rows.{RowBecomes, kept_row}
use Rattle.bits.proofs.Words.{test_none}
use Rattle.tables.specs.Tables.{joined_row}
use Rattle.tables.proofs.Rows.{row_bit_lem}
use Rattle.moves.specs.Rows.{joined_rows}

module _ (w o : List ℕ) (x : ℕ) where
  pub row_copy : (y : ℕ) (r : List ℕ) → RowBecomes x (has_bit r) w o → r ≡ words 4 (bit_relation w y) → RowBecomes x (bit_relation w y) w o
  row_copy y r p e = record {
    size = p.size;
    bits = λ k l. p.bits k l ∙ row_bit_lem r (bit_relation w y) e k l;
    before = p.before;
    behind = p.behind;
  }

  pub row_join : (y : ℕ) (s r : List ℕ) → RowBecomes x (has_bit r) w o → r ≡ words 4 (joined_row s w y) → s ≡ words 4 (bit_relation w x) → RowBecomes x (joined_rows (bit_relation w) x y) w o
  row_join y s r p q e = record {
    size = p.size;
    bits = λ k l. p.bits k l ∙ row_bit_lem r (joined_row s w y) q k l ∙ ap (λ (b : Bool). b || bit_relation w y k) (row_bit_lem s (bit_relation w x) e k l);
    before = p.before;
    behind = p.behind;
  }

  pub row_clear : RowBecomes x (has_bit (replicate 4 0)) w o → RowBecomes x (always false) w o
  unfolding has_bit
  row_clear p = record {
    size = p.size;
    bits = λ k l. p.bits k l ∙ ap (λ (v : ℕ). test_bit v (k % 64)) (get_or-replicate 4 (k / 64) 0 0 (omega arith)) ∙ test_none (k % 64);
    before = p.before;
    behind = p.behind;
  }

-- a row that is kept where a flag is set

module _ (x y : ℕ) (w o : List ℕ) (b : Bool) where
  pub row_kept : RowBecomes x (bit_relation w y) w o → b ≡ true → RowBecomes x (kept_row b (bit_relation w) y) w o
  row_kept r e = record { size = r.size; bits = λ k l. r.bits k l ∙ sym (rw e); before = r.before; behind = r.behind }

  pub row_none : RowBecomes x (always false) w o → b ≡ false → RowBecomes x (kept_row b (bit_relation w) y) w o
  row_none r e = record { size = r.size; bits = λ k l. r.bits k l ∙ sym (rw e); before = r.before; behind = r.behind }
