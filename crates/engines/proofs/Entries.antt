-- What the table of an entry comes to as bytes.
use Prim.Native.Nat.{ℕ, ◌≤◌}
use native.Mathlib.Omega.{arith}
use mathlib.Core.Path.{◌≡◌, ◌∙◌}
use mathlib.Core.Bool.{Bool}
use mathlib.Core.List.{List}
use borrow.Author.Tests.{lt-ltb}
use Rattle.model.specs.Sets.{tab, memb, upto, turn, image}
use Rattle.model.specs.Tree.{size_of}
use Rattle.model.specs.Results.{related}
use Rattle.sets.proofs.Images.{upto_cong, image_turned}
use Rattle.bits.specs.Words.{has_bit}
use Rattle.bits.specs.BitTables.{bit_relation}
use Rattle.bits.specs.Rows.{Becomes}
use Rattle.tables.proofs.Rows.{row_bit_lem}
use Rattle.eval.specs.Evaluation.{passed, reached}
use Rattle.relations.specs.Evaluation.{table_at, passed_bits}

module _ (t q nodes : List ℕ) (e : ℕ) (le : size_of t ≤ 256) (r : List ℕ) where
  pub did_image : (back : Bool) (from w o : List ℕ) → r ≡ tab 256 (image (size_of t) (turn back (bit_relation o)) (memb from)) → Becomes (size_of t) (table_at t q nodes e) w o → r ≡ reached t q nodes e back from
  unfolding reached related table_at
  did_image back from w o p b = p ∙ image_turned (size_of t) le back (bit_relation o) _ (memb from) (λ x y lx ly. b.bits x y lx (omega arith) ∙ rw (lt-ltb y (size_of t) ly))

  pub did_node : (s : List ℕ) → r ≡ tab 256 (upto (size_of t) (has_bit s)) → s ≡ passed_bits t q nodes e → r ≡ passed t q nodes e
  unfolding passed passed_bits upto
  did_node s p b = p ∙ upto_cong (size_of t) le (has_bit s) _ (λ x l. row_bit_lem s _ b x (omega arith) ∙ rw (lt-ltb x (size_of t) l))
