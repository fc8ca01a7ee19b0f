-- Laws of tables whose columns are moved: from the bits of the rows to the columns and back, and moves one after the other.
use Prim.Native.Nat.{ℕ, ◌≤◌, ◌<◌}
use mathlib.Core.Path.{◌≡◌, sym, ap, ◌∙◌}
use mathlib.Core.Bool.{Bool, true, ◌&&◌, and_comm}
use mathlib.Core.List.{List}
use Rattle.model.specs.Sets.{any, tab, memb, upto, turn, image}
use Rattle.model.proofs.Exists.{any_cong}
use Rattle.sets.proofs.Images.{memb_upto, upto_cong, image_cong, image_compose}
use Rattle.steps.proofs.Loops.{reach}
use Rattle.bits.specs.BitTables.{bit_relation}
use Rattle.bits.specs.Rows.{Becomes, composed}
use Rattle.moves.specs.Columns.{column, Moved}

module _ (n : ℕ) (le : n ≤ 256) where
  -- a byte of a column is a bit of a row
  column_at : (w : List ℕ) (x y : ℕ) → x < n → memb (column n w y) x ≡ bit_relation w x y
  unfolding column
  column_at w x y l = memb_upto n le (λ x. bit_relation w x y) x l

  -- a column is the set that its bytes hold
  pub column_whole : (w : List ℕ) (y : ℕ) → tab 256 (upto n (memb (column n w y))) ≡ column n w y
  unfolding column
  column_whole w y = upto_cong n le (memb (column n w y)) (λ x. bit_relation w x y) (λ x l. column_at w x y l)

  -- what a column reaches
  reach_at_lem : (M : ℕ → ℕ → Bool) (w : List ℕ) (x y : ℕ) → any n (λ z. memb (column n w y) z && M z x) ≡ reach n M (λ z. bit_relation w z y) x
  unfolding reach
  reach_at_lem M w x y = any_cong n _ _ (λ z l. ap (λ (b : Bool). b && M z x) (column_at w z y l))

  -- rows in which each bit is what its column reaches
  pub moved_of : (M R : ℕ → ℕ → Bool) (w o : List ℕ) → Becomes n R w o → ((x y : ℕ) → x < n → y < 256 → R x y ≡ reach n M (λ z. bit_relation w z y) x) → Moved n M w o
  unfolding column image
  moved_of M R w o b f = record {
    size = b.size;
    columns = λ y l. upto_cong n le (λ x. bit_relation o x y) (λ x. any n (λ z. memb (column n w y) z && M z x)) (λ x k. b.bits x y k l ∙ f x y k l ∙ sym (reach_at_lem M w x y));
    rest = b.rest;
  }

  -- the bits of moved columns
  moved_at : (M : ℕ → ℕ → Bool) (w o : List ℕ) → Moved n M w o → (x y : ℕ) → x < n → y < 256 → bit_relation o x y ≡ reach n M (λ z. bit_relation w z y) x
  unfolding image
  moved_at M w o m x y l k =
      sym (column_at o x y l) ∙ ap (λ (s : List ℕ). memb s x) (m.columns y k)
      ∙ memb_upto n le (λ x. any n (λ z. memb (column n w y) z && M z x)) x l ∙ reach_at_lem M w x y

  -- columns moved along the converse of a relation: the relation composed with the table
  pub composed_of : (A : ℕ → ℕ → Bool) (w o : List ℕ) → Moved n (turn true A) w o → Becomes n (composed n A (bit_relation w)) w o
  unfolding composed reach
  composed_of A w o m = record {
    size = m.size;
    bits = λ x y l k. moved_at (turn true A) w o m x y l k ∙ any_cong n _ _ (λ z h. and_comm (bit_relation w z y) (A x z));
    rest = m.rest;
  }

  -- one move after another
  pub moved_then : (A B C : ℕ → ℕ → Bool) (w l o : List ℕ) → Moved n A w l → Moved n B l o → ((x y : ℕ) → x < n → y < n → any n (λ z. A x z && B z y) ≡ C x y) → Moved n C w o
  moved_then A B C w l o p q f = record {
    size = q.size ∙ p.size;
    columns = λ y h.
        q.columns y h ∙ ap (λ (s : List ℕ). tab 256 (image n B (memb s))) (p.columns y h)
        ∙ image_compose n le A B (memb (column n w y)) ∙ image_cong n le (λ x y. any n (λ z. A x z && B z y)) C (memb (column n w y)) f;
    rest = λ i h. q.rest i h ∙ p.rest i h;
  }

-- what holds of the image of every set holds of every column
pub moved_as : (n : ℕ) (A B : ℕ → ℕ → Bool) (w o : List ℕ) → Moved n A w o → ((S : ℕ → Bool) (r : List ℕ) → r ≡ tab 256 (image n A S) → r ≡ tab 256 (image n B S)) → Moved n B w o
moved_as n A B w o m f = record { size = m.size; columns = λ y l. f (memb (column n w y)) (column n o y) (m.columns y l); rest = m.rest }
