-- The loop that writes a page, with the evaluations that it makes: 6 × n for each row written, and as many for the flag.
use Prim.Native.Nat.{ℕ, suc, ◌+◌, ◌*◌, ◌/◌, ◌<◌, ◌≤◌}
use native.Mathlib.Nat.{mul-suc, mul-le-mul_left}
use native.Mathlib.Omega.{arith}
use mathlib.Core.Path.{◌≡◌}
use mathlib.Core.Bool.{true, false}
use mathlib.Core.List.{List}
use lib.ListN.{length, length-take}
use lib.Seq.{paste}
use Rattle.model.specs.declared.Cursor.{Cursor}
use Rattle.model.specs.Tree.{size_of}
use Rattle.model.specs.Answers.{answers}
use Rattle.model.specs.Pages.{after, at_row}
use Rattle.model.specs.Accepted.{Below}
use Rattle.model.proofs.Answers.{answers_wide, answers_member}
use Rattle.std.specs.Prelude.{Some, None}
use Rattle.answers.specs.Search.{Spot, row_at}
use Rattle.answers.proofs.Writing.{Going, going_start, going_in, going_turn, page_full, page_out}
use Rattle.quick.specs.declared.Found.{Found}
use Rattle.quick.specs.Effort.{effort}
use Rattle.quick.specs.Search.{Ready, Sought, SoughtAfter}
use Rattle.quick.specs.Service.{PageWritten}
use Rattle.quick.proofs.Opened.{few}
use Rattle.quick.proofs.Effort.{effort_more}
use Rattle.quick.proofs.Count.{answers_few}

-- so many rows stand in the buffer, which was first, and e evaluations found them and the next
pub record Written (t q : List ℕ) (k : ℕ) (c : Cursor) (first : List ℕ) (at : Spot) (e : ℕ) (last : Cursor) (count : ℕ) (rows : List ℕ) : Type 0 where
  pub going : Going k (answers t q k) c first at last count rows
  pub most : e ≤ 6 * size_of t * (count + 1)
  pub exact : e ≡ effort (size_of t) k c (after k (answers t q k) c) count

pub written_start : (t q : List ℕ) (k : ℕ) (c : Cursor) (first : List ℕ) (r : Found) → SoughtAfter t q k c r → Written t q k c first r.spot r.evaluations c 0 first
written_start t q k c first r w =
    record { going = going_start k (answers t q k) c first r.spot w.0 (answers_wide t q k); most = omega (arith, w.1.0); exact = w.1.1 }

module _ {t q : List ℕ} {k : ℕ} {c : Cursor} {first : List ℕ} {at : Spot} {e : ℕ} {last : Cursor} {count : ℕ} {rows : List ℕ} (g : Written t q k c first at e last count rows) where
  -- the row that was found is one of nodes
  pub written_below : (row : List ℕ) → at ≡ Some row → Below (size_of t) (row_at k row)
  written_below row there = ((answers_member t q k (row_at k row)).0 (going_in g.going row there)).1

  -- the number of evaluations fits: no more rows are written than there are
  pub written_fits : (prev : List ℕ) → Ready t prev q k → (f : ℕ) → f ≤ 6 * size_of t → e + f < 18446744073709551616
  written_fits prev ok f l =
      let small : size_of t ≤ 256 = ok.listed.searchable.linked.tree.sound.at_most in
      let rows : count ≤ 16777216 = omega (arith, g.going.long, length-take count (after k (answers t q k) c), answers_few t q k c small (few ok)) in
      let a : 6 * size_of t * (count + 1) ≤ 6 * size_of t * 16777217 = mul-le-mul_left (6 * size_of t) (let z : count + 1 ≤ 16777217 = omega arith in z) in
      omega (arith, g.most)

  -- one row more
  pub written_turn : (row : List ℕ) → at ≡ Some row → (count ≡ length first / k → ⊥) → (rows₁ : List ℕ) → rows₁ ≡ paste rows (count * k) row k
      → (last₁ : Cursor) → last₁ ≡ at_row last (row_at k row) → (r : Found) → Sought t q k row r
      → Written t q k c first r.spot (e + r.evaluations) last₁ (count + 1) rows₁
  written_turn row there ne rows₁ er last₁ el r w =
      record {
        going = going_turn g.going row there ne rows₁ er last₁ el r.spot w.0;
        most = let z : count + 1 + 1 ≡ suc (count + 1) = omega arith in rw (z, mul-suc (6 * size_of t) (count + 1)) (omega (arith, g.most, w.1.0));
        exact = effort_more (size_of t) k c (answers t q k) at row count e r.evaluations g.exact w.1.1 g.going.left there;
      }

  -- the buffer is full, and a row is left
  pub written_full : (row : List ℕ) → at ≡ Some row → count ≡ length first / k
      → PageWritten t q k c first (record { page = record { count = length first / k; more = true; cursor = last }; evaluations = e }) rows
  written_full row there f = (page_full g.going row there f, (rw (← f) g.most, rw (← f) g.exact))

  -- no row is left
  pub written_out : at ≡ None → PageWritten t q k c first (record { page = record { count = count; more = false; cursor = last }; evaluations = e }) rows
  written_out gone = (page_out g.going gone, (g.most, g.exact))
