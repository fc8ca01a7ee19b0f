-- One entry: what stands for it, and how large its numbers are.
use Prim.Native.Nat.{ℕ, ◌<◌}
use native.Mathlib.Omega.{arith}
use mathlib.Core.Path.{◌≡◌, refl, sym, ◌∙◌}
use mathlib.Core.Logic.{⊎_elim}
use mathlib.Core.Bool.{Bool, true, false, not, ◌&&◌}
use mathlib.Core.List.{List}
use lib.Dec.{ltb, eqb}
use borrow.Author.Tests.{eqb-true, not-true, not-false}
use Rattle.model.specs.declared.Entry.{Entry}
use Rattle.model.specs.QueryTable.{entries_of, kind, left, right, tag, entry}
use Rattle.model.specs.Kinds.{left_path, left_expr, names_variable, has_left, has_right}
use Rattle.model.specs.Accepted.{Shaped}
use Rattle.model.proofs.Booleans.{Seen, seen, yes_left, yes_right, or_cases, guarded}
use Rattle.model.proofs.Booleans.Seen.{yes!, no! }
use Rattle.model.proofs.KindTests.{names_variable_by}
use Rattle.model.proofs.Formed.{left_lower, right_lower}
use Rattle.opening.specs.Opening.{stand_in, moved, moved_entry, opened_entry, node_step, Narrow}

-- g stands for f: for a path that is a variable not filled, for a node expression that names one, or for an entry that only moves
pub data Stands (i : ℕ) (f g : Entry) : Type 0 where
  path! : f.kind ≡ 6 → ltb f.left i ≡ false → g ≡ record { kind = 7; left = 1; right = 0; tag = 0 } → Stands i f g
  expr! : f.kind ≡ 12 → ltb f.left i ≡ false → g ≡ record { kind = 8; left = 0; right = 0; tag = 0 } → Stands i f g
  moved! : (names_variable f.kind ≡ true → ltb f.left i ≡ true) → g ≡ moved_entry f → Stands i f g

pub stands : (i : ℕ) (f : Entry) → Stands i f (opened_entry i f)
unfolding stand_in opened_entry
stands i f = go (seen (names_variable f.kind && not (ltb f.left i)))
  where
    go : Seen (names_variable f.kind && not (ltb f.left i)) → Stands i f (opened_entry i f)
    go (no! p) = moved! (λ h. not-false (ltb f.left i) (guarded (names_variable f.kind) (not (ltb f.left i)) p h)) (rw p)
    go (yes! p) =
        let out : ltb f.left i ≡ false = not-true (ltb f.left i) (yes_right (names_variable f.kind) (not (ltb f.left i)) p) in
        ⊎_elim (λ h. path! (eqb-true f.kind 6 h) out (rw (p, h)))
        (λ h. let k : f.kind ≡ 12 = eqb-true f.kind 12 h in expr! k out (rw (p, k)))
        (or_cases (eqb f.kind 6) (eqb f.kind 12) (sym (names_variable_by f.kind) ∙ yes_left (names_variable f.kind) (not (ltb f.left i)) p))

-- the code: b says whether the entry names a variable
module _ (i : ℕ) (f g : Entry) (b : Bool) (names : b ≡ names_variable f.kind) where
  pub did_stand : g ≡ stand_in f.kind → (b && not (ltb f.left i)) ≡ true → g ≡ opened_entry i f
  unfolding opened_entry
  did_stand p h = p ∙ rw (rw names at h)

  pub did_move : g ≡ moved_entry f → (b && not (ltb f.left i)) ≡ false → g ≡ opened_entry i f
  unfolding opened_entry
  did_move p h = p ∙ rw (rw names at h)

-- a kind that names a variable has no operand
pub named_leaf : (k : ℕ) → names_variable k ≡ true → has_left k ≡ false
unfolding left_path left_expr
named_leaf k h = ⊎_elim (λ p. rw (eqb-true k 6 p)) (λ p. rw (eqb-true k 12 p)) (or_cases (eqb k 6) (eqb k 12) (sym (names_variable_by k) ∙ h))

narrow_moved : (operand : Bool) (x : ℕ) → x < 65536 → (operand ≡ true → x < 64) → moved operand x < 65536
narrow_moved true x l h = let m : x < 64 = h refl in omega arith
narrow_moved false x l h = l

-- what stands for an entry of a query fits 16 bits, since its operands are among 64 entries
pub opened_narrow : (q : List ℕ) (i e : ℕ) (f g : Entry) → g ≡ opened_entry i f → f ≡ entry q e → Shaped q → e < entries_of q → f.left < 65536 → f.right < 65536 → tag q e < 65536 → Narrow g
unfolding moved_entry
opened_narrow q i e f g pg pf ok within ll lr lt = rw (pg, pf) (go (stands i (entry q e)))
  where
    go : Stands i (entry q e) (opened_entry i (entry q e)) → Narrow (opened_entry i (entry q e))
    go (path! k l p) = rw p (record { kind = omega arith; left = omega arith; right = omega arith; tag = omega arith })
    go (expr! k l p) = rw p (record { kind = omega arith; left = omega arith; right = omega arith; tag = omega arith })
    go (moved! l p) = rw p (record {
      kind = omega (arith, ok.formed.known e within);
      left = narrow_moved (has_left (kind q e)) (left q e) (rw pf at ll) (λ h. omega (arith, left_lower q ok.formed e within h, ok.few));
      right = narrow_moved (has_right (kind q e)) (right q e) (rw pf at lr) (λ h. omega (arith, right_lower q ok.formed e within h, ok.few));
      tag = lt;
    })

pub step_narrow : (axis : ℕ) (f : Entry) → f ≡ node_step axis → axis < 65536 → Narrow f
step_narrow axis f p l = rw p (record { kind = omega arith; left = l; right = omega arith; tag = omega arith })
