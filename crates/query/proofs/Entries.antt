-- Laws of reading an entry and of the checks of single entries.
use Prim.Native.Nat.{ℕ, ◌/◌, ◌≤◌}
use native.Mathlib.Omega.{arith}
use mathlib.Core.Path.{◌≡◌, sym, ap, ◌∙◌}
use mathlib.Core.Bool.{Bool, false}
use mathlib.Core.List.{List}
use Rattle.model.specs.declared.Entry.{Entry}
use Rattle.model.specs.QueryTable.{kind, left, right, tag, entry}
use Rattle.model.specs.Checks.{bad_query_length, bad_sort, bad_entry}
use Rattle.model.proofs.Accepted.{length_fits}

-- what the length check gives: 1 to 64 entries
pub few_entries : (l : ℕ) (b : Bool) → b ≡ bad_query_length l → b ≡ false → (1 ≤ l / 4) × (l / 4 ≤ 64)
few_entries l b p h = let (some, four, most) = length_fits 4 256 l (sym p ∙ h) in (omega arith, omega arith)

-- an entry from its four numbers
pub entry_of : (q : List ℕ) (e k l r t : ℕ) → k ≡ kind q e → l ≡ left q e → r ≡ right q e → t ≡ tag q e → ◌≡◌ {A = Entry} (record { kind = k; left = l; right = r; tag = t }) (entry q e)
entry_of q e k l r t a b c d = rw (a, b, c, d)

-- the sorts of the operands of an entry
pub fails_sort : (q : List ℕ) (e : ℕ) (b : Bool) (f : Entry) (l r : ℕ) → b ≡ bad_sort f.kind l r → l ≡ kind q f.left → r ≡ kind q f.right → f ≡ entry q e → b ≡ bad_entry q 0 13 e
unfolding bad_entry
fails_sort q e b f l r p x y g = rw (x, y) at p ∙ ap (λ (f : Entry). bad_sort f.kind (kind q f.left) (kind q f.right)) g
