-- The refusals of a query that is made, where more than 64 entries are counted as 65.
use Prim.Native.Nat.{ℕ, ◌*◌, ◌≤◌}
use native.Mathlib.Omega.{arith}
use mathlib.Core.Path.{◌≡◌, refl, sym, ap, ◌∙◌}
use mathlib.Core.Bool.{true}
use lib.Dec.{ltb}
use borrow.Author.Tests.{ltb-false}
use Rattle.model.specs.declared.Reply.{Reply}
use Rattle.model.specs.Refusals.{reply, verdict}
use Rattle.model.proofs.Booleans.{Seen, yes!, no!, seen}
use Rattle.model.proofs.Refusals.{Passes, numbered, accepted}
use Rattle.entries.specs.Size.{counted, size_checks}

refused_many : (n room : ℕ) → ltb 64 n ≡ true → verdict (size_checks n room) ≡ reply 26 0
unfolding verdict
refused_many n room h = rw h

-- for the reader: the count of the entries decides as their number
pub same_size : (n room : ℕ) → verdict (size_checks (counted n) room) ≡ verdict (size_checks n room)
same_size n room = go (seen (ltb 64 n))
  where
    go : Seen (ltb 64 n) → verdict (size_checks (counted n) room) ≡ verdict (size_checks n room)
    go (yes! h) =
        let e : counted n ≡ 65 = rw h in
        ap (λ (i : ℕ). verdict (size_checks i room)) e ∙ refused_many 65 room refl ∙ sym (refused_many n room h)
    go (no! h) = let e : counted n ≡ n = rw h in ap (λ (i : ℕ). verdict (size_checks i room)) e

-- for the reader: what is accepted is a table, and fits
pub size_passes : (entries room : ℕ) (u : Reply) → u ≡ verdict (size_checks entries room) → u.number ≡ 0 → (entries ≤ 64) × (4 * entries ≤ room)
unfolding numbered Passes
size_passes entries room u f z =
    let w = accepted (size_checks entries room) refl (sym (ap (λ (r : Reply). r.number) f) ∙ z) in
    (ltb-false 64 entries w.0, ltb-false room (4 * entries) w.1.0)

-- a count of at most 64 is the number
pub counted_few : (n entries : ℕ) → entries ≡ counted n → entries ≤ 64 → (n ≤ 64) × (entries ≡ n)
counted_few n entries c l = go (seen (ltb 64 n))
  where
    go : Seen (ltb 64 n) → (n ≤ 64) × (entries ≡ n)
    go (yes! h) = let e : entries ≡ 65 = c ∙ rw h in absurd (omega arith)
    go (no! h) = (ltb-false 64 n h, c ∙ rw h)
