use Prim.Native.Nat.{ℕ}
use mathlib.Core.Path.{ap}
use mathlib.Core.List.{List, []}
use lib.ListN.{get_or}
use Rattle.sharing.proofs.Passes.{broken_here}
use Rattle.sharing.proofs.is_breaking_entry.Goals as goal

pub returns : goal.returns
returns c =
    let row = λ (v : ℕ). ap (λ (l : List (List ℕ)). get_or l v []) c.requires.1.1 in
    broken_here _ c.requires.0 _ c.requires.1.0 _ c.entry_at-f.ensures.0 _ _ _ _ _ _ c.breaks_by-a.ensures c.breaks_by-b.ensures c.breaks_by-c.ensures (row 0) (row 1) (row 2)
