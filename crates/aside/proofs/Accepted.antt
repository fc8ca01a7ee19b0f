-- What an accepted query gives: five tables aside are enough for it.
use Prim.Native.Nat.{ℕ, ◌≤◌}
use mathlib.Core.List.{List}
use Rattle.model.specs.QueryTable.{last_of}
use Rattle.model.specs.Checks.{query_checks}
use Rattle.model.proofs.Refusals.{Passes}
use Rattle.model.proofs.Accepted.{entries_some, query_shaped, query_once}
use Rattle.aside.specs.Aside.{aside_at}
use Rattle.aside.proofs.Five.{five_aside}

-- for the reader: an accepted query keeps at most five tables aside
pub accepted_five : (q : List ℕ) (least columns : ℕ) → Passes (query_checks q least columns) → aside_at q (last_of q) ≤ 5
accepted_five q least columns b = five_aside q (query_shaped q least columns b) (entries_some q least columns b) (query_once q least columns b)
