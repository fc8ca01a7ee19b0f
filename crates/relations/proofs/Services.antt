-- What an accepted call gives and leaves, and that the two engines agree.
use Prim.Native.Nat.{ℕ, ◌+◌, ◌*◌, ◌/◌, ◌%◌, ◌^◌, ◌≤◌, ◌<◌}
use native.Mathlib.Omega.{arith}
use mathlib.Core.Path.{◌≡◌, refl}
use mathlib.Core.Bool.{false}
use mathlib.Core.List.{List, ◌++◌}
use lib.ListN.{length, get_or, drop}
use borrow.Author.Tests.{ltb-false}
use Rattle.model.specs.declared.Reply.{Reply}
use Rattle.model.specs.Sets.{upto}
use Rattle.model.specs.Tree.{size_of}
use Rattle.model.specs.QueryTable.{last_of}
use Rattle.model.specs.Results.{related}
use Rattle.model.specs.Refusals.{verdict, written}
use Rattle.model.specs.Checks.{room_checks}
use Rattle.model.proofs.Refusals.{Passes, numbered, accepted, written_over}
use Rattle.checks.proofs.Verdicts.{zero_of}
use Rattle.checks.specs.Tables.{Tables}
use Rattle.checks.proofs.Accepted.{front}
use Rattle.aside.specs.Aside.{Counts, aside_at}
use Rattle.aside.proofs.Five.{five_aside}
use Rattle.bits.specs.BitTables.{bit_cell, bit_table}
use Rattle.bits.specs.Rows.{Becomes}
use Rattle.bits.proofs.Words.{length_words}
use Rattle.bits.proofs.Rows.{as_words}
use Rattle.relations.specs.Evaluation.{table_at}
use Rattle.relations.specs.Services.{bit_pairs_checks, pairs_words}

-- no accepted query needs more than five tables aside
pub tables_five : (t q nodes : List ℕ) → Tables t q nodes → aside_at q (last_of q) ≤ 5
tables_five t q nodes a = five_aside q a.shaped (omega (arith, a.last)) a.once

-- what the last entry keeps aside, as it is counted
pub last_counted : (t q nodes counts : List ℕ) → Counts q counts → Tables t q nodes → get_or counts (last_of q) 0 ≡ aside_at q (last_of q)
last_counted t q nodes counts c a = c.at (last_of q) a.last

-- the words of the table that was made
pub did_pairs : (t q nodes w o : List ℕ) → Becomes (size_of t) (table_at t q nodes (last_of q)) w o → 4 * size_of t ≤ length w → ((i : ℕ) → get_or o i 0 < 2 ^ 64)
    → o ≡ pairs_words t q nodes ++ drop (4 * size_of t) w
unfolding table_at pairs_words bit_table bit_cell upto
did_pairs t q nodes w o b h fits = as_words (size_of t) _ (bit_cell (size_of t) (related t q nodes (last_of q) false)) w o b h (λ i l. fits i) (λ x y lx ly.
    let e : (256 * x + y) / 256 ≡ x = omega arith in
    let d : (256 * x + y) % 256 ≡ y = omega arith in
    rw (e, d))

module _ (t q nodes : List ℕ) (columns room : ℕ) (r : Reply) (p : r ≡ verdict (bit_pairs_checks t q columns nodes room)) (z : r.number ≡ 0) where
  pub pairs_accepted : Tables t q nodes × (4 * size_of t ≤ room)
  unfolding bit_pairs_checks room_checks Passes numbered
  pairs_accepted =
      let h = front t q nodes columns (room_checks room (4 * size_of t)) (zero_of (bit_pairs_checks t q columns nodes room) r p z) in
      let w = accepted (room_checks room (4 * size_of t)) refl h.1 in
      (h.0, ltb-false room (4 * size_of t) w.0)

pub pairs_over_lem : (t q nodes to after : List ℕ) (r v : Reply) → after ≡ pairs_words t q nodes ++ drop (4 * size_of t) to → r ≡ v → r.number ≡ 0 → after ≡ written v (pairs_words t q nodes) to
unfolding pairs_words bit_table
pairs_over_lem t q nodes to after r v a p z = written_over r v (pairs_words t q nodes) to after (4 * size_of t) a p z (length_words (4 * size_of t) (bit_cell (size_of t) (related t q nodes (last_of q) false)))
