-- The two engines agree: what one writes as bytes and the other as bits is the same relation.
use Prim.Native.Nat.{ℕ, ◌*◌, ◌≤◌}
use mathlib.Core.Path.{◌≡◌, sym, ap, ◌∙◌}
use mathlib.Core.Bool.{false, cond}
use mathlib.Core.List.{List, [], ◌∷◌, ◌++◌}
use lib.ListN.{length, take, drop}
use lib.Seq.{take_at}
use borrow.Author.Tests.{le-ltb}
use Rattle.model.specs.declared.Reply.{Reply}
use Rattle.model.specs.Tree.{size_of}
use Rattle.model.specs.QueryTable.{last_of}
use Rattle.model.specs.Results.{related, cell, pairs_bytes}
use Rattle.model.specs.Refusals.{Check, reply, verdict, written}
use Rattle.model.specs.Checks.{table_checks, room_checks, pairs_checks}
use Rattle.model.specs.Services.{PairsLeave}
use Rattle.model.proofs.Bytes.{length_tab}
use Rattle.checks.proofs.Accepted.{pairs_accepted}
use Rattle.bits.specs.BitTables.{bit_cell, bit_table, byte_table, packed, unpacked}
use Rattle.bits.proofs.Words.{length_words}
use Rattle.packing.proofs.RoundTrip.{pack_table, unpack_table}
use Rattle.relations.specs.Services.{bit_pairs_checks, pairs_words, BitPairsLeave}

-- packed, the bytes of the first engine are the words of the second, and unpacked the words are the bytes: for every tree of at most 256
-- nodes, every query and every assignment, so for every accepted call
pub engines_agree : (t q nodes : List ℕ) → size_of t ≤ 256 → (packed (size_of t) (pairs_bytes t q nodes) ≡ pairs_words t q nodes) × (unpacked (size_of t) (pairs_words t q nodes) ≡ pairs_bytes t q nodes)
unfolding pairs_bytes pairs_words byte_table
engines_agree t q nodes h =
    (pack_table (size_of t) h (related t q nodes (last_of q) false), unpack_table (size_of t) h (related t q nodes (last_of q) false))

-- checks that pass at the end of a list change nothing
verdict_front : (a b : List Check) → verdict b ≡ reply 0 0 → verdict (a ++ b) ≡ verdict a
unfolding verdict
verdict_front [] b h = h
verdict_front (c ∷ a) b h = ap (cond c.fails (reply c.number c.place)) (verdict_front a b h)

room_passes : (room needed : ℕ) → needed ≤ room → verdict (room_checks room needed) ≡ reply 0 0
unfolding room_checks verdict
room_passes room needed h = rw (le-ltb room needed h)

written_front : (v : Reply) (f to : List ℕ) (m : ℕ) → length f ≡ m → v.number ≡ 0 → take m (written v f to) ≡ f
unfolding written
written_front v f to m e z = rw z (take_at f (drop (length f) to) m e)

-- two calls that are lent the same tables, each with room for its own: they reply alike, and an accepted one leaves the same relation
pub calls_agree : (t q nodes table words after left : List ℕ) (columns : ℕ) (r s : Reply) → PairsLeave t q columns nodes table r after → BitPairsLeave t q columns nodes words s left
    → size_of t * size_of t ≤ length table → 4 * size_of t ≤ length words
    → (r ≡ s) × (r.number ≡ 0 → take (4 * size_of t) left ≡ packed (size_of t) (take (size_of t * size_of t) after))
unfolding pairs_checks bit_pairs_checks pairs_bytes pairs_words bit_table
calls_agree t q nodes table words after left columns r s (p, a) (o, b) h g = (
  same,
  λ z.
      ap (take (4 * size_of t)) b
      ∙ written_front _ (pairs_words t q nodes) words (4 * size_of t) (length_words (4 * size_of t) (bit_cell (size_of t) (related t q nodes (last_of q) false))) (ap (λ (v : Reply). v.number) (sym o ∙ sym same) ∙ z)
      ∙ sym (engines_agree t q nodes (pairs_accepted t q nodes columns (length table) r p z).0.tree.sound.at_most).0
      ∙ ap (packed (size_of t)) (sym (ap (take (size_of t * size_of t)) a
      ∙ written_front _ (pairs_bytes t q nodes) table (size_of t * size_of t) (length_tab (size_of t * size_of t) (cell (size_of t) (related t q nodes (last_of q) false))) (ap (λ (v : Reply). v.number) (sym p) ∙ z))),
)
  where
    same : r ≡ s
    same =
        p ∙ verdict_front (table_checks t q columns nodes) (room_checks (length table) (size_of t * size_of t)) (room_passes (length table) (size_of t * size_of t) h)
        ∙ sym (o ∙ verdict_front (table_checks t q columns nodes) (room_checks (length words) (4 * size_of t)) (room_passes (length words) (4 * size_of t) g))
