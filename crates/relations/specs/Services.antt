-- The service of pairs in bits as a total function: from all that a call is lent to its reply and the buffer afterwards.
use Rattle.std.specs.Prelude.{ℕ, ◌*◌, ◌≡◌, false, List, ◌++◌, length}
use Rattle.model.specs.declared.Reply.{Reply}
use Rattle.model.specs.Tree.{size_of}
use Rattle.model.specs.QueryTable.{last_of}
use Rattle.model.specs.Results.{related}
use Rattle.model.specs.Refusals.{Check, verdict, written}
use Rattle.model.specs.Checks.{table_checks, room_checks}
use Rattle.bits.specs.BitTables.{bit_table}

-- 5 to 17 and 20, for a buffer of so many words
unfoldable pub bit_pairs_checks : List ℕ → List ℕ → ℕ → List ℕ → ℕ → List Check
bit_pairs_checks t q columns nodes room = table_checks t q columns nodes ++ room_checks room (4 * size_of t)

-- all pairs of the query, a bit a pair (document 02, §6; proofs/Agreement.antt: engines_agree)
unfoldable pub pairs_words : List ℕ → List ℕ → List ℕ → List ℕ
pairs_words t q nodes = bit_table (size_of t) (related t q nodes (last_of q) false)

-- the reply of pairs: to a tree, a query, its number of variables and their nodes, and the buffer
abbrev pub bit_pairs_reply : List ℕ → List ℕ → ℕ → List ℕ → List ℕ → Reply
bit_pairs_reply t q columns nodes to = verdict (bit_pairs_checks t q columns nodes (length to))

-- the buffer after it
abbrev pub bit_pairs_buffer : List ℕ → List ℕ → ℕ → List ℕ → List ℕ → List ℕ
bit_pairs_buffer t q columns nodes to = written (bit_pairs_reply t q columns nodes to) (pairs_words t q nodes) to

-- a reply, and a buffer as it was left, are those of the call
abbrev pub BitPairsLeave : List ℕ → List ℕ → ℕ → List ℕ → List ℕ → Reply → List ℕ → Type 0
BitPairsLeave t q columns nodes to r after =
    (r ≡ bit_pairs_reply t q columns nodes to) × (after ≡ bit_pairs_buffer t q columns nodes to)
