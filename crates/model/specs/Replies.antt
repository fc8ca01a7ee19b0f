-- Calls with the reply that documents 01 and 02 have for each: tables at the limits of what is accepted, queries that keep the rule of
-- quick pages, then some calls for each of the refusals 5 to 20 and for 29, most with something wrong that a later check would tell.
-- proofs/Replies.antt proves the one claim that every call of the list gets its reply.
use Rattle.std.specs.Prelude.{ℕ, zero, suc, ◌-◌, ◌*◌, List, [], ◌∷◌, replicate}
use Rattle.model.specs.declared.Reply.{Reply}
use Rattle.model.specs.Pages.{flat}
use Rattle.model.specs.Refusals.{Check, reply, verdict}
use Rattle.model.specs.Checks.{tree_checks, query_checks, image_checks, pairs_checks, page_checks, quick_checks}
use Rattle.model.specs.Warehouse.{warehouse, child_pallet, self_or_bay, bay_and_pallet, fresh, begun_at}

-- a call: its checks, and the number and the place that are due
pub data Judged : Type 0 where
  call : List Check → ℕ → ℕ → Judged

-- the reply that the checks give
unfoldable pub given : Judged → Reply
given (call cs number place) = verdict cs

-- the reply that is due
unfoldable pub due : Judged → Reply
due (call cs number place) = reply number place

-- the set of no node of the warehouse
abbrev pub empty : List ℕ
empty = replicate 6 0

-- a tree of node 0 and m children
unfoldable pub star : ℕ → List ℕ
star m = 65535 ∷ 1 ∷ flat (replicate m (0 ∷ 2 ∷ []))

-- m entries from entry i on, each the one before it from the root
unfoldable pub roots : ℕ → ℕ → List ℕ
roots i zero = []
roots i (suc m) = 7 ∷ (i - 1) ∷ 0 ∷ 0 ∷ roots (suc i) m

-- two of `$0` under a kind of path with two operands
unfoldable pub twice : ℕ → List ℕ
twice k = 6 ∷ 0 ∷ 0 ∷ 0 ∷ 6 ∷ 0 ∷ 0 ∷ 0 ∷ k ∷ 0 ∷ 1 ∷ 0 ∷ []

-- `child::3`, filtered by two of `. is $0` under a kind of node expression with two operands
unfoldable pub twice_at : ℕ → List ℕ
twice_at k = 0 ∷ 1 ∷ 0 ∷ 3 ∷ 12 ∷ 0 ∷ 0 ∷ 0 ∷ 12 ∷ 0 ∷ 0 ∷ 0 ∷ k ∷ 1 ∷ 2 ∷ 0 ∷ 5 ∷ 0 ∷ 3 ∷ 0 ∷ []

-- `child::3`, filtered by `child::k same $0`
unfoldable pub same_at : ℕ → List ℕ
same_at k = 0 ∷ 1 ∷ 0 ∷ 3 ∷ 0 ∷ 1 ∷ 0 ∷ k ∷ 6 ∷ 0 ∷ 0 ∷ 0 ∷ 14 ∷ 1 ∷ 2 ∷ 0 ∷ 5 ∷ 0 ∷ 3 ∷ 0 ∷ []

-- the calls, in the order of their numbers
unfoldable pub calls : List Judged
calls =
    call (tree_checks (star 255)) 0 0
    ∷ call (tree_checks (65535 ∷ 65534 ∷ 0 ∷ 65533 ∷ [])) 0 0
    ∷ call (query_checks (0 ∷ 1 ∷ 0 ∷ 65534 ∷ []) 0 0) 0 0
    ∷ call (query_checks (0 ∷ 1 ∷ 0 ∷ 3 ∷ roots 1 63) 0 0) 0 0
    ∷ call (query_checks (0 ∷ 1 ∷ 0 ∷ 3 ∷ 13 ∷ 0 ∷ 0 ∷ 0 ∷ []) 0 0) 0 0
    ∷ call (query_checks (same_at 1) 0 1) 0 0
    ∷ call (quick_checks warehouse bay_and_pallet 2 (begun_at 5 5) 2) 0 0
    ∷ call (quick_checks warehouse (twice 2) 1 fresh 1) 0 0
    ∷ call (quick_checks warehouse (twice_at 11) 1 fresh 1) 0 0
    ∷ call (image_checks [] [] 4 [] [] 0) 5 0
    ∷ call (page_checks [] [] 4 fresh 0) 5 0
    ∷ call (tree_checks (65535 ∷ 1 ∷ 0 ∷ [])) 5 0
    ∷ call (tree_checks (replicate (2 * 257) 0)) 5 0
    ∷ call (tree_checks (0 ∷ 1 ∷ [])) 6 0
    ∷ call (tree_checks (65535 ∷ 1 ∷ 1 ∷ 2 ∷ [])) 6 1
    ∷ call (tree_checks (65535 ∷ 1 ∷ 0 ∷ 2 ∷ 0 ∷ 2 ∷ 1 ∷ 3 ∷ [])) 6 3
    ∷ call (tree_checks (65535 ∷ 65534 ∷ 1 ∷ 2 ∷ [])) 6 1
    ∷ call (tree_checks (65535 ∷ 1 ∷ 0 ∷ 65534 ∷ 0 ∷ 65535 ∷ [])) 7 1
    ∷ call (tree_checks (65535 ∷ 65535 ∷ 0 ∷ 65534 ∷ [])) 7 0
    ∷ call (image_checks warehouse [] 4 (9 ∷ []) [] 0) 8 0
    ∷ call (query_checks (0 ∷ 1 ∷ 0 ∷ 3 ∷ 0 ∷ []) 0 0) 8 0
    ∷ call (query_checks (replicate (4 * 65) 0) 0 0) 8 0
    ∷ call (query_checks child_pallet 0 4) 9 0
    ∷ call (page_checks warehouse child_pallet 0 fresh 1) 9 0
    ∷ call (query_checks (15 ∷ 0 ∷ 0 ∷ 0 ∷ []) 0 0) 10 0
    ∷ call (query_checks (0 ∷ 13 ∷ 0 ∷ 3 ∷ []) 0 0) 11 0
    ∷ call (query_checks (0 ∷ 1 ∷ 1 ∷ 3 ∷ []) 0 0) 11 0
    ∷ call (query_checks (6 ∷ 0 ∷ 0 ∷ 1 ∷ []) 0 1) 11 0
    ∷ call (query_checks (self_or_bay 1) 0 0) 11 2
    ∷ call (query_checks (0 ∷ 1 ∷ 0 ∷ 3 ∷ 13 ∷ 0 ∷ 1 ∷ 0 ∷ []) 0 0) 11 1
    ∷ call (query_checks (0 ∷ 1 ∷ 0 ∷ 3 ∷ 14 ∷ 0 ∷ 0 ∷ 1 ∷ []) 0 0) 11 1
    ∷ call (query_checks (0 ∷ 1 ∷ 0 ∷ 3 ∷ 7 ∷ 1 ∷ 0 ∷ 0 ∷ []) 0 0) 12 1
    ∷ call (query_checks (0 ∷ 1 ∷ 0 ∷ 3 ∷ 0 ∷ 1 ∷ 0 ∷ 3 ∷ 5 ∷ 0 ∷ 1 ∷ 0 ∷ []) 0 0) 13 2
    ∷ call (query_checks (0 ∷ 1 ∷ 0 ∷ 3 ∷ 8 ∷ 0 ∷ 0 ∷ 0 ∷ 13 ∷ 1 ∷ 0 ∷ 0 ∷ []) 0 0) 13 2
    ∷ call (query_checks (0 ∷ 1 ∷ 0 ∷ 3 ∷ 12 ∷ 0 ∷ 0 ∷ 0 ∷ 14 ∷ 0 ∷ 1 ∷ 0 ∷ []) 0 1) 13 2
    ∷ call (query_checks (0 ∷ 1 ∷ 0 ∷ 3 ∷ 0 ∷ 1 ∷ 0 ∷ 3 ∷ []) 0 0) 14 0
    ∷ call (query_checks (0 ∷ 1 ∷ 0 ∷ 3 ∷ 2 ∷ 0 ∷ 0 ∷ 0 ∷ []) 0 0) 14 0
    ∷ call (query_checks (0 ∷ 1 ∷ 0 ∷ 3 ∷ 8 ∷ 0 ∷ 0 ∷ 0 ∷ []) 0 0) 15 1
    ∷ call (quick_checks warehouse (6 ∷ 0 ∷ 0 ∷ 0 ∷ 12 ∷ 0 ∷ 0 ∷ 0 ∷ 5 ∷ 0 ∷ 1 ∷ 0 ∷ 8 ∷ 2 ∷ 0 ∷ 0 ∷ []) 1 fresh 0) 15 3
    ∷ call (quick_checks warehouse (twice 1) 1 (begun_at 6 6) 0) 29 2
    ∷ call (quick_checks warehouse (twice 3) 1 fresh 0) 29 2
    ∷ call (quick_checks warehouse (twice 4) 1 fresh 1) 29 2
    ∷ call (quick_checks warehouse (6 ∷ 0 ∷ 0 ∷ 0 ∷ 12 ∷ 0 ∷ 0 ∷ 0 ∷ 5 ∷ 0 ∷ 1 ∷ 0 ∷ []) 1 fresh 1) 29 2
    ∷ call (quick_checks warehouse (twice_at 10) 1 fresh 1) 29 3
    ∷ call (quick_checks warehouse (0 ∷ 1 ∷ 0 ∷ 3 ∷ 12 ∷ 0 ∷ 0 ∷ 0 ∷ 9 ∷ 1 ∷ 0 ∷ 0 ∷ 5 ∷ 0 ∷ 2 ∷ 0 ∷ []) 1 fresh 1) 29 2
    ∷ call (quick_checks warehouse (6 ∷ 0 ∷ 0 ∷ 0 ∷ 13 ∷ 0 ∷ 0 ∷ 0 ∷ []) 1 fresh 1) 29 1
    ∷ call (quick_checks warehouse (same_at 1) 1 fresh 1) 29 3
    ∷ call (image_checks warehouse (self_or_bay 1) 1 [] [] 0) 16 0
    ∷ call (image_checks warehouse bay_and_pallet 2 (5 ∷ 6 ∷ []) [] 0) 17 1
    ∷ call (page_checks warehouse bay_and_pallet 2 (begun_at 5 6) 0) 17 1
    ∷ call (quick_checks warehouse bay_and_pallet 2 (begun_at 5 6) 0) 17 1
    ∷ call (image_checks warehouse child_pallet 0 [] (2 ∷ empty) 0) 18 0
    ∷ call (image_checks warehouse child_pallet 0 [] (0 ∷ 1 ∷ 2 ∷ 3 ∷ 0 ∷ 0 ∷ []) 0) 19 2
    ∷ call (image_checks warehouse child_pallet 0 [] empty 5) 20 0
    ∷ call (pairs_checks warehouse child_pallet 0 [] 35) 20 0
    ∷ call (page_checks warehouse bay_and_pallet 2 fresh 1) 20 0
    ∷ []
