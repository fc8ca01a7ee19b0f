-- Calls over the teaching warehouse, as one list: what each finds, or how it is refused. proofs/Worked.antt proves the one claim that
-- every call of the list is correct.
use Rattle.std.specs.Prelude.{ℕ, List, [], ◌∷◌, ◌++◌, length, replicate}
use Rattle.model.specs.Refusals.{reply, counting}
use Rattle.model.specs.Warehouse.{warehouse, set_of}
use Rattle.index.specs.Worked.{warehouse_index}
use Rattle.lookup.specs.Chain.{LookupLeaves}

-- a call
pub data Call : Type 0 where
  -- over the warehouse: an index, a start, a tag, and the nodes found
  finds : List ℕ → ℕ → ℕ → List ℕ → Call
  -- a tree, an index, a start, a tag and how many bytes the buffer has, and the number and the place of the refusal
  refuses : List ℕ → List ℕ → ℕ → ℕ → ℕ → ℕ → ℕ → Call

-- the call leaves what is told. A buffer is lent with 7 in each byte, and one that is written has two bytes more than there are nodes
unfoldable pub Correct : Call → Type 0
Correct (finds next start tag xs) =
    LookupLeaves warehouse next start tag (replicate 8 7) (counting (reply 0 0) (length xs)) (set_of warehouse xs ++ (7 ∷ 7 ∷ []))
Correct (refuses t next start tag room number place) =
    LookupLeaves t next start tag (replicate room 7) (counting (reply number place) 0) (replicate room 7)

-- every call of the list is correct
unfoldable pub AllCorrect : List Call → Type 0
AllCorrect [] = Unit
AllCorrect (c ∷ cs) = Correct c × AllCorrect cs

-- an index with these numbers at the nodes 2 and 3. At 0, 1 and 4 it has what no index has there, but no chain of tag 3 reads it
unfoldable pub damaged : ℕ → ℕ → List ℕ
damaged a b = 0 ∷ 0 ∷ a ∷ b ∷ 0 ∷ 65535 ∷ []

-- the calls: by the own index; by a wrong one whose numbers on the way are none to refuse; refusals, most with something wrong that a
-- later check would tell
unfoldable pub calls : List Call
calls =
    finds warehouse_index 0 3 (2 ∷ 3 ∷ 5 ∷ [])
    ∷ finds warehouse_index 1 3 (2 ∷ 3 ∷ [])
    ∷ finds warehouse_index 0 2 (1 ∷ 4 ∷ [])
    ∷ finds warehouse_index 2 3 []
    ∷ finds warehouse_index 0 65535 []
    ∷ finds (damaged 5 0) 0 3 (2 ∷ 5 ∷ [])
    ∷ refuses [] [] 6 3 0 5 0
    ∷ refuses warehouse [] 6 3 0 36 0
    ∷ refuses warehouse (7 ∷ warehouse_index) 0 3 0 27 0
    ∷ refuses warehouse (damaged 3 3) 0 3 0 27 3
    ∷ refuses warehouse (damaged 3 6) 0 3 8 27 3
    ∷ refuses warehouse (damaged 4 5) 0 3 8 27 2
    ∷ refuses warehouse (damaged 3 4) 1 3 8 27 3
    ∷ refuses warehouse warehouse_index 0 3 5 20 0
    ∷ []
