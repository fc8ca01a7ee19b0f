-- Calls of the service with the reply that document 02 has for each, and the index and the list of the teaching warehouse.
-- proofs/Worked.antt proves them by computation.
use Rattle.std.specs.Prelude.{ℕ, List, [], ◌∷◌}
use Rattle.model.specs.Replies.{Judged}
use Rattle.model.specs.Replies.Judged.{call}
use Rattle.model.specs.Warehouse.{warehouse}
use Rattle.index.specs.Index.{index_checks}

-- the warehouse's index: nodes 1 and 4 are bays, 2, 3 and 5 pallets
unfoldable pub warehouse_index : List ℕ
warehouse_index = 65535 ∷ 4 ∷ 3 ∷ 5 ∷ 65535 ∷ 65535 ∷ []

-- and its tags: tag 1 first at node 0, once; tag 2 first at 1, twice; tag 3 first at 2, three times
unfoldable pub warehouse_tags : List ℕ
warehouse_tags = 1 ∷ 0 ∷ 1 ∷ 2 ∷ 1 ∷ 2 ∷ 3 ∷ 2 ∷ 3 ∷ []

-- the calls: buffers that just fit, and that are one number too short; malformed trees with short buffers
unfoldable pub calls : List Judged
calls =
    call (index_checks warehouse 6 9) 0 0
    ∷ call (index_checks warehouse 5 9) 20 0
    ∷ call (index_checks warehouse 6 8) 20 0
    ∷ call (index_checks [] 0 0) 5 0
    ∷ call (index_checks (65535 ∷ 1 ∷ 1 ∷ 2 ∷ []) 0 0) 6 1
    ∷ call (index_checks (65535 ∷ 1 ∷ 0 ∷ 65534 ∷ []) 0 0) 7 1
    ∷ []
