-- Calls of the check of a shared table and a party with the reply that document 02, §8, has for each: tables at the limits of what is
-- accepted, then some for each refusal, most with something wrong that a later check would tell.
use Rattle.std.specs.Prelude.{ℕ, List, [], ◌∷◌, ◌++◌, replicate}
use Rattle.model.specs.Pages.{flat}
use Rattle.model.specs.Parties.{shared_checks, party_checks}
use Rattle.model.specs.Replies.{Judged, call}

-- a common node 0 and m children, which are party 2's
unfoldable pub hall : ℕ → List ℕ
hall m = 65535 ∷ 1 ∷ 0 ∷ flat (replicate m (0 ∷ 2 ∷ 2 ∷ []))

-- the calls, in the order of their numbers
unfoldable pub calls : List Judged
calls =
    call (shared_checks (hall 255) ++ party_checks 1) 0 0
    ∷ call (shared_checks (65535 ∷ 65534 ∷ 0 ∷ 0 ∷ 65533 ∷ 1 ∷ [])) 0 0
    ∷ call (shared_checks [] ++ party_checks 0) 5 0
    ∷ call (shared_checks (65535 ∷ 1 ∷ 0 ∷ 0 ∷ 2 ∷ [])) 5 0
    ∷ call (shared_checks (hall 256)) 5 0
    ∷ call (shared_checks (65535 ∷ 1 ∷ 0 ∷ 1 ∷ 65535 ∷ 3 ∷ [])) 6 1
    ∷ call (shared_checks (65535 ∷ 1 ∷ 1 ∷ 0 ∷ 65534 ∷ 3 ∷ [])) 7 1
    ∷ call (shared_checks (65535 ∷ 1 ∷ 1 ∷ 0 ∷ 2 ∷ 3 ∷ []) ++ party_checks 0) 30 0
    ∷ call (shared_checks (65535 ∷ 1 ∷ 0 ∷ 0 ∷ 2 ∷ 2 ∷ 0 ∷ 2 ∷ 3 ∷ []) ++ party_checks 3) 30 2
    ∷ call (shared_checks (hall 1) ++ party_checks 0) 31 0
    ∷ call (shared_checks (hall 1) ++ party_checks 3) 31 0
    ∷ []
