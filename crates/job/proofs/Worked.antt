-- For the reader: the teaching job of document 01 is read as it says, and so is one for a party over the same warehouse, by computation.
use Prim.Native.Nat.{ℕ, ◌/◌, ◌%◌}
use mathlib.Core.Path.{◌≡◌, refl}
use mathlib.Core.Bool.{true, false}
use mathlib.Core.List.{List, [], ◌∷◌, ◌++◌}
use Rattle.model.specs.Sets.{any}
use Rattle.model.specs.Refusals.{reply, verdict}
use Rattle.model.specs.Warehouse.{warehouse, bay_and_pallet}
use Rattle.job.specs.JobFile.{bad_length, bad_magic, trailer_size, party_of, number_at, numbers, outside, overlap, part_checks, file_checks, job_of}

-- the bytes of numbers, low byte first
unfoldable pub bytes : List ℕ → List ℕ
bytes [] = []
bytes (x ∷ xs) = x % 256 ∷ x / 256 ∷ bytes xs

-- the teaching job
unfoldable pub teaching : List ℕ
teaching = bytes (warehouse ++ (bay_and_pallet ++ (92 ∷ 12 ∷ 68 ∷ 28 ∷ 2 ∷ 20564 ∷ [])))

-- the teaching job is accepted, with 12 numbers of its tree from byte 0 on, 28 of its query from byte 24 on, and two variables
pub teaching_job : job_of teaching ≡ record { reply = reply 0 0; tree = record { start = 0; count = 12 }; query = record { start = 24; count = 28 }; columns = 2; party = 1; owners = false }
unfolding teaching bytes warehouse bay_and_pallet job_of file_checks bad_length bad_magic trailer_size party_of part_checks outside overlap any verdict number_at
teaching_job = refl

-- the warehouse with owners: the second bay is party 2's, and so is the first bay's second pallet
unfoldable pub shared_warehouse : List ℕ
shared_warehouse = 65535 ∷ 1 ∷ 0 ∷ 0 ∷ 2 ∷ 0 ∷ 1 ∷ 3 ∷ 0 ∷ 1 ∷ 3 ∷ 2 ∷ 0 ∷ 2 ∷ 2 ∷ 4 ∷ 3 ∷ 0 ∷ []

-- the same query over it, for a party
unfoldable pub for_party : ℕ → List ℕ
for_party party = bytes (shared_warehouse ++ (bay_and_pallet ++ (106 ∷ 18 ∷ 70 ∷ 28 ∷ 2 ∷ party ∷ 20565 ∷ [])))

-- it is accepted, with 18 numbers of its tree, its party and owners
pub party_job : job_of (for_party 2) ≡ record { reply = reply 0 0; tree = record { start = 0; count = 18 }; query = record { start = 36; count = 28 }; columns = 2; party = 2; owners = true }
unfolding for_party bytes shared_warehouse bay_and_pallet job_of file_checks bad_length bad_magic trailer_size party_of part_checks outside overlap any verdict number_at
party_job = refl

-- the numbers of the teaching job's two parts are the warehouse and the query that it was made of
pub teaching_tables : (numbers teaching 0 12 ≡ warehouse) × (numbers teaching 24 28 ≡ bay_and_pallet)
unfolding teaching bytes warehouse bay_and_pallet numbers number_at
teaching_tables = (refl, refl)
