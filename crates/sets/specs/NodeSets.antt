-- Node sets by value: 256 bytes, each 0 or 1, and 0 for every number that is no node.
use Rattle.std.specs.Prelude.{ℕ, ◌+◌, Bool, not, ◌&&◌, ◌||◌, List, [], ◌∷◌, get_or, eqb}
use Rattle.model.specs.Sets.{memb}
use Rattle.sets.specs.declared.Operation.{Operation}
use Rattle.sets.specs.declared.Operation.TheVariants.{Union, Intersection, Difference}

-- the same answer for every node
abbrev pub always : Bool → ℕ → Bool
always b k = b

-- x alone
abbrev pub only : ℕ → ℕ → Bool
only x k = eqb k x

-- an operation by its number
abbrev pub operation_number : Operation → ℕ
operation_number Union = 0
operation_number Intersection = 1
operation_number Difference = 2

-- how two sets are combined at one node: 0 union, 1 intersection, else difference
unfoldable pub combine : ℕ → Bool → Bool → Bool
combine op a b = get_or ((a || b) ∷ (a && b) ∷ []) op (a && not b)

-- two sets of bytes combined
unfoldable pub combination : ℕ → List ℕ → List ℕ → ℕ → Bool
combination op a b k = combine op (memb a k) (memb b k)

-- the nodes from `at` on, numbered from there
abbrev pub shifted : ℕ → List ℕ → ℕ → Bool
shifted at s k = memb s (at + k)
