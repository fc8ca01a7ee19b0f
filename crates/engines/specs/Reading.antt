-- What an image is read by from a table of bits.
use Rattle.std.specs.Prelude.{ℕ, Bool, ◌&&◌, List}
use Rattle.model.specs.Sets.{any, memb}
use Rattle.bits.specs.Words.{has_bit}

-- y stands in the row of a node below n that is in the set: the rows of its nodes, joined
unfoldable pub joined_rows : ℕ → (ℕ → ℕ → Bool) → List ℕ → ℕ → Bool
joined_rows n R s y = any n (λ x. memb s x && R x y)

-- a node of the set stands in the row of x; the set is four words
unfoldable pub meets : (ℕ → ℕ → Bool) → List ℕ → ℕ → Bool
meets R s x = any 256 (λ y. R x y && has_bit s y)
