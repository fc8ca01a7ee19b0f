-- What the operations on whole tables of bits are made of: words combined, sets of four words, rows joined.
use Rattle.std.specs.Prelude.{ℕ, ◌+◌, Bool, true, false, ◌&&◌, ◌||◌, List, eqb, ltb}
use Rattle.model.specs.Sets.{any, upto}
use Rattle.sets.specs.NodeSets.{always, combine}
use Rattle.bits.specs.Words.{test_bit, has_bit}
use Rattle.bits.specs.BitTables.{bit_relation}
use Rattle.bits.specs.Rows.{combined}

-- a kept relation and the one at hand combined: the kept one is the first operand, or the second where the flag is set
abbrev pub joined : ℕ → Bool → (ℕ → ℕ → Bool) → (ℕ → ℕ → Bool) → ℕ → ℕ → Bool
joined op true K A = combined op A K
joined op false K A = combined op K A

-- two words combined bit by bit: 0 union, 1 intersection, else difference
abbrev pub merged_bits : ℕ → ℕ → ℕ → ℕ → Bool
merged_bits op a b k = combine op (test_bit a k) (test_bit b k)

-- the same of a kept word and the one at hand
abbrev pub joined_bits : ℕ → Bool → ℕ → ℕ → ℕ → Bool
joined_bits op true k a = merged_bits op a k
joined_bits op false k a = merged_bits op k a

-- two sets of words combined
abbrev pub merged_sets : ℕ → List ℕ → List ℕ → ℕ → Bool
merged_sets op a b k = combine op (has_bit a k) (has_bit b k)

-- bit k alone if b, else none
abbrev pub only_if : Bool → ℕ → ℕ → Bool
only_if b k i = b && eqb i k

-- the numbers from `base` on that are below n, numbered from there
abbrev pub full_from : ℕ → ℕ → ℕ → Bool
full_from n base k = upto n (always true) (base + k)

-- a set joined with row z of a table
abbrev pub joined_row : List ℕ → List ℕ → ℕ → ℕ → Bool
joined_row r w z y = has_bit r y || bit_relation w z y

-- y is reached under K from a node that a word names: bit k is node base + k, and only nodes below n count
unfoldable pub by_word : ℕ → (ℕ → ℕ → Bool) → ℕ → ℕ → ℕ → Bool
by_word n K base w y = any 64 (λ k. (test_bit w k && ltb (base + k) n) && K (base + k) y)

-- a set joined with what is reached from the nodes that a word names
abbrev pub joined_word : ℕ → (ℕ → ℕ → Bool) → ℕ → ℕ → List ℕ → ℕ → Bool
joined_word n K base w r y = has_bit r y || by_word n K base w y

-- the pairs of a relation, and each node with itself
abbrev pub reflexive : (ℕ → ℕ → Bool) → ℕ → ℕ → Bool
reflexive R x y = eqb x y || R x y

-- the pairs of a relation, and those of two of its steps that meet at z
abbrev pub through : ℕ → (ℕ → ℕ → Bool) → ℕ → ℕ → Bool
through z R x y = R x y || (R x z && R z y)
