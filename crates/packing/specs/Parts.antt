-- What the contracts of the inner functions speak of. No service asks for any of this.
use Rattle.std.specs.Prelude.{ℕ, ◌+◌, ◌*◌, Bool, not, ◌&&◌, List, ltb}
use Rattle.model.specs.Sets.{upto}
use Rattle.sets.specs.NodeSets.{shifted}
use Rattle.bits.specs.Words.{test_bit, has_bit}

-- bit y of the row that begins at word i
abbrev pub row_bit : List ℕ → ℕ → ℕ → Bool
row_bit w i y = has_bit w (64 * i + y)

-- node base + k is below n, and in the row of n bytes that begins at a place of the list
abbrev pub row_part : ℕ → ℕ → ℕ → List ℕ → ℕ → Bool
row_part n at base b k = upto n (shifted at b) (base + k)

-- bit k of a word is set, and is at or beyond n in its row, of which the word's lowest bit is bit `first`
abbrev pub stray_bit : ℕ → ℕ → ℕ → ℕ → Bool
stray_bit n first w k = not (ltb (first + k) n) && test_bit w k
