-- Tables of bits inside the engine: what the functions that write rows leave, and how relations are combined.
use Rattle.std.specs.Prelude.{ℕ, ◌+◌, ◌*◌, ◌≤◌, ◌<◌, ◌≡◌, Bool, ◌&&◌, List, length, get_or, eqb, ltb}
use Rattle.model.specs.Sets.{any}
use Rattle.sets.specs.NodeSets.{combine}
use Rattle.bits.specs.BitTables.{bit_relation}

-- the words o are the words w but for the n rows at their front, in which R stands
pub record Becomes (n : ℕ) (R : ℕ → ℕ → Bool) (w o : List ℕ) : Type 0 where
  pub size : length o ≡ length w
  pub bits : (x y : ℕ) → x < n → y < 256 → bit_relation o x y ≡ R x y
  pub rest : (i : ℕ) → 4 * n ≤ i → get_or o i 0 ≡ get_or w i 0

-- the words o are the words w but for row x, in which the set S stands
pub record RowBecomes (x : ℕ) (S : ℕ → Bool) (w o : List ℕ) : Type 0 where
  pub size : length o ≡ length w
  pub bits : (y : ℕ) → y < 256 → bit_relation o x y ≡ S y
  pub before : (i : ℕ) → i < 4 * x → get_or o i 0 ≡ get_or w i 0
  pub behind : (i : ℕ) → 4 * x + 4 ≤ i → get_or o i 0 ≡ get_or w i 0

-- the pairs that end below n
abbrev pub within : ℕ → (ℕ → ℕ → Bool) → ℕ → ℕ → Bool
within n R x y = ltb y n && R x y

-- each node with itself
abbrev pub diagonal : ℕ → ℕ → Bool
diagonal x y = eqb x y

-- two relations combined pair by pair: 0 union, 1 intersection, else difference
abbrev pub combined : ℕ → (ℕ → ℕ → Bool) → (ℕ → ℕ → Bool) → ℕ → ℕ → Bool
combined op A B x y = combine op (A x y) (B x y)

-- two relations among n nodes composed
unfoldable pub composed : ℕ → (ℕ → ℕ → Bool) → (ℕ → ℕ → Bool) → ℕ → ℕ → Bool
composed n A B x y = any n (λ z. A x z && B z y)

-- the pairs that start in a set
abbrev pub starting_in : (ℕ → Bool) → (ℕ → ℕ → Bool) → ℕ → ℕ → Bool
starting_in S R x y = S x && R x y

-- the pairs that end in a set
abbrev pub ending_in : (ℕ → Bool) → (ℕ → ℕ → Bool) → ℕ → ℕ → Bool
ending_in S R x y = R x y && S y

-- the row of x where the flag is set, else nothing
abbrev pub kept_row : Bool → (ℕ → ℕ → Bool) → ℕ → ℕ → Bool
kept_row b R x y = b && R x y

-- from every node the pairs of z
abbrev pub from_node : ℕ → (ℕ → ℕ → Bool) → ℕ → ℕ → Bool
from_node z R x y = R z y

-- x has a pair
abbrev pub has_pair : (ℕ → ℕ → Bool) → ℕ → Bool
has_pair R x = any 256 (R x)
