-- A table of bits as 256 node sets side by side, and what is left when all of them are moved.
use Rattle.std.specs.Prelude.{ℕ, ◌*◌, ◌≤◌, ◌<◌, ◌≡◌, Bool, List, length, get_or}
use Rattle.model.specs.Sets.{tab, memb, upto, image}
use Rattle.bits.specs.BitTables.{bit_relation}

-- the nodes from which a table of n rows has a pair to y, as bytes
unfoldable pub column : ℕ → List ℕ → ℕ → List ℕ
column n w y = tab 256 (upto n (λ x. bit_relation w x y))

-- the words o are the words w but for the n rows at their front, in which every column has become its image under M
pub record Moved (n : ℕ) (M : ℕ → ℕ → Bool) (w o : List ℕ) : Type 0 where
  pub size : length o ≡ length w
  pub columns : (y : ℕ) → y < 256 → column n o y ≡ tab 256 (image n M (memb (column n w y)))
  pub rest : (i : ℕ) → 4 * n ≤ i → get_or o i 0 ≡ get_or w i 0
