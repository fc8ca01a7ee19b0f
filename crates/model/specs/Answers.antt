-- The answers of a query with variables (document 01: the pick list): all rows under which the query has a pair, in order.
use Rattle.std.specs.Prelude.{ℕ, zero, suc, Bool, true, false, ◌&&◌, ◌||◌, List, [], ◌∷◌, ◌++◌, map, ltb, eqb}
use Rattle.model.specs.Sets.{any}
use Rattle.model.specs.Tree.{size_of}
use Rattle.model.specs.QueryTable.{last_of}
use Rattle.model.specs.Results.{related}

-- a row: one node for each variable
abbrev pub Row : Type 0
Row = List ℕ

-- row r stands strictly before row s: the first number weighs most
abbrev pub less : Row → Row → Bool
less [] s = false
less (a ∷ r) [] = false
less (a ∷ r) (b ∷ s) = ltb a b || (eqb a b && less r s)

-- the rows that begin with one of the m numbers from a on and go on as in rs
abbrev pub blocks : ℕ → ℕ → List Row → List Row
blocks zero a rs = []
blocks (suc m) a rs = map (λ r. a ∷ r) rs ++ blocks m (suc a) rs

-- all rows of k numbers below n, in order
abbrev pub all_rows : ℕ → ℕ → List Row
all_rows n zero = [] ∷ []
all_rows n (suc k) = blocks n 0 (all_rows n k)

-- the list with x in front, if b
abbrev pub cons_if : Bool → Row → List Row → List Row
cons_if true x l = x ∷ l
cons_if false x l = l

-- the rows of a list that pass a test, in the list's order
abbrev pub keep : (Row → Bool) → List Row → List Row
keep f [] = []
keep f (x ∷ xs) = cons_if (f x) x (keep f xs)

-- the query has a pair under the row, from any start
unfoldable pub satisfied : List ℕ → List ℕ → Row → Bool
satisfied t q row = any (size_of t) (λ x. any (size_of t) (λ y. related t q row (last_of q) false x y))

-- the answers of q over t for k variables
unfoldable pub answers : List ℕ → List ℕ → ℕ → List Row
answers t q k = keep (satisfied t q) (all_rows (size_of t) k)
