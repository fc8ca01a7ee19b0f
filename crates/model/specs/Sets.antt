-- Sets of nodes and relations between nodes, as Boolean tests, and the bytes that hold a set.
--
-- How to read these files. `f : A → B → C` says that f takes an A and a B to a C; the lines below it define it, case by case.
-- `pub`, `abbrev` and `unfoldable` only tell the prover who may use a name and how. `suc n` is n + 1. `[]` is the empty list,
-- `x ∷ xs` is xs with x in front, and `++` joins lists; `length l` is the number of elements, `take k l` the first k of them and
-- `drop k l` the rest; `get_or l i d` is element i of l, or d past its end. `ltb x y`, `leb x y` and `eqb x y` are the tests x < y,
-- x ≤ y and x = y, and so are `nat_lt x y` for the first and `x == y` for the last; `&&`, `||` and `not` join tests; `cond b x y` is x
-- if b, else y. `λ x. e` takes x to e. `record { a = x; .. }` makes a record, and `t.size` is a field of t. Where a type is a
-- statement, `x ≡ y` says that the two are equal, `(x : A) → P` that P holds for every x, `(x : A) × P` that it holds for some x, and
-- `P × Q` that both hold.
use Rattle.std.specs.Prelude.{ℕ, zero, suc, ◌+◌, Bool, true, false, not, ◌&&◌, ◌||◌, List, [], ◌∷◌, get_or, ltb, eqb}

-- some number below n passes f: 'there is a node' (proofs/Exists.antt: any_iff)
unfoldable pub any : ℕ → (ℕ → Bool) → Bool
any zero f = false
any (suc n) f = f n || any n f

-- a test as a byte
abbrev pub bit : Bool → ℕ
bit true = 1
bit false = 0

-- the n bytes of a set (document 01: a set is n bytes, each 0 or 1)
unfoldable pub tab : ℕ → (ℕ → Bool) → List ℕ
tab zero S = []
tab (suc n) S = bit (S zero) ∷ tab n (λ k. S (suc k))

-- how many bytes of a list are 1: of a set, how many nodes it has (document 02: the count; proofs/Counts.antt: ones_places)
unfoldable pub ones : List ℕ → ℕ
ones [] = 0
ones (b ∷ s) = bit (eqb b 1) + ones s

-- x is in the set that the bytes hold
unfoldable pub memb : List ℕ → ℕ → Bool
memb s x = not (eqb (get_or s x 0) 0)

-- the part of a set below n
unfoldable pub upto : ℕ → (ℕ → Bool) → ℕ → Bool
upto n S k = ltb k n && S k

-- a relation, or its converse where the flag is set
abbrev pub turn : Bool → (ℕ → ℕ → Bool) → ℕ → ℕ → Bool
turn true R x y = R y x
turn false R x y = R x y

-- steps of a relation lead from x to y, or y is x, and all nodes between are below k
unfoldable pub via : (ℕ → ℕ → Bool) → ℕ → ℕ → ℕ → Bool
via R zero x y = eqb x y || R x y
via R (suc k) x y = via R k x y || (via R k x k && via R k k y)

-- the reflexive and transitive closure of a relation among n nodes: the least that contains it (proofs/Closure.antt)
abbrev pub closed : ℕ → (ℕ → ℕ → Bool) → ℕ → ℕ → Bool
closed n R x y = via R n x y

-- the image of a set under a relation among n nodes: y is in it exactly if some x of the set has (x, y)
unfoldable pub image : ℕ → (ℕ → ℕ → Bool) → (ℕ → Bool) → ℕ → Bool
image n R S = upto n (λ y. any n (λ x. S x && R x y))
