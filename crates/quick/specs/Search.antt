-- How the next answer is found variable by variable: what the inner functions ask for and give.
use Rattle.std.specs.Prelude.{ℕ, suc, ◌+◌, ◌*◌, ◌≤◌, ◌<◌, ◌≡◌, Bool, true, false, List, [], ◌∷◌, length, take, drop, get_or, set, Option, Some, None, MatchOption}
use Rattle.model.specs.declared.Cursor.{Cursor}
use Rattle.model.specs.Tree.{size_of}
use Rattle.model.specs.QueryTable.{path_at, last_of}
use Rattle.model.specs.Answers.{Row, less, keep, satisfied, answers}
use Rattle.model.specs.Pages.{after}
use Rattle.model.specs.Accepted.{Below}
use Rattle.model.specs.Sharing.{Unshared}
use Rattle.narrowing.specs.declared.Search.{Search}
use Rattle.answers.specs.Search.{row_at, ahead, Listed, satisfied_open}
use Rattle.quick.specs.declared.Tried.{Tried}
use Rattle.quick.specs.declared.Found.{Found}
use Rattle.quick.specs.Effort.{descended, sought, sought_after}

-- a query of k variables that keeps the rule, over a tree with its links
pub record Ready (t prev q : List ℕ) (k : ℕ) : Type 0 where
  pub listed : Listed t prev q k
  pub rule : Unshared (path_at q (last_of q))

-- the same of a search
abbrev pub ReadyFor : Search → Type 0
ReadyFor s = Ready s.tree.now s.prev.now s.query.now s.k

-- x is an answer: it has one node for each variable, and the query has a pair under it
abbrev pub Answer : List ℕ → List ℕ → ℕ → Row → Type 0
Answer t q k x = (length x ≡ k) × Below (size_of t) x × (satisfied t q x ≡ true)

-- Rows, as three numbers of which the first k count.

-- they are nodes
abbrev pub Nodes : ℕ → ℕ → List ℕ → Type 0
Nodes n k row = (j : ℕ) → j < k → get_or row j 0 < n

-- two rows have the same first i numbers
abbrev pub Same : ℕ → List ℕ → List ℕ → Type 0
Same i r s = (j : ℕ) → j < i → get_or r j 0 ≡ get_or s j 0

-- the first i numbers of r stand before those of s: the first in which they differ is smaller
abbrev pub Before : ℕ → List ℕ → List ℕ → Type 0
Before i r s = (c : ℕ) × (c < i) × Same c r s × (get_or r c 0 < get_or s c 0)

-- One evaluation.

-- a query has a pair under the row with v in place of its number i
unfoldable pub passes : List ℕ → List ℕ → ℕ → List ℕ → ℕ → ℕ → Bool
passes t q k row i v = satisfied t q (take k (set row i v))

-- the same where the variables behind that stand for any node
unfoldable pub goes_on : List ℕ → List ℕ → ℕ → List ℕ → ℕ → ℕ → Bool
goes_on t q k row i v = satisfied_open t q k (set row i v) (i + 1)

-- the query has a pair where all variables do
abbrev pub some_answer : List ℕ → List ℕ → ℕ → Bool
some_answer t q k = satisfied_open t q k (0 ∷ 0 ∷ 0 ∷ []) 0

-- The search.

-- v is the lowest number from `from` on that passes f, or n where none below n does
pub record Lowest (f : ℕ → Bool) (from n v : ℕ) : Type 0 where
  pub low : from ≤ v
  pub within : v ≤ n
  pub least : (u : ℕ) → from ≤ u → u < v → f u ≡ false
  pub holds : v < n → f v ≡ true

-- the evaluations after those numbers were tried: one for each, and those before them
abbrev pub Tries : ℕ → ℕ → ℕ → ℕ → ℕ → Type 0
Tries from n v before evaluations = (v < n → evaluations + from ≡ before + suc v) × (n ≤ v → evaluations + from ≡ before + n)

-- the number that was found, or n where none was
abbrev pub number_of : ℕ → Option ℕ → ℕ
number_of n None = n
number_of n (Some v) = v

-- a number that was found is below n
abbrev pub IsBelow : ℕ → Option ℕ → Type 0
IsBelow n None = Unit
IsBelow n (Some v) = v < n

-- what is asked of a number that is sought from one on among those below n, by a test f, after so many evaluations
abbrev pub Seeks : (ℕ → Bool) → ℕ → ℕ → ℕ → Tried → Type 0
Seeks f from n spent r =
    IsBelow n r.number
    × (Lowest f from n (number_of n r.number) × ((r.evaluations ≤ spent + n) × Tries from n (number_of n r.number) spent r.evaluations))

-- some answer begins as the first i numbers of the row
pub record Begins (t q : List ℕ) (k i : ℕ) (row : List ℕ) : Type 0 where
  pub one : Row
  pub answer : Answer t q k one
  pub same : Same i one row

-- the row s is the first of the answers that begin as the first i numbers of the row
pub record First (t q : List ℕ) (k i : ℕ) (row s : List ℕ) : Type 0 where
  pub answer : Answer t q k (row_at k s)
  pub same : Same i s row
  pub first : (x : Row) → Answer t q k x → Same i x row → Before k x s → ⊥

-- what is asked of the first answer that begins as the first i numbers of the row, after so many evaluations: there is one
abbrev pub FirstFrom : List ℕ → List ℕ → ℕ → ℕ → List ℕ → ℕ → Found → Type 0
FirstFrom t q k i row spent r =
    MatchOption r.spot ⊥
    (λ s. First t q k i row s × ((r.evaluations ≤ spent + 3 * size_of t) × (r.evaluations ≡ spent + descended (drop i (row_at k s)))))

-- what is asked of the first answer after a row
abbrev pub Sought : List ℕ → List ℕ → ℕ → List ℕ → Found → Type 0
Sought t q k row r =
    (ahead k (answers t q k) r.spot ≡ keep (less (take k row)) (answers t q k))
    × ((r.evaluations ≤ 6 * size_of t)
    × (r.evaluations ≡ sought (size_of t) (take k row) (keep (less (take k row)) (answers t q k))))

-- what is asked of the first answer after a cursor's row, or of the first of all
abbrev pub SoughtAfter : List ℕ → List ℕ → ℕ → Cursor → Found → Type 0
SoughtAfter t q k c r =
    (ahead k (answers t q k) r.spot ≡ after k (answers t q k) c)
    × ((r.evaluations ≤ 6 * size_of t) × (r.evaluations ≡ sought_after (size_of t) k c (after k (answers t q k) c)))

-- the result of a search that finds no answer
abbrev pub no_answer : ℕ → Found
no_answer evaluations = record { spot = None; evaluations = evaluations }
