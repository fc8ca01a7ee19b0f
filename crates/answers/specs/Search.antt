-- How the code goes through the rows: what its inner functions ask for and give.
use Rattle.std.specs.Prelude.{ℕ, ◌≤◌, ◌<◌, ◌≡◌, Bool, true, false, List, [], ◌∷◌, length, take, get_or, Option, Some, None}
use Rattle.model.specs.Tree.{size_of, tree_of}
use Rattle.model.specs.QueryTable.{path_at, last_of}
use Rattle.model.specs.Results.{assigned}
use Rattle.model.specs.Accepted.{Below, Shaped}
use Rattle.model.specs.Answers.{Row, less, keep, satisfied, answers}
use Rattle.model.specs.Sharing.{opened, unfilled, has_pair}
use Rattle.pruning.specs.Pruning.{bound_at}
use Rattle.engines.specs.Engines.{Searchable}
use Rattle.narrowing.specs.declared.Search.{Search}
use Rattle.narrowing.specs.Narrowing.{CoreOf}
use Rattle.answers.specs.declared.Plan.{Plan}
use Rattle.model.specs.declared.PageReply.{PageReply}
use Rattle.model.specs.declared.Cursor.{Cursor}
use Rattle.model.specs.declared.Reply.{Reply}

-- Rows.

-- a place among all rows: at a row, of which the first numbers count, or past the last row
abbrev pub Spot : Type 0
Spot = Option (List ℕ)

-- the row of a spot for k variables; its numbers from k on are ignored
abbrev pub row_at : ℕ → List ℕ → Row
row_at k row = take k row

-- of rows in order, those from a spot on: its own row and the rows after it; none where the spot is past the last row
abbrev pub ahead : ℕ → List Row → Spot → List Row
ahead k rows None = []
ahead k rows (Some row) = row_at k row ∷ keep (less (row_at k row)) rows

-- a spot past the last row, or at a row of nodes
abbrev pub Stands : ℕ → ℕ → Spot → Type 0
Stands n k None = Unit
Stands n k (Some row) = Below n (row_at k row)

-- Queries.

-- a query of k variables that can be evaluated under every assignment to nodes, and opened
pub record Listed (t prev q : List ℕ) (k : ℕ) : Type 0 where
  pub searchable : Searchable t prev q k
  pub shaped : Shaped q

-- the same of a search
abbrev pub Lists : Search → Type 0
Lists s = Listed s.tree.now s.prev.now s.query.now s.k

-- the answers that a search is for
abbrev pub answers_by : Search → List Row
answers_by s = answers s.tree.now s.query.now s.k

-- the query has a pair under the row, where the variables from i on stand for any node
unfoldable pub satisfied_open : List ℕ → List ℕ → ℕ → List ℕ → ℕ → Bool
satisfied_open t q k row i = has_pair (tree_of t) (assigned (take k row)) (opened (unfilled i k) (path_at q (last_of q)))

-- what the search for answers is handed: the plan says how many variables there are and which of them must be bound, and what is left of
-- the query
pub record Prepared (plan : Plan) : Type 0 where
  pub listed : Lists plan.search
  pub bound : plan.bound ≡ bound_at plan.search.query.now (last_of plan.search.query.now)
  pub core : CoreOf plan.search.tree.now plan.search.query.now plan.search.k plan.left

-- Blocks of rows: those that begin with the same i numbers.

-- a row of k nodes below n that is the first of those that begin with its first i numbers: the numbers behind these are 0
pub record Heads (n k i : ℕ) (row : List ℕ) : Type 0 where
  pub few : k ≤ 3
  pub within : i ≤ k
  pub nodes : Below n (take k row)
  pub zeros : (j : ℕ) → i ≤ j → j < k → get_or row j 0 ≡ 0

-- i is k, or a number from `low` on, and the row's numbers from i on, of k, are 0
pub record ZerosFrom (k low : ℕ) (row : List ℕ) (i : ℕ) : Type 0 where
  pub within : i ≤ k
  pub from : i < k → low ≤ i
  pub zeros : (j : ℕ) → i ≤ j → j < k → get_or row j 0 ≡ 0

-- the row is the first of those that begin with its first i numbers, and none of them is an answer
pub record EmptyBlock (t q : List ℕ) (k i : ℕ) (row : List ℕ) : Type 0 where
  pub heads : Heads (size_of t) k i row
  pub none : (x : Row) → length x ≡ k → Below (size_of t) x → satisfied t q x ≡ true → take i x ≡ take i row → ⊥

-- Results.

-- the reply to a page call, and the cursor after it
pub record Paged : Type 0 where
  pub reply : PageReply
  pub cursor : Cursor

-- the result of the by-value page function, for an accepted call
abbrev pub page_of : ℕ → Bool → Cursor → Paged
page_of count more c = record { reply = record { number = 0; place = 0; count = count; more = more }; cursor = c }

-- the page of a refused call
abbrev pub refused_page : Reply → Cursor → Paged
refused_page v c = record { reply = record { number = v.number; place = v.place; count = 0; more = false }; cursor = c }
