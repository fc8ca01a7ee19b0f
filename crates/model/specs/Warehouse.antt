-- The teaching warehouse and its starred lines, as one list: what the services reply, and leave of what each call was lent.
-- proofs/Starred.antt proves the one claim that every line of the list is correct.
use Rattle.std.specs.Prelude.{ℕ, ◌+◌, ◌≡◌, Bool, true, false, ◌||◌, List, [], ◌∷◌, ◌++◌, length, replicate, eqb}
use Rattle.model.specs.declared.Cursor.{Cursor}
use Rattle.model.specs.Sets.{tab}
use Rattle.model.specs.Tree.{size_of}
use Rattle.model.specs.Pages.{Outcome}
use Rattle.model.specs.Refusals.{reply, counting}
use Rattle.model.specs.Services.{ImageLeaves, page_outcome}

-- parent, tag of nodes 0 to 5
unfoldable pub warehouse : List ℕ
warehouse = 65535 ∷ 1 ∷ 0 ∷ 2 ∷ 1 ∷ 3 ∷ 1 ∷ 3 ∷ 0 ∷ 2 ∷ 4 ∷ 3 ∷ []

-- a tree of one node
unfoldable pub one_node : List ℕ
one_node = 65535 ∷ 1 ∷ []

-- a starred line
pub data Line : Type 0 where
  -- a tree, a query without variables, the nodes of the start set, and the nodes that it reaches
  forwards : List ℕ → List ℕ → List ℕ → List ℕ → Line
  -- the same, and the nodes that reach it
  backwards : List ℕ → List ℕ → List ℕ → List ℕ → Line
  -- a query over the warehouse, its number of variables, a cursor, how many numbers the buffer of each call has, and the outcomes
  -- of page calls in turn
  pages : List ℕ → ℕ → Cursor → ℕ → List Outcome → Line

-- x is one of the numbers
unfoldable pub among : List ℕ → ℕ → Bool
among [] x = false
among (y ∷ ys) x = eqb x y || among ys x

-- the bytes of the set of these nodes of a tree
unfoldable pub set_of : List ℕ → List ℕ → List ℕ
set_of t xs = tab (size_of t) (among xs)

-- forwards, or backwards where back is set, accepts the call, counts the nodes of the second set, and writes that set over the front
-- of the buffer, which has two bytes more and is lent with 7 in each
unfoldable pub Reaches : List ℕ → List ℕ → Bool → List ℕ → List ℕ → Type 0
Reaches t q back from to =
    ImageLeaves t q 0 [] back (set_of t from) (replicate (size_of t + 2) 7) (counting (reply 0 0) (length to)) (set_of t to ++ (7 ∷ 7 ∷ []))

-- page calls in turn, each lent the cursor that the one before it left and a buffer with 7 in each number, have these outcomes
unfoldable pub InTurn : List ℕ → ℕ → Cursor → ℕ → List Outcome → Type 0
InTurn q k c room [] = Unit
InTurn q k c room (o ∷ os) = (page_outcome warehouse q k c (replicate room 7) ≡ o) × InTurn q k o.cursor room os

-- the line is what the services do
unfoldable pub Correct : Line → Type 0
Correct (forwards t q from to) = Reaches t q false from to
Correct (backwards t q from to) = Reaches t q true from to
Correct (pages q k c room os) = InTurn q k c room os

-- every line of the list is correct
unfoldable pub AllCorrect : List Line → Type 0
AllCorrect [] = Unit
AllCorrect (l ∷ ls) = Correct l × AllCorrect ls

-- a cursor that has not begun (document 01: a fresh walk); its numbers are of no account, and are no nodes here
abbrev pub fresh : Cursor
fresh = record { begun = 0; first = 9; second = 9; third = 9 }

-- a cursor begun at the row (a, b), or for one variable at (a); the numbers beyond the row are of no account
abbrev pub begun_at : ℕ → ℕ → Cursor
begun_at a b = record { begun = 1; first = a; second = b; third = 9 }

-- a cursor begun at (1, 4), which is no answer; every byte but 0 says that it has begun
abbrev pub between : Cursor
between = record { begun = 130; first = 1; second = 4; third = 9 }

-- the outcome of an accepted page call: how many rows it wrote, whether there is more, and the cursor and the buffer as it left them
abbrev pub page : ℕ → Bool → Cursor → List ℕ → Outcome
page count more c buffer = record { number = 0; place = 0; count = count; more = more; cursor = c; buffer = buffer }

-- the queries of the lines, four numbers an entry: kind, left, right, tag

-- following::*
unfoldable pub following_any : List ℕ
following_any = 0 ∷ 7 ∷ 0 ∷ 65535 ∷ []

-- preceding::*
unfoldable pub preceding_any : List ℕ
preceding_any = 0 ∷ 8 ∷ 0 ∷ 65535 ∷ []

-- right::*
unfoldable pub right_any : List ℕ
right_any = 0 ∷ 3 ∷ 0 ∷ 65535 ∷ []

-- parent::*
unfoldable pub parent_any : List ℕ
parent_any = 0 ∷ 2 ∷ 0 ∷ 65535 ∷ []

-- child::3
unfoldable pub child_pallet : List ℕ
child_pallet = 0 ∷ 1 ∷ 0 ∷ 3 ∷ []

-- self::* intersect right::*
unfoldable pub self_and_right : List ℕ
self_and_right = 0 ∷ 0 ∷ 0 ∷ 65535 ∷ 0 ∷ 3 ∷ 0 ∷ 65535 ∷ 3 ∷ 0 ∷ 1 ∷ 0 ∷ []

-- descendant::* except child::*
unfoldable pub below_children : List ℕ
below_children = 0 ∷ 5 ∷ 0 ∷ 65535 ∷ 0 ∷ 1 ∷ 0 ∷ 65535 ∷ 4 ∷ 0 ∷ 1 ∷ 0 ∷ []

-- child::2[child::3 and not(right::*)]
unfoldable pub last_bay : List ℕ
last_bay =
    0 ∷ 1 ∷ 0 ∷ 2
    ∷ 0 ∷ 1 ∷ 0 ∷ 3
    ∷ 8 ∷ 1 ∷ 0 ∷ 0
    ∷ 0 ∷ 3 ∷ 0 ∷ 65535
    ∷ 8 ∷ 3 ∷ 0 ∷ 0
    ∷ 9 ∷ 4 ∷ 0 ∷ 0
    ∷ 10 ∷ 2 ∷ 5 ∷ 0
    ∷ 5 ∷ 0 ∷ 6 ∷ 0
    ∷ []

-- /child::2
unfoldable pub root_bays : List ℕ
root_bays = 0 ∷ 1 ∷ 0 ∷ 2 ∷ 7 ∷ 0 ∷ 0 ∷ 0 ∷ []

-- self::NAME union child::2[. is $0]
unfoldable pub self_or_bay : ℕ → List ℕ
self_or_bay name =
    0 ∷ 0 ∷ 0 ∷ name
    ∷ 0 ∷ 1 ∷ 0 ∷ 2
    ∷ 12 ∷ 0 ∷ 0 ∷ 0
    ∷ 5 ∷ 1 ∷ 2 ∷ 0
    ∷ 2 ∷ 0 ∷ 3 ∷ 0
    ∷ []

-- descendant::2[. is $0]/child::3[. is $1]
unfoldable pub bay_and_pallet : List ℕ
bay_and_pallet =
    0 ∷ 5 ∷ 0 ∷ 2
    ∷ 12 ∷ 0 ∷ 0 ∷ 0
    ∷ 5 ∷ 0 ∷ 1 ∷ 0
    ∷ 0 ∷ 1 ∷ 0 ∷ 3
    ∷ 12 ∷ 1 ∷ 0 ∷ 0
    ∷ 5 ∷ 3 ∷ 4 ∷ 0
    ∷ 1 ∷ 2 ∷ 5 ∷ 0
    ∷ []

-- the pages of these rows with room for two rows and one number: (1, 2) and (1, 3), and there is more; (4, 5); none
unfoldable pub pages_of_two : List Outcome
pages_of_two =
    page 2 true (begun_at 1 3) (1 ∷ 2 ∷ 1 ∷ 3 ∷ 7 ∷ [])
    ∷ page 1 false (begun_at 4 5) (4 ∷ 5 ∷ 7 ∷ 7 ∷ 7 ∷ [])
    ∷ page 0 false (begun_at 4 5) (7 ∷ 7 ∷ 7 ∷ 7 ∷ 7 ∷ [])
    ∷ []

-- the starred lines, in document 01's order
unfoldable pub starred : List Line
starred =
    forwards warehouse following_any (2 ∷ []) (3 ∷ 4 ∷ 5 ∷ [])
    ∷ forwards warehouse following_any (1 ∷ []) (4 ∷ 5 ∷ [])
    ∷ forwards warehouse preceding_any (5 ∷ []) (1 ∷ 2 ∷ 3 ∷ [])
    ∷ forwards warehouse right_any (1 ∷ []) (4 ∷ [])
    ∷ forwards warehouse right_any (3 ∷ []) []
    ∷ backwards warehouse child_pallet (2 ∷ 5 ∷ []) (1 ∷ 4 ∷ [])
    ∷ forwards warehouse self_and_right (1 ∷ 4 ∷ []) []
    ∷ forwards warehouse below_children (0 ∷ 1 ∷ []) (2 ∷ 3 ∷ 5 ∷ [])
    ∷ forwards warehouse last_bay (0 ∷ []) (4 ∷ [])
    ∷ forwards warehouse root_bays (5 ∷ []) (1 ∷ 4 ∷ [])
    ∷ forwards one_node parent_any (0 ∷ []) []
    ∷ pages (self_or_bay 1) 1 fresh 7 (page 6 false (begun_at 5 9) (0 ∷ 1 ∷ 2 ∷ 3 ∷ 4 ∷ 5 ∷ 7 ∷ []) ∷ [])
    ∷ pages (self_or_bay 9) 1 fresh 7 (page 2 false (begun_at 4 9) (1 ∷ 4 ∷ 7 ∷ 7 ∷ 7 ∷ 7 ∷ 7 ∷ []) ∷ [])
    ∷ pages bay_and_pallet 2 fresh 8 (page 3 false (begun_at 4 5) (1 ∷ 2 ∷ 1 ∷ 3 ∷ 4 ∷ 5 ∷ 7 ∷ 7 ∷ []) ∷ [])
    ∷ pages bay_and_pallet 2 fresh 5 pages_of_two
    ∷ pages bay_and_pallet 2 between 5 (page 1 false (begun_at 4 5) (4 ∷ 5 ∷ 7 ∷ 7 ∷ 7 ∷ []) ∷ [])
    ∷ []
