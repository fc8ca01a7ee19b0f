-- A page of answers: a function of the answers, the cursor and the buffer that a call is lent (document 01: 'Sets, pairs and
-- walks').
use Rattle.std.specs.Prelude.{ℕ, ◌/◌, Bool, true, false, not, cond, List, [], ◌∷◌, ◌++◌, length, take, drop, get_or, eqb}
use Rattle.model.specs.declared.Cursor.{Cursor}
use Rattle.model.specs.declared.Reply.{Reply}
use Rattle.model.specs.Answers.{Row, less, keep}

-- the cursor's row for k variables; its numbers from k on are ignored
abbrev pub row_of : ℕ → Cursor → Row
row_of k c = take k (c.first ∷ c.second ∷ c.third ∷ [])

-- the cursor has begun (document 01: whether the walk has begun): every byte but 0 says so
abbrev pub has_begun : Cursor → Bool
has_begun c = not (eqb c.begun 0)

-- the rows strictly after the cursor's row, or all where the cursor has not begun; its row need not be among them
abbrev pub after : ℕ → List Row → Cursor → List Row
after k rows c = cond (has_begun c) (keep (less (row_of k c)) rows) rows

-- the cursor at a row; its numbers beyond the row are kept
abbrev pub at_row : Cursor → Row → Cursor
at_row c r = record { begun = 1; first = get_or r 0 c.first; second = get_or r 1 c.second; third = get_or r 2 c.third }

-- the cursor moved to the last of the rows; unmoved where there is none
abbrev pub moved : Cursor → List Row → Cursor
moved c [] = c
moved c (r ∷ rs) = moved (at_row c r) rs

-- the rows one after the other, as numbers
abbrev pub flat : List Row → List ℕ
flat [] = []
flat (r ∷ rs) = r ++ flat rs

-- the list is not empty
abbrev pub some : List Row → Bool
some [] = false
some (r ∷ rs) = true

-- what a page call leaves: its reply (document 01: number, place, count and flag), and the cursor (the walk) and the buffer (the
-- room) as it returns
pub record Outcome : Type 0 where
  pub number : ℕ
  pub place : ℕ
  pub count : ℕ
  pub more : Bool
  pub cursor : Cursor
  pub buffer : List ℕ

-- the rows that a page writes: the first rows after the cursor, as many as the buffer has whole room for
abbrev pub fitting : ℕ → List Row → Cursor → List ℕ → List Row
fitting k rows c buffer = take (length buffer / k) (after k rows c)

-- an accepted page call over these answers for k variables
abbrev pub paged : ℕ → List Row → Cursor → List ℕ → Outcome
paged k rows c buffer =
    record {
      number = 0;
      place = 0;
      count = length (fitting k rows c buffer);
      more = some (drop (length buffer / k) (after k rows c));
      cursor = moved c (fitting k rows c buffer);
      buffer = flat (fitting k rows c buffer) ++ drop (length (flat (fitting k rows c buffer))) buffer;
    }

-- a refused page call: nothing is altered
abbrev pub unpaged : Reply → Cursor → List ℕ → Outcome
unpaged r c buffer = record { number = r.number; place = r.place; count = 0; more = false; cursor = c; buffer = buffer }
