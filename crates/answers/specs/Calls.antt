-- A list of page calls, plain and quick ones (document 02, §7) in any order, over shared tables and for parties (§8), and what demand 3
-- says of it.
use Rattle.std.specs.Prelude.{ℕ, zero, suc, ◌+◌, ◌*◌, ◌/◌, min, ◌≡◌, Bool, true, false, cond, List, [], ◌∷◌, ◌++◌, ltb, eqb, length, take, drop}
use Rattle.model.specs.declared.Cursor.{Cursor}
use Rattle.model.specs.declared.PageReply.{PageReply}
use Rattle.model.specs.Answers.{Row, answers}
use Rattle.model.specs.Pages.{Outcome, has_begun, after, moved}
use Rattle.model.specs.Parties.{seen_table}
use Rattle.model.specs.Services.{seen_page, seen_quick, PageLeaves}

-- Calls.

-- what a page call is lent beside its cursor and its buffer
pub record Lent : Type 0 where
  pub tree : List ℕ
  pub party : ℕ
  pub query : List ℕ
  pub columns : ℕ

-- whose answers a call pages through: the tree that its party sees, the query and the number of variables
pub record Listing : Type 0 where
  pub tree : List ℕ
  pub query : List ℕ
  pub columns : ℕ

-- the listing of what a call is lent
abbrev pub listing_of : Lent → Listing
listing_of l = record { tree = seen_table l.tree l.party; query = l.query; columns = l.columns }

-- one page call as it went: whether it was a quick one, what it was lent, its buffer as it was lent, its reply (of a quick one that
-- but for the evaluations), and its cursor and its buffer as it returned
pub record Call : Type 0 where
  pub quick : Bool
  pub lent : Lent
  pub lent_buffer : List ℕ
  pub reply : PageReply
  pub cursor : Cursor
  pub buffer : List ℕ

-- the outcome that the contract of `page` says, or that of the quick page, of a call that is lent l, the cursor c and a buffer
abbrev pub outcome_of : Bool → Lent → Cursor → List ℕ → Outcome
outcome_of quick l c buffer =
    cond quick
    (seen_quick l.tree l.party l.query l.columns c buffer)
    (seen_page l.tree l.party l.query l.columns c buffer)

-- the call, lent the cursor c, did what its contract says
abbrev pub Meets : Cursor → Call → Type 0
Meets c g = PageLeaves (outcome_of g.quick g.lent c g.lent_buffer) g.reply g.cursor g.buffer

-- each call did, and was lent the cursor as the call before it left it, the first c
abbrev pub Chain : Cursor → List Call → Type 0
Chain c [] = Unit
Chain c (g ∷ gs) = Meets c g × Chain g.cursor gs

-- a call that is asked for: whether a quick one, what it is lent, and its buffer
abbrev pub Asked : Type 0
Asked = Bool × Lent × List ℕ

-- what was asked for in a list of calls
abbrev pub lent_to : List Call → List Asked
lent_to [] = []
lent_to (g ∷ gs) = (g.quick, g.lent, g.lent_buffer) ∷ lent_to gs

-- there are calls, from the cursor c on, that are asked for in ls, and there is only one list of them
pub record OneChain (c : Cursor) (ls : List Asked) : Type 0 where
  pub calls : List Call
  pub lent : lent_to calls ≡ ls
  pub chain : Chain c calls
  pub only : (gs : List Call) → lent_to gs ≡ ls → Chain c gs → gs ≡ calls

-- the call was accepted
abbrev pub accepted : Call → Bool
accepted g = eqb g.reply.number 0

-- the first `count` rows of k numbers in a buffer
abbrev pub rows_in : ℕ → ℕ → List ℕ → List Row
rows_in k zero buffer = []
rows_in k (suc count) buffer = take k buffer ∷ rows_in k count (drop k buffer)

-- the rows that a call wrote: the first of its buffer, as many as its count, read as it returned
abbrev pub rows_of : Call → List Row
rows_of g = rows_in g.lent.columns g.reply.count g.buffer

-- the whole rows that a call's buffer has room for: its numbers divided by the number of variables, rounded down
abbrev pub whole_rows : Call → ℕ
whole_rows g = length g.lent_buffer / g.lent.columns

-- the answers of a listing
abbrev pub answers_of : Listing → List Row
answers_of l = answers l.tree l.query l.columns

-- those of them that stand after a cursor's row; all of them where the cursor has not begun
abbrev pub answers_after : Listing → Cursor → List Row
answers_after l c = after l.columns (answers_of l) c

-- One call, whatever it is lent.

-- the cursor that a call was lent, after the calls before it, of which the first was lent c
abbrev pub cursor_after : Cursor → List Call → Cursor
cursor_after c [] = c
cursor_after c (g ∷ gs) = cursor_after g.cursor gs

-- the number of rows that document 01 puts on the page of a call that was lent the cursor c: the rows after the cursor or, if
-- they are fewer, the whole rows of its buffer
abbrev pub due : Cursor → Call → ℕ
due c g = min (length (answers_after (listing_of g.lent) c)) (whole_rows g)

-- what an accepted call did that was lent the cursor c: its count is the number of rows due; it wrote so many of the rows after
-- the cursor, the first of them, and kept the numbers beyond; it says that there is more exactly if there are rows after those;
-- the cursor moved to the last row written, and is unmoved with none written
pub record Page (c : Cursor) (g : Call) : Type 0 where
  pub count : g.reply.count ≡ due c g
  pub rows : rows_of g ≡ take (due c g) (answers_after (listing_of g.lent) c)
  pub beyond : drop (due c g * g.lent.columns) g.buffer ≡ drop (due c g * g.lent.columns) g.lent_buffer
  pub more : g.reply.more ≡ ltb (due c g) (length (answers_after (listing_of g.lent) c))
  pub cursor : g.cursor ≡ moved c (rows_of g)

-- what a refused call did that was lent the cursor c: nothing
pub record NoPage (c : Cursor) (g : Call) : Type 0 where
  pub count : g.reply.count ≡ 0
  pub more : g.reply.more ≡ false
  pub cursor : g.cursor ≡ c
  pub buffer : g.buffer ≡ g.lent_buffer

-- Calls that page through the same answers.

-- every accepted call pages through l, be it quick or not: its party sees that tree, and it was lent that query and number of variables;
-- a refused one may have been lent anything
abbrev pub Alike : Listing → List Call → Type 0
Alike l [] = Unit
Alike l (g ∷ gs) = (accepted g ≡ true → listing_of g.lent ≡ l) × Alike l gs

-- the rows that the calls wrote, in the order of the calls
abbrev pub rows_given : List Call → List Row
rows_given [] = []
rows_given (g ∷ gs) = rows_of g ++ rows_given gs

-- the whole rows that a call had room for, where it was accepted; else 0
abbrev pub room_of : Call → ℕ
room_of g = cond (accepted g) (whole_rows g) 0

-- the sum of the whole rows that the accepted calls had room for
abbrev pub rooms : List Call → ℕ
rooms [] = 0
rooms (g ∷ gs) = room_of g + rooms gs

-- how many of the rows the calls have gone through (document 01: m): as many as there was room for, and no more than there are
abbrev pub progress : List Row → List Call → ℕ
progress rows gs = min (length rows) (rooms gs)

-- what a call told, after the calls before it: its count is what it added to m; accepted, it says that there is more
-- exactly if m is then below the number of rows
pub record Tells (rows : List Row) (before : List Call) (g : Call) : Type 0 where
  pub count : progress rows (before ++ (g ∷ [])) ≡ progress rows before + g.reply.count
  pub more : accepted g ≡ true → g.reply.more ≡ ltb (progress rows (before ++ (g ∷ []))) (length rows)

-- the calls page through the rows: what they wrote is the first m of them, and each call told the truth
pub record Paging (rows : List Row) (gs : List Call) : Type 0 where
  pub written : rows_given gs ≡ take (progress rows gs) rows
  pub each : (before later : List Call) (g : Call) → gs ≡ before ++ (g ∷ later) → Tells rows before g

-- Demand 3, of calls from the cursor c on: each page, whatever the cursor and whatever else each call was lent, is the one that
-- is due; and where all accepted calls are for the same listing, they page through its answers, if the cursor was fresh, and through those
-- after it from any other.
pub record Demand3 (c : Cursor) (gs : List Call) : Type 0 where
  pub page : (before later : List Call) (g : Call) → gs ≡ before ++ (g ∷ later) → accepted g ≡ true → Page (cursor_after c before) g
  pub refused : (before later : List Call) (g : Call) → gs ≡ before ++ (g ∷ later) → accepted g ≡ false → NoPage (cursor_after c before) g
  pub fresh : (l : Listing) → Alike l gs → has_begun c ≡ false → Paging (answers_of l) gs
  pub resumed : (l : Listing) → Alike l gs → Paging (answers_after l c) gs
