-- A piece of the output: a function of the file, of where the output stands, and of the size of the buffer that a call is lent.
use Rattle.std.specs.Prelude.{◌≡◌, ℕ, ◌+◌, ◌/◌, ◌%◌, ◌^◌, min, Bool, true, false, cond, not, List, [], ◌++◌, length, take, drop, ◌==◌, nat_lt}
use Rattle.model.specs.declared.Reply.{Reply}
use Rattle.model.specs.Answers.{Row, answers}
use Rattle.model.specs.Pages.{after, moved, some}
use Rattle.model.specs.Refusals.{verdict, reply}
use Rattle.model.specs.Checks.{page_checks}
use Rattle.model.specs.Parties.{over_seen}
use Rattle.job.specs.JobFile.{Job, numbers, file_checks, job_of}
use Rattle.lines.specs.Lines.{end_line, refused_line}
use Rattle.model.specs.declared.Page.{Page}
use Rattle.output.specs.declared.Position.{Position}
use Rattle.output.specs.declared.Piece.{Piece}
use Rattle.output.specs.Output.{shared_of, lines_of}

-- before the first piece: a fresh cursor, and no row written
abbrev pub beginning : Position
beginning = record { cursor = record { begun = 0; first = 0; second = 0; third = 0 }; total = 0; listed = false }

-- the bytes that a buffer must have: the longest line is 'end ', a number of 20 digits, and the line's end
abbrev pub smallest : ℕ
smallest = 25

-- how many numbers of rows a piece has, in a buffer of so many bytes: a number takes at most six bytes with what follows it. No
-- piece has more than 3,072, which are whole rows for 1, 2 and 3 variables
abbrev pub numbers_for : ℕ → ℕ
numbers_for room = min (room / 6) 3072

-- a piece: the verdict, its bytes, whether it is the last, and where the output stands after it
pub record PieceOutcome : Type 0 where
  pub reply : Reply
  pub bytes : List ℕ
  pub last : Bool
  pub next : Position

-- the buffer is too short: 20, nothing is written, and the output stands where it stood
abbrev pub too_short : Position → PieceOutcome
too_short at = record { reply = reply 20 0; bytes = []; last = false; next = at }

-- a refusal: the one line that tells it
abbrev pub refused_piece : Reply → Position → PieceOutcome
refused_piece r at = record { reply = r; bytes = refused_line r.number r.place; last = true; next = at }

-- all rows are written: the line after them
abbrev pub end_piece : Position → PieceOutcome
end_piece at = record { reply = reply 0 0; bytes = end_line at.total; last = true; next = at }

-- some rows, and whether there are more behind them
abbrev pub rows_piece : Position → List Row → Bool → PieceOutcome
rows_piece at rows more =
    record {
      reply = reply 0 0;
      bytes = lines_of rows;
      last = false;
      next = record { cursor = moved at.cursor rows; total = (at.total + length rows) % 2 ^ 64; listed = not more };
    }

-- where the output stands after a page
abbrev pub after_page : Position → Page → Position
after_page at page = record { cursor = page.cursor; total = (at.total + page.count) % 2 ^ 64; listed = not page.more }

-- of a tree, a query and its number of variables: the first answers after the position's cursor, as many as there is room for;
-- or the refusal of a page call that is lent them, 5 to 15 and 17
unfoldable pub tables_piece : List ℕ → List ℕ → ℕ → Position → ℕ → PieceOutcome
tables_piece t q columns at room =
    cond ((verdict (page_checks t q columns at.cursor (numbers_for room))).number == 0)
    (rows_piece at (take (numbers_for room / columns) (after columns (answers t q columns) at.cursor))
    (some (drop (numbers_for room / columns) (after columns (answers t q columns) at.cursor))))
    (refused_piece (verdict (page_checks t q columns at.cursor (numbers_for room))) at)

-- of a shared table for a party: the same of the tree that the party sees, or the refusal of table or party, 5 to 7, 30 and 31
unfoldable pub shared_piece : List ℕ → ℕ → List ℕ → ℕ → Position → ℕ → PieceOutcome
shared_piece t party q columns at room = over_seen t party (λ v. refused_piece v at) (λ u. tables_piece u q columns at room)

-- of an opened file: the same of what it holds
unfoldable pub job_piece : List ℕ → Job → Position → ℕ → PieceOutcome
job_piece file job at room =
    shared_piece (shared_of file job.tree job.owners) job.party
    (numbers file job.query.start job.query.count) job.columns at room

-- of a file: the same, or its refusal, 1 to 4
unfoldable pub list_piece : List ℕ → Position → ℕ → PieceOutcome
list_piece file at room =
    cond ((verdict (file_checks file)).number == 0) (job_piece file (job_of file) at room) (refused_piece (verdict (file_checks file)) at)

-- the next piece of the output of a file, from a position on, in a buffer of so many bytes
unfoldable pub piece_outcome : List ℕ → Position → ℕ → PieceOutcome
piece_outcome file at room = cond (nat_lt room smallest) (too_short at) (cond at.listed (end_piece at) (list_piece file at room))

-- a piece, and a buffer as it was left, are those of the outcome: its bytes over the buffer's front, all later ones as they were
abbrev pub PieceLeaves : PieceOutcome → List ℕ → Piece → List ℕ → Type 0
PieceLeaves o buffer p out =
    (p ≡ record { reply = o.reply; count = length o.bytes; last = o.last; next = o.next })
    × (out ≡ o.bytes ++ drop (length o.bytes) buffer)
