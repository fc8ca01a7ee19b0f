-- What a quick page call leaves, whatever it is lent (document 02, §7).
use Rattle.std.specs.Prelude.{ℕ, ◌+◌, ◌*◌, ◌≤◌, ◌≡◌, cond, List, eqb, Ok}
use Rattle.model.specs.declared.Cursor.{Cursor}
use Rattle.model.specs.declared.PageReply.{PageReply}
use Rattle.model.specs.declared.QuickReply.{QuickReply}
use Rattle.model.specs.Tree.{size_of}
use Rattle.model.specs.Answers.{answers}
use Rattle.model.specs.Pages.{after, paged}
use Rattle.model.specs.Services.{quick_outcome, PageLeaves}
use Rattle.model.specs.declared.QuickPage.{QuickPage}
use Rattle.model.specs.Refusals.{told_quick}
use Rattle.answers.specs.Search.{Paged}
use Rattle.quick.specs.Effort.{effort}

-- the reply but for the evaluations: that of a page call
abbrev pub plain_reply : QuickReply → PageReply
plain_reply r = record { number = r.number; place = r.place; count = r.count; more = r.more }

-- the evaluations that a call takes; none if it is refused
unfoldable pub quick_effort : List ℕ → List ℕ → ℕ → Cursor → List ℕ → ℕ
quick_effort t q columns c buffer =
    cond (eqb (quick_outcome t q columns c buffer).number 0)
    (effort (size_of t) columns c (after columns (answers t q columns) c) (quick_outcome t q columns c buffer).count)
    0

-- a quick page call that is lent a tree, a query, a number of variables, a cursor and a buffer replies r and leaves the cursor and the
-- buffer so: the outcome is that of the model; the evaluations are those of the search; and they are at most 6 × n for each row written
-- and as many for the flag
abbrev pub QuickLeaves : List ℕ → List ℕ → ℕ → Cursor → List ℕ → QuickReply → Cursor → List ℕ → Type 0
QuickLeaves t q columns c buffer r cursor rows =
    PageLeaves (quick_outcome t q columns c buffer) (plain_reply r) cursor rows
    × ((r.evaluations ≡ quick_effort t q columns c buffer) × (r.evaluations ≤ 6 * size_of t * (r.count + 1)))

-- what is asked of the function that writes the page of an accepted call
abbrev pub PageWritten : List ℕ → List ℕ → ℕ → Cursor → List ℕ → QuickPage → List ℕ → Type 0
PageWritten t q k c buffer r rows =
    PageLeaves (paged k (answers t q k) c buffer) (plain_reply (told_quick (Ok r))) r.page.cursor rows
    × ((r.evaluations ≤ 6 * size_of t * (r.page.count + 1))
    × (r.evaluations ≡ effort (size_of t) k c (after k (answers t q k) c) r.page.count))

-- The results of the by-value functions.

-- the reply to a quick page call, and the cursor after it
pub record Quick : Type 0 where
  pub reply : QuickReply
  pub cursor : Cursor

-- a page with the evaluations that it took
abbrev pub counted_of : Paged → ℕ → Quick
counted_of p evaluations =
    record {
      reply = record { number = p.reply.number; place = p.reply.place; count = p.reply.count; more = p.reply.more; evaluations = evaluations };
      cursor = p.cursor;
    }

-- a page without them
abbrev pub plain_of : Quick → Paged
plain_of p = record { reply = plain_reply p.reply; cursor = p.cursor }
