-- A quick page call is one of the calls that demand 3 is about.
use Prim.Native.Nat.{ℕ}
use mathlib.Core.Bool.{true}
use mathlib.Core.List.{List}
use Rattle.model.specs.declared.Cursor.{Cursor}
use Rattle.model.specs.declared.QuickReply.{QuickReply}
use Rattle.answers.specs.Calls.{Lent, Meets}
use Rattle.quick.specs.Service.{plain_reply}
use Rattle.parties.specs.Services.{SeenQuickLeaves}

-- for the reader: a quick page that is lent l, the cursor c and a buffer, and does what its contract says, is such a call
pub quick_meets : (l : Lent) (c : Cursor) (buffer : List ℕ) (r : QuickReply) (after : Cursor) (rows : List ℕ)
    → SeenQuickLeaves l.tree l.party l.query l.columns c buffer r after rows
    → Meets c (record { quick = true; lent = l; lent_buffer = buffer; reply = plain_reply r; cursor = after; buffer = rows })
quick_meets l c buffer r after rows h = h.0
