-- The services as total functions: from all that a call is lent to its reply, and to each lent buffer and cursor as the call
-- leaves it. Contracts and theorems are both over these definitions.
use Rattle.std.specs.Prelude.{ℕ, ◌≡◌, Bool, cond, List, eqb, length}
use Rattle.model.specs.declared.Reply.{Reply}
use Rattle.model.specs.declared.ImageReply.{ImageReply}
use Rattle.model.specs.declared.MadeReply.{MadeReply}
use Rattle.model.specs.declared.PageReply.{PageReply}
use Rattle.model.specs.declared.Cursor.{Cursor}
use Rattle.model.specs.Sets.{ones}
use Rattle.model.specs.Results.{image_bytes, pairs_bytes}
use Rattle.model.specs.Answers.{Row, answers}
use Rattle.model.specs.Pages.{Outcome, paged, unpaged}
use Rattle.model.specs.Refusals.{counting, making, verdict, written}
use Rattle.model.specs.Checks.{image_checks, pairs_checks, page_checks, quick_checks}
use Rattle.model.specs.Parties.{over_seen}

-- the verdict of forwards and of backwards: on a tree, a query, its number of variables and their nodes, a set, and the buffer
abbrev pub image_verdict : List ℕ → List ℕ → ℕ → List ℕ → List ℕ → List ℕ → Reply
image_verdict t q columns nodes from to = verdict (image_checks t q columns nodes from (length to))

-- the reply of forwards, or of backwards where back is set: the verdict, and the number of 1 bytes in the result, 0 at a refusal
abbrev pub image_reply : List ℕ → List ℕ → ℕ → List ℕ → Bool → List ℕ → List ℕ → ImageReply
image_reply t q columns nodes back from to =
    counting (image_verdict t q columns nodes from to)
    (cond (eqb (image_verdict t q columns nodes from to).number 0) (ones (image_bytes t q nodes back from)) 0)

-- the buffer after it
abbrev pub image_buffer : List ℕ → List ℕ → ℕ → List ℕ → Bool → List ℕ → List ℕ → List ℕ
image_buffer t q columns nodes back from to = written (image_verdict t q columns nodes from to) (image_bytes t q nodes back from) to

-- a reply, and a buffer as it was left, are those of the call
abbrev pub ImageLeaves : List ℕ → List ℕ → ℕ → List ℕ → Bool → List ℕ → List ℕ → ImageReply → List ℕ → Type 0
ImageLeaves t q columns nodes back from to r after =
    (r ≡ image_reply t q columns nodes back from to) × (after ≡ image_buffer t q columns nodes back from to)

-- the reply of pairs: to a tree, a query, its number of variables and their nodes, and the buffer
abbrev pub pairs_reply : List ℕ → List ℕ → ℕ → List ℕ → List ℕ → Reply
pairs_reply t q columns nodes table = verdict (pairs_checks t q columns nodes (length table))

-- the buffer after it
abbrev pub pairs_buffer : List ℕ → List ℕ → ℕ → List ℕ → List ℕ → List ℕ
pairs_buffer t q columns nodes table = written (pairs_reply t q columns nodes table) (pairs_bytes t q nodes) table

-- a reply, and a buffer as it was left, are those of the call
abbrev pub PairsLeave : List ℕ → List ℕ → ℕ → List ℕ → List ℕ → Reply → List ℕ → Type 0
PairsLeave t q columns nodes table r after =
    (r ≡ pairs_reply t q columns nodes table) × (after ≡ pairs_buffer t q columns nodes table)

-- the outcome of a page call with a verdict, over answers for k variables, that is lent a cursor and a buffer
abbrev pub judged : Reply → ℕ → List Row → Cursor → List ℕ → Outcome
judged v k rows c buffer = cond (eqb v.number 0) (paged k rows c buffer) (unpaged v c buffer)

-- the outcome of a page call that is lent a tree, a query, a number of variables, a cursor and a buffer
unfoldable pub page_outcome : List ℕ → List ℕ → ℕ → Cursor → List ℕ → Outcome
page_outcome t q columns c buffer =
    judged (verdict (page_checks t q columns c (length buffer))) columns (answers t q columns) c buffer

-- the outcome of a quick page call (document 02, §7): of a query that keeps the rule, that of a page call (proofs/Quick.antt:
-- rule_plain)
unfoldable pub quick_outcome : List ℕ → List ℕ → ℕ → Cursor → List ℕ → Outcome
quick_outcome t q columns c buffer =
    judged (verdict (quick_checks t q columns c (length buffer))) columns (answers t q columns) c buffer

-- the reply of an outcome
abbrev pub page_reply : Outcome → PageReply
page_reply o = record { number = o.number; place = o.place; count = o.count; more = o.more }

-- a reply, and a cursor and a buffer as they were left, are those of the outcome
abbrev pub PageLeaves : Outcome → PageReply → Cursor → List ℕ → Type 0
PageLeaves o r c buffer = (r ≡ page_reply o) × (c ≡ o.cursor) × (buffer ≡ o.buffer)

-- Over a shared table (document 02, §8): a party's replies are those for the tree that it sees.

-- what a call with one buffer leaves: a reply, and the buffer as it was left
abbrev pub Leaves : {R : Type 0} → R × List ℕ → R → List ℕ → Type 0
Leaves o r after = (r ≡ o.0) × (after ≡ o.1)

-- what a call with a verdict leaves that makes a table: the verdict with how many numbers the table has, 0 at a refusal; and the buffer
-- with the table at its front, or as it was
abbrev pub leaving : Reply → List ℕ → List ℕ → MadeReply × List ℕ
leaving v table out = (making v (cond (eqb v.number 0) (length table) 0), written v table out)

-- forwards, or backwards where back is set
unfoldable pub seen_image : List ℕ → ℕ → List ℕ → ℕ → List ℕ → Bool → List ℕ → List ℕ → ImageReply × List ℕ
seen_image t party q columns nodes back from to =
    over_seen t party (λ v. (counting v 0, to))
    (λ u. (image_reply u q columns nodes back from to, image_buffer u q columns nodes back from to))

-- pairs
unfoldable pub seen_pairs : List ℕ → ℕ → List ℕ → ℕ → List ℕ → List ℕ → Reply × List ℕ
seen_pairs t party q columns nodes table =
    over_seen t party (λ v. (v, table)) (λ u. (pairs_reply u q columns nodes table, pairs_buffer u q columns nodes table))

-- a page
unfoldable pub seen_page : List ℕ → ℕ → List ℕ → ℕ → Cursor → List ℕ → Outcome
seen_page t party q columns c buffer = over_seen t party (λ v. unpaged v c buffer) (λ u. page_outcome u q columns c buffer)

-- a quick page
unfoldable pub seen_quick : List ℕ → ℕ → List ℕ → ℕ → Cursor → List ℕ → Outcome
seen_quick t party q columns c buffer = over_seen t party (λ v. unpaged v c buffer) (λ u. quick_outcome u q columns c buffer)
