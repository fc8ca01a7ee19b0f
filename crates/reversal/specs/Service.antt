-- The service that turns a query round (document 02, §10), as a total function of all that it is lent.
use Rattle.std.specs.Prelude.{ℕ, List, ◌++◌, length}
use Rattle.model.specs.declared.Reply.{Reply}
use Rattle.model.specs.declared.MadeReply.{MadeReply}
use Rattle.model.specs.Syntax.{Path}
use Rattle.model.specs.QueryTable.{path_at, last_of}
use Rattle.model.specs.Encoding.{path_term, size, table_of}
use Rattle.model.specs.Refusals.{Check, verdict}
use Rattle.model.specs.Checks.{query_checks}
use Rattle.model.specs.Services.{leaving}
use Rattle.entries.specs.Size.{size_checks}
use Rattle.reversal.specs.Reversed.{reversed}

-- the query of a table, reversed
unfoldable pub reversed_query : List ℕ → Path
reversed_query q = reversed (path_at q (last_of q))

-- how many entries it has
abbrev pub reversed_size : List ℕ → ℕ
reversed_size q = size (path_term (reversed_query q))

-- its table (document 01: a query table that is made): a left operand's entries all before the right's
abbrev pub reversed_table : List ℕ → List ℕ
reversed_table q = table_of (reversed_query q)

-- 8 to 15, then 26 and 20
unfoldable pub reverse_checks : List ℕ → ℕ → ℕ → List Check
reverse_checks q columns room = query_checks q 0 columns ++ size_checks (reversed_size q) room

-- the verdict on a query, its number of variables and the buffer
abbrev pub reverse_verdict : List ℕ → ℕ → List ℕ → Reply
reverse_verdict q columns out = verdict (reverse_checks q columns (length out))

-- what the service leaves
unfoldable pub reversal : List ℕ → ℕ → List ℕ → MadeReply × List ℕ
reversal q columns out = leaving (reverse_verdict q columns out) (reversed_table q) out
