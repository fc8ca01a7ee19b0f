-- The service that reads a typed query into a query table (document 02, §1), as a total function of all that it is lent.
use Rattle.std.specs.Prelude.{ℕ, ◌*◌, ◌≡◌, Bool, false, not, ◌||◌, cond, List, [], ◌∷◌, ◌++◌, length, ltb, eqb}
use Rattle.model.specs.Syntax.{Path}
use Rattle.model.specs.Encoding.{size, path_term, table_of, columns_of}
use Rattle.model.specs.Refusals.{Check, refuse, refuse_here, verdict, written}
use Rattle.model.specs.declared.Reply.{Reply}
use Rattle.model.specs.declared.ReadReply.{ReadReply}
use Rattle.grammar.specs.Grammar.{Expr}
use Rattle.grammar.specs.Online.{run}
use Rattle.grammar.specs.Online.Place.{between}
use Rattle.grammar.specs.Automaton.{Outcome, outcome_of, next, start, readable, stops_at}
use Rattle.grammar.specs.Automaton.Outcome.{accepted, refused}
use Rattle.grammar.specs.Typed.{TypedName, path_of, names_in}
use Rattle.entries.specs.Size.{size_checks}
use Rattle.names.specs.Names.{name_table_checks}
use Rattle.names.specs.Tags.{tag_of, tag_number, is_known}

-- the expression that was read; for a refused text '.', which is of no account
abbrev pub expression : Outcome → Expr
expression (accepted e) = e
expression refused = Expr.dot

-- a text as the expression it is (proofs of grammar: the one reading of a grammatical text)
unfoldable pub typed : List ℕ → Expr
typed text = expression (outcome_of (run next (between start) text))

-- the tag of a name: the lowest one up to 65533 that has it
abbrev pub tag_in : List ℕ → List ℕ → List ℕ → ℕ
tag_in house site name = tag_number (tag_of house site name)

-- the path that a text stands for
unfoldable pub query_of : List ℕ → List ℕ → List ℕ → Path
query_of text house site = path_of (typed text) (tag_in house site)

-- how many entries its table has
abbrev pub entries_in : List ℕ → List ℕ → List ℕ → ℕ
entries_in text house site = size (path_term (query_of text house site))

-- 25: some name has no tag
unfoldable pub any_unknown : List ℕ → List ℕ → List TypedName → Bool
any_unknown house site [] = false
any_unknown house site (n ∷ ns) = not (is_known (tag_of house site n.name)) || any_unknown house site ns

-- the place of the first that has none; 0 if each has one
unfoldable pub unknown_place : List ℕ → List ℕ → List TypedName → ℕ
unknown_place house site [] = 0
unknown_place house site (n ∷ ns) = cond (is_known (tag_of house site n.name)) (unknown_place house site ns) n.place

-- 23: the text is not 1 to 1,024 bytes long
abbrev pub bad_length : ℕ → Bool
bad_length n = eqb n 0 || ltb 1024 n

-- 23, and 24: no reading, at the first byte with which no grammatical text goes on, or the length
abbrev pub text_checks : List ℕ → List Check
text_checks text = refuse 23 (bad_length (length text)) ∷ refuse_here 24 (stops_at text) (not (readable text)) ∷ []

-- 25: a name that no tag has; then 26 and 20
abbrev pub made_checks : List ℕ → List ℕ → List ℕ → ℕ → List Check
made_checks text house site room =
    refuse_here 25 (unknown_place house site (names_in 0 (typed text))) (any_unknown house site (names_in 0 (typed text)))
    ∷ size_checks (entries_in text house site) room

-- 21, then 23 to 26, then 20
unfoldable pub read_checks : List ℕ → List ℕ → List ℕ → ℕ → List Check
read_checks text house site room = name_table_checks house site ++ (text_checks text ++ made_checks text house site room)

-- a verdict, and if it accepts, how many numbers were written, and how many variables the query has
unfoldable pub read_reply : Reply → ℕ → ℕ → ReadReply
read_reply v count columns =
    record {
      number = v.number;
      place = v.place;
      count = cond (eqb v.number 0) count 0;
      columns = cond (eqb v.number 0) columns 0;
    }

-- a refused one
abbrev pub refusal : Reply → ReadReply
refusal v = record { number = v.number; place = v.place; count = 0; columns = 0 }

-- a reply, and a buffer as it was left, are those of the checks and the table
abbrev pub Leaves : List Check → Path → List ℕ → ReadReply → List ℕ → Type 0
Leaves checks query buffer r after =
    (r ≡ read_reply (verdict checks) (4 * size (path_term query)) (columns_of query)) × (after ≡ written (verdict checks) (table_of query) buffer)

-- for a text of at most 1,024 bytes and name tables that are accepted
abbrev pub TableLeaves : List ℕ → List ℕ → List ℕ → List ℕ → ReadReply → List ℕ → Type 0
TableLeaves text house site buffer r after =
    Leaves (refuse_here 24 (stops_at text) (not (readable text)) ∷ made_checks text house site (length buffer)) (query_of text house site) buffer r after

-- for any
abbrev pub ReadLeaves : List ℕ → List ℕ → List ℕ → List ℕ → ReadReply → List ℕ → Type 0
ReadLeaves text house site buffer r after = Leaves (read_checks text house site (length buffer)) (query_of text house site) buffer r after
