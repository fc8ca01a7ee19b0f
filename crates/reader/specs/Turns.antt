-- The reading of a text turn by turn: what each turn makes of the place, the stack of gaps and the table.
use Rattle.std.specs.Prelude.{ℕ, ◌+◌, ◌-◌, ◌*◌, ◌≤◌, ◌<◌, ◌≡◌, Bool, true, false, not, ◌&&◌, cond, List, [], ◌∷◌, take, drop, set, ltb, eqb, Option, Some, None, Result, Ok, Err}
use Rattle.model.specs.declared.refusal.Refusal.{Refusal}
use Rattle.model.specs.declared.refusal.Refusal.TheVariants.{Ungrammatical}
use Rattle.model.specs.Refusals.{Check, refuse_here, told, verdict}
use Rattle.model.specs.Encoding.{table_of, columns_of}
use Rattle.grammar.specs.Automaton.{readable, stops_at}
use Rattle.grammar.specs.Typed.{TypedName, names_in}
use Rattle.machine.specs.declared.Move.{Move}
use Rattle.machine.specs.Machine.{Turn, stack_of, turn_of, may_end}
use Rattle.entries.specs.Postfix.{Made, Wrote}
use Rattle.entries.specs.Size.{counted}
use Rattle.emission.specs.Items.{word_items, end_items}
use Rattle.names.specs.Tags.{tag_of, tag_number, is_known}
use Rattle.reader.specs.declared.Progress.{Progress}
use Rattle.reader.specs.declared.Sought.{Sought}
use Rattle.reader.specs.Read.{typed, query_of, entries_in, any_unknown, unknown_place}

-- before the first byte
abbrev pub beginning : Progress
beginning = record { at = 0; depth = 0; focus = 0; axis = 0; start = 0; unknown = None }

-- the first of two places, where there is one
abbrev pub first_place : Option ℕ → Option ℕ → Option ℕ
first_place (Some i) o = Some i
first_place None o = o

-- the place of a name without a tag
abbrev pub own_place : Option ℕ → ℕ → Option ℕ
own_place t start = cond (is_known t) None (Some start)

-- the place of the first name that has no tag
unfoldable pub first_unknown : List ℕ → List ℕ → List TypedName → Option ℕ
first_unknown house site [] = None
first_unknown house site (n ∷ ns) = cond (is_known (tag_of house site n.name)) (first_unknown house site ns) (Some n.place)

-- a name with that tag, or with none, after the names so far
abbrev pub sought_name : Option ℕ → Progress → Sought
sought_name t p = record { tag = tag_number t; unknown = first_place p.unknown (own_place t p.start) }

-- the name that ends at the place, if one does: a name has been read, and goes on no further
unfoldable pub sought_at : List ℕ → List ℕ → List ℕ → Progress → Bool → Sought
sought_at text house site p ended =
    cond (ltb 5 p.focus && ended) (sought_name (tag_of house site (take (p.at - p.start) (drop p.start text))) p) (record { tag = 0; unknown = p.unknown })

-- how many gaps a step leaves open
abbrev pub kept : Progress → Move → ℕ
kept p m = p.depth - m.pops

-- how many it opens: one, or none where the move says 14
abbrev pub opens : Move → ℕ
opens m = cond (ltb m.push 14) 1 0

-- the word k was read, which makes the step m and has n bytes
unfoldable pub moved : Progress → ℕ → Move → ℕ → Sought → Progress
moved p k m n s =
    record {
      at = p.at + n;
      depth = kept p m + opens m;
      focus = m.focus;
      axis = cond (ltb k 13) k p.axis;
      start = cond (eqb p.focus 1) p.at p.start;
      unknown = s.unknown;
    }

-- the turn at the place
abbrev pub turn_at : List ℕ → Progress → List ℕ → Turn
turn_at text p stack = turn_of p.focus (stack_of stack p.depth) (drop p.at text)

-- a turn stays in the text, and its word is one of the machine's
abbrev pub Within : ℕ → ℕ → Turn → Type 0
Within at len (Err n) = at + n ≤ len
Within at len (Ok w) = (w.number < 38) × (at + w.len ≤ len)

-- what the word k, which makes the step m and has n bytes, makes of the place, the stack and the table
pub record Took (text house site : List ℕ) (p : Progress) (stack : List ℕ) (b : Made) (k : ℕ) (m : Move) (n : ℕ) (q : Progress) (stack' : List ℕ) (b' : Made) : Type 0 where
  pub place : q ≡ moved p k m n (sought_at text house site p (ltb k 34))
  pub gaps : stack' ≡ set stack (kept p m) m.push
  pub wrote : Wrote (word_items p.focus (stack_of stack p.depth) k p.axis (sought_at text house site p (ltb k 34)).tag) b b'

-- the reading goes on behind that word
pub record Goes (text house site : List ℕ) (p : Progress) (stack : List ℕ) (b : Made) (k : ℕ) (m : Move) (n : ℕ) (r : Result Progress Refusal) (stack' : List ℕ) (b' : Made) : Type 0 where
  pub to : Progress
  pub on : r ≡ Ok to
  pub took : Took text house site p stack b k m n to stack' b'

-- what a turn makes of them: it goes on, or no grammatical text goes on from a place
abbrev pub Advanced : List ℕ → List ℕ → List ℕ → Progress → List ℕ → Made → Turn → Result Progress Refusal → List ℕ → Made → Type 0
Advanced text house site p stack b (Err n) r stack' b' = r ≡ Err (Ungrammatical (p.at + n))
Advanced text house site p stack b (Ok w) r stack' b' = Goes text house site p stack b w.number w.step w.len r stack' b'

-- some name has no tag
abbrev pub any_in : Option ℕ → Bool
any_in None = false
any_in (Some i) = true

-- its place; 0 where each has one
abbrev pub place_in : Option ℕ → ℕ
place_in None = 0
place_in (Some i) = i

-- the checks of a text that was read so far: 24 and 25
abbrev pub place_checks : ℕ → Bool → ℕ → Bool → List Check
place_checks stop grammatical place unknown = refuse_here 24 stop (not grammatical) ∷ refuse_here 25 place unknown ∷ []

-- what the end of the text makes of them
pub record Finished (text house site : List ℕ) (p : Progress) (stack : List ℕ) (b : Made) (r : Result Unit Refusal) (b' : Made) : Type 0 where
  pub judged : told r
      ≡ verdict (place_checks p.at (may_end p.focus (stack_of stack p.depth))
      (place_in (sought_at text house site p true).unknown) (any_in (sought_at text house site p true).unknown))
  pub wrote : Wrote (end_items p.focus (stack_of stack p.depth) p.axis (sought_at text house site p true).tag) b b'

-- the checks of a text and its names: 24 and 25
abbrev pub typed_checks : List ℕ → List ℕ → List ℕ → List Check
typed_checks text house site =
    place_checks (stops_at text) (readable text) (unknown_place house site (names_in 0 (typed text))) (any_unknown house site (names_in 0 (typed text)))

-- what has been read when the text was read to its end, or no further
pub record ReadsTo (text house site : List ℕ) (r : Result Unit Refusal) (b : Made) : Type 0 where
  pub judged : told r ≡ verdict (typed_checks text house site)
  -- the number of entries, more than 64 counted as 65, the variables, and the table
  pub entries : readable text ≡ true → b.draft.entries ≡ counted (entries_in text house site)
  pub columns : readable text ≡ true → entries_in text house site ≤ 64 → b.draft.columns ≡ columns_of (query_of text house site)
  pub front : readable text ≡ true → entries_in text house site ≤ 64 → take (4 * entries_in text house site) b.table ≡ table_of (query_of text house site)
