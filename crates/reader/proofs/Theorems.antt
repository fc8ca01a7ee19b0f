-- What an accepted reading is worth.
use Prim.Native.Nat.{ℕ, ◌≤◌}
use native.Mathlib.Omega.{arith}
use mathlib.Core.Path.{◌≡◌, refl, ap, ◌∙◌}
use mathlib.Core.Bool.{Bool, true, not}
use mathlib.Core.List.{List, ◌∷◌, ◌++◌}
use lib.ListN.{length}
use Rattle.model.specs.Tree.{tree_of}
use Rattle.model.specs.Syntax.{Path}
use Rattle.model.specs.QueryTable.{last_of}
use Rattle.model.specs.Results.{related}
use Rattle.model.specs.Encoding.{size, path_term, table_of, columns_of}
use Rattle.model.specs.Refusals.{Check, refuse, refuse_here, reply, verdict}
use Rattle.model.specs.Checks.{query_checks}
use Rattle.model.specs.Before.{inputs_before, NoDocument}
use Rattle.model.proofs.Refusals.{numbered, passed, Passes-front}
use Rattle.model.proofs.Unchanged.{starred, starred_size, starred_columns, table_as_before}
use Rattle.entries.specs.Size.{size_checks}
use Rattle.entries.proofs.Size.{size_passes}
use Rattle.std.specs.Prelude.{Option, Some, None}
use Rattle.names.specs.Names.{name_table_checks}
use Rattle.names.specs.Tags.{tag_of, tag_number}
use Rattle.names.proofs.Tags.{tag_names}
use Rattle.grammar.specs.Automaton.{readable, stops_at}
use Rattle.grammar.specs.Typed.{names_in}
use Rattle.grammar.specs.Before.{is_old}
use Rattle.grammar.proofs.Passing.{typed_passes}
use Rattle.grammar.proofs.Unchanged.{old_path}
use Rattle.reader.specs.Read.{typed, tag_in, query_of, entries_in, any_unknown, unknown_place, bad_length, text_checks, made_checks, read_checks}
use Rattle.reader.specs.Before.{query_before}
use Rattle.reader.proofs.Places.{not_no}
use Rattle.reader.proofs.Verdicts.{typed_fits}

module _ (text house site : List ℕ) (room : ℕ) where
  abbrev unknown_check : Check
  unknown_check = refuse_here 25 (unknown_place house site (names_in 0 (typed text))) (any_unknown house site (names_in 0 (typed text)))

  -- the text has a reading, and it has at most 64 entries
  passes : (verdict (read_checks text house site room)).number ≡ 0 → (readable text ≡ true) × (entries_in text house site ≤ 64)
  unfolding read_checks name_table_checks numbered
  passes h =
      let a = (Passes-front (name_table_checks house site) (text_checks text ++ made_checks text house site room) refl h).1 in
      let b = passed (refuse 23 (bad_length (length text))) (refuse_here 24 (stops_at text) (not (readable text)) ∷ unknown_check ∷ size_checks (entries_in text house site) room) (λ q. omega arith) a in
      let c = passed (refuse_here 24 (stops_at text) (not (readable text))) (unknown_check ∷ size_checks (entries_in text house site) room) (λ q. omega arith) b.1 in
      let d = passed unknown_check (size_checks (entries_in text house site) room) (λ q. omega arith) c.1 in
      (not_no (readable text) c.0, (size_passes (entries_in text house site) room _ refl d.1).0)

  -- for every accepted call, the table that is written passes check_query with the number of variables that is told
  pub read_passes : (verdict (read_checks text house site room)).number ≡ 0
      → verdict (query_checks (table_of (query_of text house site)) 0 (columns_of (query_of text house site))) ≡ reply 0 0
  unfolding query_of
  read_passes h =
      let w = passes h in
      typed_passes (typed text) (typed_fits text house site w.0) (tag_in house site) w.1

-- a text that could be typed before node() could

-- no name has the tag of a document node
tag_most : (house site name : List ℕ) → tag_in house site name ≡ 65534 → ⊥
tag_most house site name h = go (tag_of house site name) refl h
  where
    go : (t : Option ℕ) → tag_of house site name ≡ t → tag_number t ≡ 65534 → ⊥
    go (Some t) e q = let l = (tag_names house site name t e).0 in absurd (omega arith)
    go None e q = absurd (omega arith)

module _ (text house site : List ℕ) (o : is_old (typed text) ≡ true) where
  as_starred : query_before text house site ≡ starred (query_of text house site)
  unfolding query_of
  as_starred = old_path (tag_in house site) (tag_most house site) (typed text) o

  -- its table has as many entries and variables as its table before
  pub read_as_long : (size (path_term (query_before text house site)) ≡ entries_in text house site) × (columns_of (query_before text house site) ≡ columns_of (query_of text house site))
  read_as_long = (ap (λ (p : Path). size (path_term p)) as_starred ∙ starred_size (query_of text house site), ap columns_of as_starred ∙ starred_columns (query_of text house site))

  -- for the reader: and on a tree without a document node the pairs of that table, under every assignment and either way
  pub read_as_before : (t : List ℕ) → NoDocument (tree_of t) → (nodes : List ℕ) (back : Bool)
      → (inputs_before t (table_of (query_before text house site))).relation nodes back ≡ related t (table_of (query_of text house site)) nodes (last_of (table_of (query_of text house site))) back
  read_as_before t d nodes back = ap (λ (p : Path). (inputs_before t (table_of p)).relation nodes back) as_starred ∙ table_as_before t d (query_of text house site) nodes back
