-- Laws for the verdicts of a reading and of a call.
use Rattle.std.specs.Prelude.{Ok, Err}
use Prim.Native.Nat.{ℕ, ◌*◌, ◌≤◌, ◌<◌}
use native.Mathlib.Omega.{arith}
use mathlib.Core.Path.{◌≡◌, refl, sym, ap, ◌∙◌, subst}
use mathlib.Core.Bool.{Bool, true, false, not, cond}
use mathlib.Core.List.{List, ◌∷◌, ◌++◌}
use lib.ListN.{length, take, drop}
use lib.Dec.{ltb, eqb}
use borrow.Author.Tests.{eqb-true, ltb-false}
use Rattle.model.specs.declared.Reply.{Reply}
use Rattle.model.specs.declared.ReadReply.{ReadReply}
use Rattle.model.specs.declared.refusal.Refusal.{Refusal}
use Rattle.model.specs.declared.refusal.Refusal.TheVariants.{TextLength}
use Rattle.entries.specs.Postfix.{Made}
use Rattle.model.specs.Syntax.{Path}
use Rattle.model.specs.Encoding.{size, path_term, table_of, columns_of}
use Rattle.model.specs.Refusals.{Check, refuse_here, reply, verdict, written, refused, told_read}
use Rattle.model.proofs.Booleans.{no_or}
use Rattle.model.proofs.Encoding.{length_encode}
use Rattle.model.proofs.Refusals.{Passes, numbered, accepted as all-passed, stop, pass, stop_err, pass_ok, refused_some, written_not, written_over}
use Rattle.entries.specs.Size.{size_checks}
use Rattle.entries.proofs.Size.{same_size, size_passes, counted_few}
use Rattle.names.specs.Names.{name_table_checks}
use Rattle.grammar.specs.Grammar.{Expr, fits}
use Rattle.grammar.specs.Automaton.{readable, stops_at}
use Rattle.grammar.proofs.Passing.{columns_few}
use Rattle.grammar.proofs.Theorems.{readable_grammatical, read_reading}
use Rattle.reader.specs.Read.{expression, typed, tag_in, query_of, entries_in, bad_length, text_checks, made_checks, read_checks, read_reply, refusal, Leaves, TableLeaves, ReadLeaves}
use Rattle.reader.specs.Turns.{ReadsTo, typed_checks}
use Rattle.reader.proofs.Places.{not_no}

module _ (text house site : List ℕ) where
  -- what is read of a readable text fits the grammar
  pub typed_fits : readable text ≡ true → fits 0 false (typed text) ≡ true
  unfolding typed
  typed_fits y =
      let g = readable_grammatical text y in
      subst (λ (e : Expr). fits 0 false e ≡ true) (sym (ap expression (read_reading text g))) g.sound

  pub few_columns : readable text ≡ true → columns_of (query_of text house site) ≤ 3
  unfolding query_of
  few_columns y = columns_few (typed text) (typed_fits y) (tag_in house site)

-- the reply and the buffer of a call that is refused
module _ (checks : List Check) (query : Path) (buffer : List ℕ) where
  pub err_leaves : (e : Refusal) → refused e ≡ verdict checks → Leaves checks query buffer (told_read (Err e)) buffer
  unfolding read_reply
  err_leaves e p = (
    ap refusal p ∙ go (verdict checks) (eqb (verdict checks).number 0) refl (λ z. refused_some e (ap (λ (x : Reply). x.number) p ∙ z)),
    written_not (refused e) (verdict checks) (table_of query) buffer p (refused_some e),
  )
    where
      go : (w : Reply) (b : Bool) → eqb w.number 0 ≡ b → (w.number ≡ 0 → ⊥)
          → refusal w ≡ record { number = w.number; place = w.place; count = cond b (4 * size (path_term query)) 0; columns = cond b (columns_of query) 0 }
      go w false f z = refl
      go w true f z = absurd (z (eqb-true w.number 0 f))

pub leaves_same : (a b : List Check) (query : Path) (buffer : List ℕ) (r : ReadReply) (after : List ℕ) → verdict a ≡ verdict b → Leaves a query buffer r after → Leaves b query buffer r after
leaves_same a b query buffer r after e h =
    subst (λ (v : Reply). (r ≡ read_reply v (4 * size (path_term query)) (columns_of query)) × (after ≡ written v (table_of query) buffer)) e h

abbrev accepted : ℕ → ℕ → ReadReply
accepted entries columns = record { number = 0; place = 0; count = 4 * entries; columns = columns }

module _ (text house site : List ℕ) (buffer : List ℕ) where
  abbrev sizes : List Check
  sizes = size_checks (entries_in text house site) (length buffer)

  -- 24 and 25
  pub reading_refused : (e : Refusal) → refused e ≡ verdict (typed_checks text house site) → TableLeaves text house site buffer (told_read (Err e)) buffer
  reading_refused e p =
      err_leaves (typed_checks text house site ++ sizes) (query_of text house site) buffer e (stop_err (typed_checks text house site) sizes e p)

  module _ (b : Made) (u : Unit) (w : ReadsTo text house site (Ok u) b) where
    is_readable : readable text ≡ true
    unfolding numbered Passes
    is_readable = not_no (readable text) (all-passed (typed_checks text house site) refl (ap (λ (x : Reply). x.number) (sym w.judged))).0

    -- the verdict on the entries that were counted is the one that is due
    all_judged : (v : Reply) → v ≡ verdict (size_checks b.draft.entries (length buffer)) → v ≡ verdict (typed_checks text house site ++ sizes)
    unfolding numbered
    all_judged v p =
        pass_ok (typed_checks text house site) sizes v
        (p ∙ ap (λ (n : ℕ). verdict (size_checks n (length buffer))) (w.entries is_readable) ∙ same_size (entries_in text house site) (length buffer)) w.judged refl

    -- 26 and 20
    pub size_refused : (e : Refusal) → refused e ≡ verdict (size_checks b.draft.entries (length buffer)) → TableLeaves text house site buffer (told_read (Err e)) buffer
    size_refused e p =
        err_leaves (typed_checks text house site ++ sizes) (query_of text house site) buffer e (all_judged (refused e) p)

    module _ (fine : reply 0 0 ≡ verdict (size_checks b.draft.entries (length buffer))) where
      pub both_fit : (b.draft.entries ≤ 64) × (4 * b.draft.entries ≤ length buffer)
      both_fit = size_passes b.draft.entries (length buffer) (reply 0 0) fine refl

      few_entries : (entries_in text house site ≤ 64) × (b.draft.entries ≡ entries_in text house site)
      few_entries = counted_few (entries_in text house site) b.draft.entries (w.entries is_readable) both_fit.0

      pub columns_fit : b.draft.columns < 65536
      columns_fit =
          let c = w.columns is_readable few_entries.0 in
          let m = few_columns text house site is_readable in
          omega arith

      pub table_accepted : (after : List ℕ) → after ≡ take (4 * b.draft.entries) b.table ++ drop (4 * b.draft.entries) buffer
          → TableLeaves text house site buffer (accepted b.draft.entries b.draft.columns) after
      unfolding read_reply
      table_accepted after h =
          let f = all_judged (reply 0 0) fine in
          let n = few_entries.1 in (
            replied b.draft.entries b.draft.columns n (w.columns is_readable few_entries.0) (verdict (typed_checks text house site ++ sizes)) (sym f),
            written_over (reply 0 0) (verdict (typed_checks text house site ++ sizes)) (table_of (query_of text house site)) buffer after (4 * b.draft.entries)
                (h ∙ ap (λ (i : ℕ). take (4 * i) b.table ++ drop (4 * b.draft.entries) buffer) n ∙ ap (λ (l : List ℕ). l ++ drop (4 * b.draft.entries) buffer) (w.front is_readable few_entries.0))
                f
                refl
                (length_encode (path_term (query_of text house site)) 0 ∙ ap (λ (i : ℕ). 4 * i) (sym n)),
          )
        where
          replied : (i j : ℕ) → i ≡ entries_in text house site → j ≡ columns_of (query_of text house site) → (x : Reply) → x ≡ reply 0 0
              → accepted i j ≡ read_reply x (4 * entries_in text house site) (columns_of (query_of text house site))
          replied i j p q x o =
              ap (λ (a : ℕ). accepted a j) p
              ∙ ap (λ (a : ℕ). accepted (entries_in text house site) a) q
              ∙ ap (λ (a : Reply). read_reply a (4 * entries_in text house site) (columns_of (query_of text house site))) (sym o)

-- the call, whose name tables and length are checked first
module _ (text house site buffer : List ℕ) where
  abbrev rest : List Check
  rest = refuse_here 24 (stops_at text) (not (readable text)) ∷ made_checks text house site (length buffer)

  abbrev behind_names : List Check
  behind_names = text_checks text ++ made_checks text house site (length buffer)

  pub names_refused : (e : Refusal) → refused e ≡ verdict (name_table_checks house site) → ReadLeaves text house site buffer (told_read (Err e)) buffer
  unfolding read_checks
  names_refused e p =
      err_leaves (name_table_checks house site ++ behind_names) (query_of text house site) buffer e (stop_err (name_table_checks house site) behind_names e p)

  module _ (e : reply 0 0 ≡ verdict (name_table_checks house site)) where
    pub length_refused : bad_length (length text) ≡ true → ReadLeaves text house site buffer (told_read (Err TextLength)) buffer
    unfolding read_checks name_table_checks numbered
    length_refused t =
        err_leaves (name_table_checks house site ++ behind_names) (query_of text house site) buffer TextLength
        (pass_ok (name_table_checks house site) behind_names (reply 23 0) (stop 23 rest 0 (bad_length (length text)) (bad_length (length text)) (reply 23 0) refl refl t) e refl)

    pub length_passed : bad_length (length text) ≡ false → (a : ReadReply) (after : List ℕ) → TableLeaves text house site buffer a after → ReadLeaves text house site buffer a after
    unfolding read_checks name_table_checks numbered
    length_passed t a after h =
        leaves_same rest (name_table_checks house site ++ behind_names) (query_of text house site) buffer a after
        (pass_ok (name_table_checks house site) behind_names (verdict rest) (pass 23 rest 0 (bad_length (length text)) (bad_length (length text)) (verdict rest) refl refl t) e refl)
        h

pub short : (n : ℕ) → bad_length n ≡ false → n ≤ 1024
short n h = ltb-false 1024 n (no_or (eqb n 0) (ltb 1024 n) h).1
