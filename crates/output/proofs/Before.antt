-- Files of old print what they printed, and files for which the same tree is seen print the same.
use Rattle.std.proofs.Common.{◌≡◌, ℕ, true, false, cond, not, eqb, List, [], ◌++◌, length, sym, refl, ap, ◌∙◌, append_assoc, append-nil, eq-eqb, eqb-true}
use mathlib.Core.Bool.{and-true}
use Rattle.model.specs.declared.Reply.{Reply}
use Rattle.model.specs.Answers.{Row, answers}
use Rattle.model.specs.Refusals.{Check, verdict}
use Rattle.model.specs.Checks.{tree_checks, query_checks}
use Rattle.model.specs.Parties.{shared_checks, party_checks, shared_verdict}
use Rattle.model.proofs.Booleans.{Seen, yes!, no!, seen}
use Rattle.model.proofs.Refusals.{numbered, accepted, pass_all, by_front, same_front}
use Rattle.model.proofs.Parties.{shared_numbered}
use Rattle.model.proofs.Accepted.{tree_numbered}
use Rattle.job.specs.JobFile.{Job, magic_of, trailer_size, party_of, trailer_of, bad_length, bad_magic, file_checks, job_with, job_of, widened}
use Rattle.lines.specs.Lines.{end_line, refused_line}
use Rattle.output.specs.Output.{shared_of, shared_in, party_in, tree_in, query_in, columns_in, job_checks, job_verdict, answers_in, lines_of, output_of}
use Rattle.output.specs.Before.{tree_before, query_before, columns_before, file_checks_before, verdict_before, output_before}
use Rattle.output.proofs.Verdict.{file_numbered, tables_numbered, file_passes, table_passes}
use Rattle.output.proofs.Widened.{widened_verdict, widened_seen}

-- what is printed for a verdict and answers
abbrev printed : Reply → List Row → List ℕ
printed v rows = cond (eqb v.number 0) (lines_of rows ++ end_line (length rows)) (refused_line v.number v.place)

-- the same verdict and, where it accepts, the same answers print the same
printed_same : (v w : Reply) (a b : List Row) → v ≡ w → (v.number ≡ 0 → a ≡ b) → printed v a ≡ printed w b
printed_same v w a b e f = ap (λ (r : Reply). printed r a) e ∙ go (seen (eqb w.number 0))
  where
    go : Seen (eqb w.number 0) → printed w a ≡ printed w b
    go (yes! h) = ap (printed w) (f (ap (λ (r : Reply). r.number) e ∙ eqb-true w.number 0 h))
    go (no! h) = rw h

party_numbered : (party : ℕ) → numbered (party_checks party) ≡ true
unfolding party_checks numbered
party_numbered party = refl

-- the first party is accepted

one : verdict (party_checks 1) ≡ verdict []
unfolding party_checks verdict
one = refl

party_one : (t : List ℕ) → shared_verdict t 1 ≡ verdict (shared_checks t)
party_one t = by_front (shared_checks t) (party_checks 1) [] (shared_numbered t) (λ z. one) ∙ ap verdict (append-nil (shared_checks t))

module _ (file : List ℕ) (old : eqb (magic_of file) 20565 ≡ false) where
  files_same : file_checks file ≡ file_checks_before file
  unfolding file_checks file_checks_before bad_length bad_magic trailer_size
  files_same = rw (old, and-true (not (eqb (magic_of file) 20564)))

  -- what an accepted file of old holds
  module _ (z : (verdict (file_checks file)).number ≡ 0) where
    opened : job_of file ≡ job_with (verdict (file_checks file)) (length file) (trailer_of file)
    unfolding job_of
    opened = rw (eq-eqb (verdict (file_checks file)).number 0 z)

    shared_is : shared_in file ≡ widened (tree_before file)
    unfolding shared_in shared_of trailer_size
    shared_is = rw (opened, old)

    party_is : party_in file ≡ 1
    unfolding party_in party_of
    party_is = ap (λ (j : Job). j.party) opened ∙ rw old

    query_is : query_in file ≡ query_before file
    unfolding query_in trailer_size
    query_is = rw (opened, old)

    columns_is : columns_in file ≡ columns_before file
    unfolding columns_in trailer_size
    columns_is = ap (λ (j : Job). j.columns) opened ∙ rw old

    tables_same : shared_verdict (shared_in file) (party_in file) ≡ verdict (tree_checks (tree_before file))
    tables_same = rw (shared_is, party_is) (party_one (widened (tree_before file)) ∙ widened_verdict (tree_before file))

    rest_same : verdict ((shared_checks (shared_in file) ++ party_checks (party_in file)) ++ query_checks (query_in file) 1 (columns_in file))
        ≡ verdict (tree_checks (tree_before file) ++ query_checks (query_before file) 1 (columns_before file))
    rest_same =
        same_front (shared_checks (shared_in file) ++ party_checks (party_in file)) (tree_checks (tree_before file)) (query_checks (query_in file) 1 (columns_in file))
        (tables_numbered file) (tree_numbered (tree_before file)) tables_same
        ∙ rw (query_is, columns_is)

  verdict_same : job_verdict file ≡ verdict_before file
  unfolding job_verdict job_checks
  verdict_same =
      by_front (file_checks file)
      ((shared_checks (shared_in file) ++ party_checks (party_in file)) ++ query_checks (query_in file) 1 (columns_in file))
      (tree_checks (tree_before file) ++ query_checks (query_before file) 1 (columns_before file))
      (file_numbered file) rest_same
      ∙ ap (λ (cs : List Check). verdict (cs ++ (tree_checks (tree_before file) ++ query_checks (query_before file) 1 (columns_before file)))) files_same

  answers_same : (job_verdict file).number ≡ 0 → answers_in file ≡ answers (tree_before file) (query_before file) (columns_before file)
  unfolding answers_in tree_in
  answers_same z =
      let f = file_passes file z in
      let ok : (verdict (tree_checks (tree_before file))).number ≡ 0 = ap (λ (r : Reply). r.number) (sym (tables_same f)) ∙ table_passes file z in
      rw (
        shared_is f,
        party_is f,
        query_is f,
        columns_is f,
        widened_seen (tree_before file) 1 (accepted (tree_checks (tree_before file)) (tree_numbered (tree_before file)) ok),
      )

  -- for the reader: a file of old, and every file that bears no new mark, prints what it printed before files had owners and parties
  pub printed_as_before : output_of file ≡ output_before file
  unfolding output_of output_before
  printed_as_before = printed_same (job_verdict file) (verdict_before file) (answers_in file) (answers (tree_before file) (query_before file) (columns_before file)) verdict_same answers_same

-- Isolation.

-- the verdict on a file whose form and shared table are accepted is that on party and query
rest_decides : (f : List ℕ) → (verdict (file_checks f)).number ≡ 0 → (verdict (shared_checks (shared_in f))).number ≡ 0
    → job_verdict f ≡ verdict (party_checks (party_in f) ++ query_checks (query_in f) 1 (columns_in f))
unfolding job_verdict job_checks
rest_decides f a b =
    let S = shared_checks (shared_in f) in
    let P = party_checks (party_in f) in
    let Q = query_checks (query_in f) 1 (columns_in f) in
    sym (pass_all (file_checks f) ((S ++ P) ++ Q) (verdict (file_checks f)) (verdict ((S ++ P) ++ Q)) refl refl a (file_numbered f))
    ∙ ap verdict (append_assoc S P Q)
    ∙ sym (pass_all S (P ++ Q) (verdict S) (verdict (P ++ Q)) refl refl b (shared_numbered (shared_in f)))

-- for the reader: two job files that are not refused for their form or their shared tables, whose parties are judged alike and see the same
-- tree, and which hold the same query and column count, print the same
pub same_output : (f g : List ℕ) → (verdict (file_checks f)).number ≡ 0 → (verdict (file_checks g)).number ≡ 0
    → (verdict (shared_checks (shared_in f))).number ≡ 0 → (verdict (shared_checks (shared_in g))).number ≡ 0
    → verdict (party_checks (party_in f)) ≡ verdict (party_checks (party_in g))
    → tree_in f ≡ tree_in g → query_in f ≡ query_in g → columns_in f ≡ columns_in g → output_of f ≡ output_of g
unfolding output_of answers_in
same_output f g a b c d p t q k =
    printed_same (job_verdict f) (job_verdict g) (answers (tree_in f) (query_in f) (columns_in f)) (answers (tree_in g) (query_in g) (columns_in g))
    (rest_decides f a c
    ∙ same_front (party_checks (party_in f)) (party_checks (party_in g)) (query_checks (query_in f) 1 (columns_in f)) (party_numbered (party_in f)) (party_numbered (party_in g)) p
    ∙ rw (q, k) (sym (rest_decides g b d)))
    (λ z. rw (t, q, k))
