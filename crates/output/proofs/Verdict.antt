-- The verdict on a file, and what the pages of an accepted one pass.
use Rattle.std.proofs.Common.{◌≡◌, ℕ, ◌<◌, ◌≤◌, Bool, true, false, cond, eqb, ltb, List, [], ◌∷◌, ◌++◌, length, get_or, sym, refl, ap, ◌∙◌, arith, length-take-le, le-ltb, lt-ltb, eq-eqb, ne_eqb, eqb-true}
use borrow.Author.Tests.{not-true}
use Rattle.model.specs.declared.Cursor.{Cursor}
use Rattle.model.specs.declared.Reply.{Reply}
use Rattle.model.specs.Sets.{any}
use Rattle.model.specs.Tree.{size_of}
use Rattle.model.specs.Pages.{row_of, has_begun}
use Rattle.model.specs.Accepted.{Below}
use Rattle.model.specs.Refusals.{Check, verdict, reply}
use Rattle.model.specs.Checks.{tree_checks_at, tree_checks, query_checks, bad_node, cursor_checks, room_checks, page_checks}
use Rattle.model.specs.Parties.{shared_checks, party_checks, shared_verdict, over_seen}
use Rattle.model.proofs.Booleans.{Seen, yes!, no!, seen, no_yes, not_yes}
use Rattle.model.proofs.Exists.{any_elim}
use Rattle.model.proofs.Refusals.{numbered, Passes, accepted, all_pass, none_refused, stop_all, pass_all, Passes-front}
use Rattle.model.proofs.Parties.{shared_passes}
use Rattle.view.proofs.SeenTree.{seen_passes}
use Rattle.model.proofs.Accepted.{tree_ordered, tree_numbered, query_numbered, columns_most, columns_least}
use Rattle.job.specs.JobFile.{part_checks, file_checks, job_of}
use Rattle.output.specs.declared.Position.{Position}
use Rattle.output.specs.Output.{shared_in, party_in, tree_in, query_in, columns_in, job_checks, job_verdict, answers_in}
use Rattle.output.specs.Piece.{numbers_for, refused_piece, tables_piece, shared_piece, job_piece, list_piece}
use Rattle.output.proofs.Count.{answers_few}

module _ (file : List ℕ) where
  abbrev H : List ℕ
  H = shared_in file

  abbrev T : List ℕ
  T = tree_in file

  abbrev Q : List ℕ
  Q = query_in file

  abbrev k : ℕ
  k = columns_in file

  -- the checks of the shared table and the party
  abbrev table_checks : List Check
  table_checks = shared_checks H ++ party_checks (party_in file)

  pub file_numbered : numbered (file_checks file) ≡ true
  unfolding file_checks part_checks numbered
  file_numbered = refl

  pub tables_numbered : numbered table_checks ≡ true
  unfolding shared_checks tree_checks_at party_checks numbered
  tables_numbered = refl

  -- the tree that the party sees of an accepted table is an accepted one
  pub tree_passes : (shared_verdict H (party_in file)).number ≡ 0 → Passes (tree_checks T)
  unfolding tree_in
  tree_passes z = seen_passes H (party_in file) (shared_passes H (party_in file) (shared_verdict H (party_in file)) refl z)

  -- an accepted file
  module _ (z : (job_verdict file).number ≡ 0) where
    parts : Passes (file_checks file) × ((verdict (table_checks ++ query_checks Q 1 k)).number ≡ 0)
    unfolding job_verdict job_checks
    parts = Passes-front (file_checks file) (table_checks ++ query_checks Q 1 k) file_numbered z

    tables : Passes table_checks × Passes (query_checks Q 1 k)
    tables =
        let a = Passes-front table_checks (query_checks Q 1 k) tables_numbered parts.1 in
        (a.0, accepted (query_checks Q 1 k) (query_numbered Q 1 k) a.1)

    pub file_passes : (verdict (file_checks file)).number ≡ 0
    file_passes = all_pass (file_checks file) parts.0

    pub table_passes : (shared_verdict H (party_in file)).number ≡ 0
    table_passes = all_pass table_checks tables.0

    tree : Passes (tree_checks T)
    tree = tree_passes table_passes

    pub accepted_reply : job_verdict file ≡ reply 0 0
    unfolding job_verdict job_checks
    accepted_reply =
        sym
        (pass_all (file_checks file) (table_checks ++ query_checks Q 1 k) (verdict (file_checks file)) (reply 0 0)
        (pass_all table_checks (query_checks Q 1 k) (verdict table_checks) (reply 0 0) (sym (none_refused (query_checks Q 1 k) tables.1)) refl table_passes tables_numbered)
        refl file_passes file_numbered)

    pub most : k ≤ 3
    most = columns_most Q 1 k tables.1

    pub least : 1 ≤ k
    least = columns_least Q 1 k tables.1

    pub few : length (answers_in file) ≤ 16777216
    unfolding answers_in
    few = answers_few T Q k (tree_ordered T tree).sound.at_most most

    -- a page call passes whose cursor is at nodes and whose buffer has room for a row
    module _ (c : Cursor) (room : ℕ) (nodes : has_begun c ≡ true → Below (size_of T) (row_of k c)) (l : k ≤ room) where
      no_bad : (b : Bool) → has_begun c ≡ b → any (cond b k 0) (bad_node T (row_of k c)) ≡ true → ⊥
      unfolding any
      no_bad false e h = no_yes refl h
      no_bad true e h =
          let w = any_elim k (bad_node T (row_of k c)) h in
          let long : length (row_of k c) ≡ k = length-take-le k (c.first ∷ c.second ∷ c.third ∷ []) most in
          let below : get_or (row_of k c) w.0 0 < size_of T = nodes e w.0 (omega (arith, long, w.1)) in
          no_yes (not-true (ltb (get_or (row_of k c) w.0 0) (size_of T)) w.2) (lt-ltb (get_or (row_of k c) w.0 0) (size_of T) below)

      cursor_numbered : numbered (cursor_checks T k c) ≡ true
      unfolding cursor_checks numbered
      cursor_numbered = refl

      cursor_passes : Passes (cursor_checks T k c)
      unfolding cursor_checks Passes
      cursor_passes = (not_yes (any (cond (has_begun c) k 0) (bad_node T (row_of k c))) (no_bad (has_begun c) refl), tt)

      room_passes : (verdict (room_checks room k)).number ≡ 0
      unfolding room_checks verdict
      room_passes = rw (le-ltb room k l)

      pub page_passes : (verdict (page_checks T Q k c room)).number ≡ 0
      unfolding page_checks
      page_passes =
          let a = pass_all (cursor_checks T k c) (room_checks room k) (verdict (cursor_checks T k c)) (verdict (room_checks room k)) refl refl (all_pass (cursor_checks T k c) cursor_passes) cursor_numbered in
          let b = pass_all (query_checks Q 1 k) (cursor_checks T k c ++ room_checks room k) (verdict (query_checks Q 1 k)) (verdict (room_checks room k)) a refl (all_pass (query_checks Q 1 k) tables.1) (query_numbered Q 1 k) in
          let d = pass_all (tree_checks T) (query_checks Q 1 k ++ (cursor_checks T k c ++ room_checks room k)) (verdict (tree_checks T)) (verdict (room_checks room k)) b refl (all_pass (tree_checks T) tree) (tree_numbered T) in
          ap (λ (r : Reply). r.number) (sym d) ∙ room_passes

  -- a refused one: every piece of rows is its refusal
  module _ (z : (job_verdict file).number ≡ 0 → ⊥) (at : Position) (room : ℕ) where
    stop_file : ((verdict (file_checks file)).number ≡ 0 → ⊥) → verdict (file_checks file) ≡ job_verdict file
    unfolding job_verdict job_checks
    stop_file h = stop_all (file_checks file) (table_checks ++ query_checks Q 1 k) (verdict (file_checks file)) refl h

    pass_file : (verdict (file_checks file)).number ≡ 0 → verdict (table_checks ++ query_checks Q 1 k) ≡ job_verdict file
    unfolding job_verdict job_checks
    pass_file h = pass_all (file_checks file) (table_checks ++ query_checks Q 1 k) (verdict (file_checks file)) (verdict (table_checks ++ query_checks Q 1 k)) refl refl h file_numbered

    module _ (h : (verdict (file_checks file)).number ≡ 0) where
      stop_table : ((shared_verdict H (party_in file)).number ≡ 0 → ⊥) → shared_verdict H (party_in file) ≡ job_verdict file
      stop_table g = stop_all table_checks (query_checks Q 1 k) (shared_verdict H (party_in file)) refl g ∙ pass_file h

      module _ (g : (shared_verdict H (party_in file)).number ≡ 0) where
        pass_table : verdict (query_checks Q 1 k) ≡ job_verdict file
        pass_table = pass_all table_checks (query_checks Q 1 k) (shared_verdict H (party_in file)) (verdict (query_checks Q 1 k)) refl refl g tables_numbered ∙ pass_file h

        in_page : verdict (page_checks T Q k at.cursor (numbers_for room)) ≡ job_verdict file
        unfolding page_checks
        in_page =
            let rest = cursor_checks T k at.cursor ++ room_checks (numbers_for room) k in
            sym
            (pass_all (tree_checks T) (query_checks Q 1 k ++ rest) (verdict (tree_checks T)) (job_verdict file)
            (stop_all (query_checks Q 1 k) rest (job_verdict file) (sym pass_table) z)
            refl (all_pass (tree_checks T) (tree_passes g)) (tree_numbered T))

        in_tables : tables_piece T Q k at room ≡ refused_piece (job_verdict file) at
        unfolding tables_piece
        in_tables = rw (in_page, ne_eqb (job_verdict file).number 0 z)

      in_shared : job_piece file (job_of file) at room ≡ refused_piece (job_verdict file) at
      unfolding job_piece shared_piece over_seen tree_in shared_in party_in query_in columns_in
      in_shared = go (seen (eqb (shared_verdict H (party_in file)).number 0))
        where
          go : Seen (eqb (shared_verdict H (party_in file)).number 0) → job_piece file (job_of file) at room ≡ refused_piece (job_verdict file) at
          go (yes! e) = rw e (in_tables (eqb-true (shared_verdict H (party_in file)).number 0 e))
          go (no! e) = rw e (ap (λ (r : Reply). refused_piece r at) (stop_table (λ g. no_yes e (eq-eqb (shared_verdict H (party_in file)).number 0 g))))

    pub refused_list : list_piece file at room ≡ refused_piece (job_verdict file) at
    unfolding list_piece
    refused_list = go (seen (eqb (verdict (file_checks file)).number 0))
      where
        go : Seen (eqb (verdict (file_checks file)).number 0)
            → cond (eqb (verdict (file_checks file)).number 0) (job_piece file (job_of file) at room) (refused_piece (verdict (file_checks file)) at) ≡ refused_piece (job_verdict file) at
        go (yes! e) = rw e (in_shared (eqb-true (verdict (file_checks file)).number 0 e))
        go (no! e) = rw e (ap (λ (r : Reply). refused_piece r at) (stop_file (λ h. no_yes e (eq-eqb (verdict (file_checks file)).number 0 h))))
