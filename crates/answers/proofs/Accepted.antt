-- What the checks of a page call give.
use Prim.Native.Nat.{ℕ, ◌<◌, ◌≤◌}
use native.Mathlib.Omega.{arith}
use mathlib.Core.Path.{◌≡◌, refl}
use mathlib.Core.Bool.{true}
use mathlib.Core.List.{List, [], ◌∷◌, ◌++◌}
use lib.Dec.{ltb}
use lib.ListN.{length, get_or}
use lib.Seq.{length-take-le}
use borrow.Author.Tests.{ltb-true, not-false, ne_eqb}
use Rattle.model.specs.declared.Cursor.{Cursor}
use Rattle.model.specs.declared.Reply.{Reply}
use Rattle.model.specs.Tree.{tree_of, size_of}
use Rattle.model.specs.QueryTable.{entries_of}
use Rattle.std.specs.Prelude.{Ok, Err}
use Rattle.model.specs.declared.Page.{Page}
use Rattle.model.specs.declared.refusal.Refusal.{Refusal}
use Rattle.model.specs.Refusals.{verdict, reply, refused, told_page}
use Rattle.model.specs.Checks.{bad_node, tree_checks, query_checks, cursor_checks, room_checks, page_checks, quick_checks}
use Rattle.model.specs.Accepted.{Ordered, Below, Shaped}
use Rattle.model.specs.Answers.{answers}
use Rattle.model.specs.Pages.{row_of, has_begun, paged}
use Rattle.model.proofs.Exists.{none_of}
use Rattle.model.proofs.Refusals.{Passes, Passes-front}
use Rattle.model.proofs.Quick.{quick_accepts}
use Rattle.model.proofs.Accepted.{tree_ordered, tree_numbered, query_numbered, columns_most, columns_least, entries_some, last_path, query_shaped, query_evaluable}
use Rattle.aside.proofs.Accepted.{accepted_five}
use Rattle.checks.proofs.Verdicts.{zero_of, cursor_numbered}
use Rattle.tree.specs.Links.{PreviousSiblings}
use Rattle.model.specs.Services.{page_outcome, PageLeaves}
use Rattle.model.proofs.Refusals.{refused_some}
use Rattle.answers.specs.Search.{Listed, page_of}

-- An accepted call.

module _ (t q : List ℕ) (columns : ℕ) (c : Cursor) (room : ℕ) (v : Reply) (p : v ≡ verdict (page_checks t q columns c room)) (z : v.number ≡ 0) where
  passes : Passes (tree_checks t) × (Passes (query_checks q 1 columns) × Passes (cursor_checks t columns c))
  unfolding page_checks
  passes =
      let a = Passes-front (tree_checks t) (query_checks q 1 columns ++ (cursor_checks t columns c ++ room_checks room columns)) (tree_numbered t) (zero_of (page_checks t q columns c room) v p z) in
      let b = Passes-front (query_checks q 1 columns) (cursor_checks t columns c ++ room_checks room columns) (query_numbered q 1 columns) a.1 in
      let d = Passes-front (cursor_checks t columns c) (room_checks room columns) (cursor_numbered t columns c) b.1 in
      (a.0, (b.0, d.0))

  pub page_few : columns ≤ 3
  page_few = columns_most q 1 columns passes.1.0

  pub page_tree : Ordered (tree_of t)
  page_tree = tree_ordered t passes.0

  pub page_cursor : has_begun c ≡ true → Below (size_of t) (row_of columns c)
  unfolding cursor_checks Passes
  page_cursor b i l =
      let few : i < columns = omega (arith, length-take-le columns (c.first ∷ c.second ∷ c.third ∷ []) page_few) in
      ltb-true (get_or (row_of columns c) i 0) (size_of t)
      (not-false (ltb (get_or (row_of columns c) i 0) (size_of t)) (none_of columns (bad_node t (row_of columns c)) i (rw b at passes.1.1.0) few))

  pub page_listed : (prev : List ℕ) → PreviousSiblings (tree_of t) (size_of t) prev → Listed t prev q columns
  page_listed prev linked =
      let some : 0 < entries_of q = entries_some q 1 columns passes.1.0 in
      let shaped : Shaped q = query_shaped q 1 columns passes.1.0 in
      record {
        searchable = record {
          linked = record { tree = page_tree; siblings = linked };
          path = record { within = omega arith; sort = last_path q 1 columns passes.1.0 };
          least = columns_least q 1 columns passes.1.0;
          most = page_few;
          query = query_evaluable q 1 columns passes.1.0 t;
          few = omega (arith, shaped.few);
          five = accepted_five q 1 columns passes.1.0;
        };
        shaped = shaped;
      }

-- of an accepted quick call
pub quick_few : (t q : List ℕ) (columns : ℕ) (c : Cursor) (room : ℕ) (v : Reply) → v ≡ verdict (quick_checks t q columns c room) → v.number ≡ 0 → columns ≤ 3
quick_few t q columns c room v p z =
    page_few t q columns c room (verdict (page_checks t q columns c room)) refl
    (quick_accepts t q columns c room (zero_of (quick_checks t q columns c room) v p z))

-- What a call leaves.

module _ (t q : List ℕ) (columns : ℕ) (c : Cursor) (buffer : List ℕ) where
  pub page_refused : (e : Refusal) → refused e ≡ verdict (page_checks t q columns c (length buffer)) → PageLeaves (page_outcome t q columns c buffer) (told_page (Err e)) c buffer
  unfolding page_outcome
  page_refused e p = rw (← p, ne_eqb (refused e).number 0 (refused_some e)) (refl, refl, refl)

  pub page_accepted : reply 0 0 ≡ verdict (page_checks t q columns c (length buffer)) → (r : Page) (rows : List ℕ) → PageLeaves (paged columns (answers t q columns) c buffer) (page_of r.count r.more r.cursor).reply r.cursor rows
      → PageLeaves (page_outcome t q columns c buffer) (told_page (Ok r)) r.cursor rows
  unfolding page_outcome
  page_accepted p r rows h = rw (← p) h
