-- What the checks of a quick page call give, and what the call leaves.
use Prim.Native.Nat.{ℕ}
use native.Mathlib.Omega.{arith}
use mathlib.Core.Path.{◌≡◌, refl, sym, ap, ◌∙◌, subst}
use mathlib.Core.Bool.{Bool, true, false}
use mathlib.Core.List.{List, ◌++◌}
use lib.ListN.{length}
use lib.Dec.{eqb}
use borrow.Author.Tests.{eqb-true, eq-eqb, ne_eqb}
use Rattle.model.specs.declared.Cursor.{Cursor}
use Rattle.model.specs.declared.Reply.{Reply}
use Rattle.model.specs.declared.PageReply.{PageReply}
use Rattle.model.specs.Tree.{tree_of, size_of}
use Rattle.model.specs.QueryTable.{last_of}
use Rattle.model.specs.Refusals.{verdict, reply, refused, told_page, told_quick}
use Rattle.model.specs.Checks.{tree_checks, query_checks, cursor_checks, room_checks, page_checks, quick_checks}
use Rattle.model.specs.Sharing.{sharing_checks}
use Rattle.model.specs.Accepted.{Ordered, Below, Shaped}
use Rattle.model.specs.Answers.{answers}
use Rattle.model.specs.Pages.{row_of, has_begun, after}
use Rattle.model.specs.Services.{page_outcome, quick_outcome, PageLeaves}
use Rattle.model.proofs.Refusals.{Passes, Passes-front, numbered, accepted, stop_all, pass_all}
use Rattle.model.proofs.Accepted.{tree_numbered, query_numbered, query_shaped}
use Rattle.model.proofs.Rule.{query_unshared}
use Rattle.model.proofs.Quick.{quick_accepts, quick_plain, quick_refused}
use Rattle.checks.proofs.Verdicts.{zero_of, listing_numbered, stop_both, pass_both}
use Rattle.tree.specs.Links.{PreviousSiblings}
use Rattle.answers.proofs.Accepted.{page_tree, page_cursor, page_listed}
use Rattle.std.specs.Prelude.{Ok, Err}
use Rattle.model.specs.declared.QuickPage.{QuickPage}
use Rattle.model.specs.declared.refusal.Refusal.{Refusal}
use Rattle.model.proofs.Booleans.{no_yes}
use Rattle.model.proofs.Refusals.{refused_some}
use Rattle.quick.specs.Effort.{effort}
use Rattle.quick.specs.Search.{Ready}
use Rattle.quick.specs.Service.{quick_effort, PageWritten, QuickLeaves}

sharing_numbered : (q : List ℕ) → numbered (sharing_checks q) ≡ true
unfolding sharing_checks numbered
sharing_numbered q = refl

-- The verdict.

module _ (t q : List ℕ) (columns : ℕ) (c : Cursor) (room : ℕ) (v : Reply) (p : v ≡ verdict (tree_checks t ++ query_checks q 1 columns)) where
  pub listing_stop : (v.number ≡ 0 → ⊥) → v ≡ verdict (quick_checks t q columns c room)
  unfolding quick_checks
  listing_stop z = stop_both (tree_checks t) (query_checks q 1 columns) (sharing_checks q ++ (cursor_checks t columns c ++ room_checks room columns)) v p z

  module _ (z : v.number ≡ 0) where
    query_passes : Passes (query_checks q 1 columns)
    query_passes =
        accepted (query_checks q 1 columns) (query_numbered q 1 columns)
        (Passes-front (tree_checks t) (query_checks q 1 columns) (tree_numbered t) (zero_of (tree_checks t ++ query_checks q 1 columns) v p z)).1

    pub listing_shaped : Shaped q
    listing_shaped = query_shaped q 1 columns query_passes

    module _ (s : Reply) (ps : s ≡ verdict (sharing_checks q)) where
      pub sharing_stop : (s.number ≡ 0 → ⊥) → s ≡ verdict (quick_checks t q columns c room)
      unfolding quick_checks
      sharing_stop y =
          pass_both (tree_checks t) (query_checks q 1 columns) (sharing_checks q ++ (cursor_checks t columns c ++ room_checks room columns)) v p s
          (stop_all (sharing_checks q) (cursor_checks t columns c ++ room_checks room columns) s ps y) z (listing_numbered t q columns)

      pub sharing_pass : (r : Reply) → r ≡ verdict (cursor_checks t columns c ++ room_checks room columns) → s.number ≡ 0 → r ≡ verdict (quick_checks t q columns c room)
      unfolding quick_checks
      sharing_pass r pr y =
          pass_both (tree_checks t) (query_checks q 1 columns) (sharing_checks q ++ (cursor_checks t columns c ++ room_checks room columns)) v p r
          (pass_all (sharing_checks q) (cursor_checks t columns c ++ room_checks room columns) s r pr ps y (sharing_numbered q)) z (listing_numbered t q columns)

-- An accepted call.

module _ (t q : List ℕ) (columns : ℕ) (c : Cursor) (room : ℕ) (v : Reply) (p : v ≡ verdict (quick_checks t q columns c room)) (z : v.number ≡ 0) where
  page_zero : (verdict (page_checks t q columns c room)).number ≡ 0
  page_zero = quick_accepts t q columns c room (zero_of (quick_checks t q columns c room) v p z)

  pub quick_tree : Ordered (tree_of t)
  quick_tree = page_tree t q columns c room (verdict (page_checks t q columns c room)) refl page_zero

  pub quick_cursor : has_begun c ≡ true → Below (size_of t) (row_of columns c)
  quick_cursor = page_cursor t q columns c room (verdict (page_checks t q columns c room)) refl page_zero

  keeps_rule : Passes (sharing_checks q)
  unfolding quick_checks
  keeps_rule =
      let later = cursor_checks t columns c ++ room_checks room columns in
      let a = Passes-front (tree_checks t) (query_checks q 1 columns ++ (sharing_checks q ++ later)) (tree_numbered t) (zero_of (quick_checks t q columns c room) v p z) in
      let b = Passes-front (query_checks q 1 columns) (sharing_checks q ++ later) (query_numbered q 1 columns) a.1 in
      (Passes-front (sharing_checks q) later (sharing_numbered q) b.1).0

  pub quick_ready : (prev : List ℕ) → PreviousSiblings (tree_of t) (size_of t) prev → Ready t prev q columns
  unfolding sharing_checks Passes
  quick_ready prev linked =
      let l = page_listed t q columns c room (verdict (page_checks t q columns c room)) refl page_zero prev linked in
      record { listed = l; rule = query_unshared q l.shaped keeps_rule.0 (last_of q) l.searchable.path.within l.searchable.path.sort }

-- What a call leaves.

module _ (t q : List ℕ) (columns : ℕ) (c : Cursor) (buffer : List ℕ) where
  pub leaves_refused : (e : Refusal) → refused e ≡ verdict (quick_checks t q columns c (length buffer)) → QuickLeaves t q columns c buffer (told_quick (Err e)) c buffer
  unfolding quick_outcome quick_effort
  leaves_refused e p =
      let z : (refused e).number ≡ 0 → ⊥ = refused_some e in
      rw (← p, ne_eqb (refused e).number 0 z) ((refl, refl, refl), (rw (ne_eqb (refused e).number 0 z), omega arith))

  pub leaves_accepted : reply 0 0 ≡ verdict (quick_checks t q columns c (length buffer)) → (r : QuickPage) (rows : List ℕ) → PageWritten t q columns c buffer r rows
      → QuickLeaves t q columns c buffer (told_quick (Ok r)) r.page.cursor rows
  unfolding quick_outcome quick_effort
  leaves_accepted p r rows (h, (l, e)) = (
    rw (← p) h,
    (e ∙ rw (← p) (ap (λ (x : PageReply). effort (size_of t) columns c (after columns (answers t q columns) c) x.count) h.0), l),
  )

-- The page by whichever way the query allows.

module _ (t q : List ℕ) (columns : ℕ) (c : Cursor) (buffer rows : List ℕ) where
  -- refused with 29, the buffer is as it was, and a page is due
  pub either_plain : (e : Refusal) → QuickLeaves t q columns c buffer (told_quick (Err e)) c rows → (b : Bool) → b ≡ eqb (refused e).number 29 → b ≡ true
      → (r : PageReply) (d : Cursor) (after : List ℕ) → PageLeaves (page_outcome t q columns c rows) r d after → PageLeaves (page_outcome t q columns c buffer) r d after
  either_plain e h b p y r d after w =
      let number : (refused e).number ≡ (quick_outcome t q columns c buffer).number = ap (λ (r : PageReply). r.number) h.0.0 in
      let same : rows ≡ buffer = h.0.2 ∙ (quick_refused t q columns c buffer (sym number ∙ eqb-true _ _ (sym p ∙ y))).2 in
      subst (λ (b : List ℕ). PageLeaves (page_outcome t q columns c b) r d after) same w

  -- refused otherwise, a page is refused so as well
  pub either_refused : (e : Refusal) → QuickLeaves t q columns c buffer (told_quick (Err e)) c rows → (b : Bool) → b ≡ eqb (refused e).number 29 → b ≡ false
      → PageLeaves (page_outcome t q columns c buffer) (told_page (Err e)) c rows
  either_refused e h b p y =
      let number : (refused e).number ≡ (quick_outcome t q columns c buffer).number = ap (λ (r : PageReply). r.number) h.0.0 in
      rw (← quick_plain t q columns c buffer (λ z. no_yes (sym p ∙ y) (eq-eqb _ _ (number ∙ z)))) h.0

  pub either_quick : (p : QuickPage) → QuickLeaves t q columns c buffer (told_quick (Ok p)) p.page.cursor rows → PageLeaves (page_outcome t q columns c buffer) (told_page (Ok p.page)) p.page.cursor rows
  either_quick p h =
      let number : 0 ≡ (quick_outcome t q columns c buffer).number = ap (λ (r : PageReply). r.number) h.0.0 in
      rw (← quick_plain t q columns c buffer (λ z. omega (arith, number, z))) h.0
