-- What a call leaves after a look at a shared table: refused for table or party, or what the service leaves that runs on the tree seen.
use Prim.Native.Nat.{ℕ, ◌+◌, ◌*◌, ◌≤◌}
use native.Mathlib.Omega.{arith}
use mathlib.Core.Path.{◌≡◌, refl, sym, subst}
use mathlib.Core.List.{List}
use lib.ListN.{length, take}
use lib.Seq.{length-take-le}
use Rattle.std.specs.Prelude.{Ok, Err}
use Rattle.model.specs.declared.Reply.{Reply}
use Rattle.model.specs.declared.refusal.Refusal.{Refusal}
use Rattle.model.specs.Refusals.{reply, refused, told_page, told_quick}
use Rattle.model.proofs.Refusals.{refused_some}
use Rattle.model.specs.declared.PageReply.{PageReply}
use Rattle.model.specs.declared.QuickReply.{QuickReply}
use Rattle.model.specs.declared.Cursor.{Cursor}
use Rattle.model.specs.Tree.{size_of}
use Rattle.model.specs.Pages.{Outcome, unpaged}
use Rattle.model.specs.Services.{quick_outcome, PageLeaves, Leaves, seen_quick}
use Rattle.model.specs.Parties.{over_seen}
use Rattle.model.proofs.Parties.{over_refused, over_accepted, leaves_refused, leaves_seen}
use Rattle.view.specs.View.{Looked}
use Rattle.quick.specs.Service.{plain_reply, quick_effort}
use Rattle.quick.specs.Service as over
use Rattle.index.specs.declared.IndexReply.{IndexReply}
use Rattle.index.specs.Index.{telling, index_reply, next_buffer, tags_buffer, IndexLeaves}
use Rattle.parties.specs.Services.{seen_effort, SeenQuickLeaves, seen_index, BothLeave}

-- refused for table or party

module _ {t : List ℕ} {party : ℕ} {e : Refusal} {own : List ℕ} (h : Looked t party (Err e) own) where
  pub one_refused : {R : Type 0} (reply_to : Reply → R) (f : List ℕ → R × List ℕ) (to : List ℕ) → Leaves (over_seen t party (λ v. (reply_to v, to)) f) (reply_to (refused e)) to
  one_refused reply_to f to = leaves_refused t party to reply_to f (refused e) h.reply (reply_to (refused e)) refl (refused_some e)

  -- any outcome, and what is said of it
  pub any_refused : {A : Type 0} (P : A → Type 0) (reply_to : Reply → A) (f : List ℕ → A) → P (reply_to (refused e)) → P (over_seen t party reply_to f)
  any_refused P reply_to f p = subst P (over_refused t party reply_to f (refused e) h.reply (refused_some e)) p

  pub page_refused : (f : List ℕ → Outcome) (c : Cursor) (buffer : List ℕ) → PageLeaves (over_seen t party (λ v. unpaged v c buffer) f) (told_page (Err e)) c buffer
  page_refused f c buffer = any_refused (λ o. PageLeaves o (told_page (Err e)) c buffer) (λ v. unpaged v c buffer) f (refl, refl, refl)

  pub quick_refused : (q : List ℕ) (columns : ℕ) (c : Cursor) (buffer : List ℕ) → SeenQuickLeaves t party q columns c buffer (told_quick (Err e)) c buffer
  unfolding seen_quick seen_effort
  quick_refused q columns c buffer = (
    any_refused (λ o. PageLeaves o (plain_reply (told_quick (Err e))) c buffer) (λ v. unpaged v c buffer) (λ u. quick_outcome u q columns c buffer) (refl, refl, refl),
    (any_refused (λ k. 0 ≡ k) (λ v. 0) (λ u. quick_effort u q columns c buffer) refl, omega arith),
  )

  pub both_refused : (next tags : List ℕ) → BothLeave (seen_index t party next tags) (telling (refused e) 0 0) next tags
  unfolding seen_index
  both_refused next tags =
      any_refused (λ o. BothLeave o (telling (refused e) 0 0) next tags) (λ v. (telling v 0 0, next, tags)) (λ u. (index_reply u next tags, next_buffer u next tags, tags_buffer u next tags))
      (refl, refl, refl)

-- run on the tree that is seen

module _ {t : List ℕ} {party count : ℕ} {own : List ℕ} (h : Looked t party (Ok count) own) where
  -- the tree stands at the front of its table
  pub front_length : count ≡ length (take count own)
  front_length = sym (length-take-le count own h.seen.within)

  pub one_seen : {R : Type 0} (reply_to : Reply → R) (f : List ℕ → R × List ℕ) (to after : List ℕ) (r : R) → Leaves (f (take count own)) r after
      → Leaves (over_seen t party (λ v. (reply_to v, to)) f) r after
  one_seen reply_to f to after r l = leaves_seen t party to reply_to f (reply 0 0) h.reply (take count own) after r l h.seen.front refl

  -- any outcome, and what is said of it
  pub any_seen : {A : Type 0} (P : A → Type 0) (reply_to : Reply → A) (f : List ℕ → A) → P (f (take count own)) → P (over_seen t party reply_to f)
  any_seen P reply_to f p = subst P (over_accepted t party reply_to f (reply 0 0) h.reply (take count own) h.seen.front refl) p

  pub page_seen : (f : List ℕ → Outcome) (c : Cursor) (buffer : List ℕ) (r : PageReply) (after : Cursor) (rows : List ℕ) → PageLeaves (f (take count own)) r after rows
      → PageLeaves (over_seen t party (λ v. unpaged v c buffer) f) r after rows
  page_seen f c buffer r after rows l = any_seen (λ o. PageLeaves o r after rows) (λ v. unpaged v c buffer) f l

  pub quick_seen : (q : List ℕ) (columns : ℕ) (c : Cursor) (buffer : List ℕ) (r : QuickReply) (after : Cursor) (rows : List ℕ)
      → over.QuickLeaves (take count own) q columns c buffer r after rows → SeenQuickLeaves t party q columns c buffer r after rows
  unfolding seen_quick seen_effort
  quick_seen q columns c buffer r after rows l = (
    any_seen (λ o. PageLeaves o (plain_reply r) after rows) (λ v. unpaged v c buffer) (λ u. quick_outcome u q columns c buffer) l.0,
    (
      any_seen (λ k. r.evaluations ≡ k) (λ v. 0) (λ u. quick_effort u q columns c buffer) l.1.0,
      subst (λ (u : List ℕ). r.evaluations ≤ 6 * size_of u * (r.count + 1)) h.seen.front l.1.1,
    ),
  )

  pub both_seen : (next tags : List ℕ) (r : IndexReply) (next' tags' : List ℕ) → IndexLeaves (take count own) next tags r next' tags' → BothLeave (seen_index t party next tags) r next' tags'
  unfolding seen_index
  both_seen next tags r next' tags' l =
      any_seen (λ o. BothLeave o r next' tags') (λ v. (telling v 0 0, next, tags)) (λ u. (index_reply u next tags, next_buffer u next tags, tags_buffer u next tags)) l
