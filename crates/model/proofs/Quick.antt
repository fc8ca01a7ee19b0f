-- A quick page is refused with 29, or leaves what a page leaves.
use Prim.Native.Nat.{ℕ, ◌<◌}
use native.Mathlib.Omega.{arith}
use mathlib.Core.Path.{◌≡◌, refl, sym, ap, ◌∙◌}
use mathlib.Core.Logic.{◌⊎◌, ⊎_elim}
use mathlib.Core.Bool.{Bool, true, false, ◌&&◌, cond}
use mathlib.Core.List.{List, [], ◌∷◌, ◌++◌}
use lib.Dec.{ltb, eqb}
use lib.ListN.{length}
use borrow.Author.Tests.{ltb-true, eqb-true}
use Rattle.model.specs.declared.Cursor.{Cursor}
use Rattle.model.specs.declared.Reply.{Reply}
use Rattle.model.specs.Sets.{any}
use Rattle.model.specs.QueryTable.{entries_of}
use Rattle.model.specs.Answers.{Row, answers}
use Rattle.model.specs.Refusals.{Check, lowest, refuse_at, reply, verdict}
use Rattle.model.specs.Sharing.{breaks, sharing_checks}
use Rattle.model.specs.Checks.{tree_checks_at, tree_checks, query_checks, cursor_checks, room_checks, page_checks, quick_checks}
use Rattle.model.specs.Services.{judged, page_outcome, quick_outcome}
use Rattle.model.proofs.Booleans.{Seen, seen, no_yes, yes_left, yes_right}
use Rattle.model.proofs.Booleans.Seen.{yes!, no! }

-- a check among others: the verdict is the one without it, or its own refusal
inserted : (c : Check) (rest front : List Check)
    → (verdict (front ++ (c ∷ rest)) ≡ verdict (front ++ rest)) ⊎ ((c.fails ≡ true) × (verdict (front ++ (c ∷ rest)) ≡ reply c.number c.place))
unfolding verdict
inserted c rest [] = go (seen c.fails)
  where
    go : Seen c.fails
        → (cond c.fails (reply c.number c.place) (verdict rest) ≡ verdict rest) ⊎ ((c.fails ≡ true) × (cond c.fails (reply c.number c.place) (verdict rest) ≡ reply c.number c.place))
    go (yes! p) = ◌⊎◌.inr (p, rw p)
    go (no! p) = ◌⊎◌.inl (rw p)
inserted c rest (d ∷ front) = go (seen d.fails) (inserted c rest front)
  where
    go : Seen d.fails
        → (verdict (front ++ (c ∷ rest)) ≡ verdict (front ++ rest)) ⊎ ((c.fails ≡ true) × (verdict (front ++ (c ∷ rest)) ≡ reply c.number c.place))
        → (verdict (d ∷ (front ++ (c ∷ rest))) ≡ verdict (d ∷ (front ++ rest))) ⊎ ((c.fails ≡ true) × (verdict (d ∷ (front ++ (c ∷ rest))) ≡ reply c.number c.place))
    go (yes! p) w = ◌⊎◌.inl (rw p)
    go (no! p) w = rw p w

-- each check's number is below k
unfoldable under : ℕ → List Check → Bool
under k [] = true
under k (c ∷ cs) = ltb c.number k && under k cs

-- then so is the verdict's
verdict_under : (k : ℕ) → 0 < k → (cs : List Check) → under k cs ≡ true → (verdict cs).number < k
unfolding under verdict
verdict_under k z [] h = z
verdict_under k z (c ∷ cs) h = go (seen c.fails) (verdict_under k z cs (yes_right (ltb c.number k) (under k cs) h))
  where
    go : Seen c.fails → (verdict cs).number < k → (cond c.fails (reply c.number c.place) (verdict cs)).number < k
    go (yes! p) w = rw p (ltb-true c.number k (yes_left (ltb c.number k) (under k cs) h))
    go (no! p) w = rw p w

-- the outcome of a call has its verdict's number
judged_number : (v : Reply) (k : ℕ) (rows : List Row) (c : Cursor) (buffer : List ℕ) → (judged v k rows c buffer).number ≡ v.number
judged_number v k rows c buffer = go (seen (eqb v.number 0))
  where
    go : Seen (eqb v.number 0) → (judged v k rows c buffer).number ≡ v.number
    go (yes! p) = rw p (sym (eqb-true v.number 0 p))
    go (no! p) = rw p

module _ (t q : List ℕ) (columns : ℕ) (c : Cursor) (room : ℕ) where
  page_under : (verdict (page_checks t q columns c room)).number < 29
  page_under = verdict_under 29 (omega arith) (page_checks t q columns c room) (unfold under page_checks tree_checks_at query_checks cursor_checks room_checks in refl)

  -- the verdict is that of a page, or the refusal 29
  verdicts : (verdict (quick_checks t q columns c room) ≡ verdict (page_checks t q columns c room))
      ⊎ ((any (entries_of q) (breaks q) ≡ true) × (verdict (quick_checks t q columns c room) ≡ reply 29 (lowest (entries_of q) (breaks q))))
  unfolding quick_checks page_checks sharing_checks tree_checks_at query_checks
  verdicts = inserted (refuse_at 29 (entries_of q) (breaks q)) (cursor_checks t columns c ++ room_checks room columns) (tree_checks t ++ query_checks q 1 columns)

  -- what a quick page accepts, a page accepts
  pub quick_accepts : (verdict (quick_checks t q columns c room)).number ≡ 0 → (verdict (page_checks t q columns c room)).number ≡ 0
  quick_accepts z =
      ⊎_elim (λ e. ap (λ (v : Reply). v.number) (sym e) ∙ z) (λ w. absurd (let h : ◌≡◌ {A = ℕ} 29 0 = ap (λ (v : Reply). v.number) (sym w.1) ∙ z in omega arith)) verdicts

module _ (t q : List ℕ) (columns : ℕ) (c : Cursor) (buffer : List ℕ) where
  -- for the reader: a quick page that is not refused with 29 leaves what a page leaves
  pub quick_plain : ((quick_outcome t q columns c buffer).number ≡ 29 → ⊥) → quick_outcome t q columns c buffer ≡ page_outcome t q columns c buffer
  unfolding quick_outcome page_outcome
  quick_plain h = ⊎_elim (λ e. rw e) (λ w. absurd (h (rw w.1))) (verdicts t q columns c (length buffer))

  -- for the reader: it is refused with 29 only if an entry breaks the rule, and then alters nothing
  pub quick_refused : (quick_outcome t q columns c buffer).number ≡ 29
      → (any (entries_of q) (breaks q) ≡ true) × ((quick_outcome t q columns c buffer).cursor ≡ c) × ((quick_outcome t q columns c buffer).buffer ≡ buffer)
  unfolding quick_outcome
  quick_refused h = ⊎_elim (λ e. absurd (other e)) (λ w. (w.0, rw w.1, rw w.1)) (verdicts t q columns c (length buffer))
    where
      other : verdict (quick_checks t q columns c (length buffer)) ≡ verdict (page_checks t q columns c (length buffer)) → ⊥
      other e =
          let n : (verdict (page_checks t q columns c (length buffer))).number ≡ 29 = ap (λ (v : Reply). v.number) (sym e) ∙ (sym (judged_number (verdict (quick_checks t q columns c (length buffer))) columns (answers t q columns) c buffer) ∙ h) in
          omega (arith, page_under t q columns c (length buffer))

  -- for the reader: of a query that keeps the rule, a quick page leaves what a page leaves
  pub rule_plain : any (entries_of q) (breaks q) ≡ false → quick_outcome t q columns c buffer ≡ page_outcome t q columns c buffer
  rule_plain keeps = quick_plain (λ h. no_yes keeps (quick_refused h).0)
