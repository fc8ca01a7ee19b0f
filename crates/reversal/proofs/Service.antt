-- Laws for the service: what the checks secure, the verdict, and what a refused call and an accepted one leave.
use Prim.Native.Nat.{ℕ, ◌*◌, ◌<◌}
use mathlib.Core.Path.{◌≡◌, refl, sym, ap, ◌∙◌}
use mathlib.Core.Bool.{true, false, not, ◌&&◌}
use mathlib.Core.List.{List, ◌++◌}
use lib.ListN.{length, take, drop}
use lib.Dec.{eqb}
use borrow.Author.Tests.{eqb-true, not-false}
use Rattle.model.specs.declared.Reply.{Reply}
use Rattle.model.specs.declared.refusal.Refusal.{Refusal}
use Rattle.model.specs.QueryTable.{entries_of, kind, right, tag, entry}
use Rattle.model.specs.Kinds.{names_variable, has_right}
use Rattle.model.specs.Encoding.{path_term}
use Rattle.model.specs.Refusals.{reply, making, verdict, refused}
use Rattle.model.specs.Checks.{bad_variable, bad_unnamed, query_checks}
use Rattle.model.specs.Services.{Leaves}
use Rattle.model.proofs.Booleans.{Seen, yes!, no!, seen, no_yes, no_or, guarded}
use Rattle.model.proofs.Encoding.{length_encode}
use Rattle.model.proofs.Refusals.{Passes, accepted, leaves_none, leaves_table, refused_some, stop_err, pass_ok}
use Rattle.model.proofs.Accepted.{fields_at, axis_at, query_shaped, query_numbered}
use Rattle.entries.specs.Size.{size_checks}
use Rattle.entries.proofs.Size.{same_size, size_passes, counted_few}
use Rattle.reversal.specs.Building.{Reversible, Makes}
use Rattle.reversal.specs.Service.{reversed_query, reversed_size, reversed_table, reverse_checks, reverse_verdict, reversal}

-- an accepted query can be reversed
module _ (q : List ℕ) (least columns : ℕ) (checked : Passes (query_checks q least columns)) where
  module _ (e : ℕ) (within : e < entries_of q) where
    untagged_at : names_variable (kind q e) ≡ true → tag q e ≡ 0
    unfolding names_variable
    untagged_at h =
        let u = (no_or (bad_variable columns (entry q e)) (bad_unnamed (entry q e)) (fields_at q least columns checked e within).1).1 in
        let t = (no_or (not (has_right (kind q e)) && not (eqb (right q e) 0)) (not (eqb (kind q e) 0) && not (eqb (tag q e) 0)) u).1 in
        go t (seen (eqb (kind q e) 0))
      where
        go : (not (eqb (kind q e) 0) && not (eqb (tag q e) 0)) ≡ false → Seen (eqb (kind q e) 0) → tag q e ≡ 0
        go t (yes! k) = no_yes (rw (eqb-true (kind q e) 0 k)) h
        go t (no! k) = eqb-true (tag q e) 0 (not-false (eqb (tag q e) 0) (guarded (not (eqb (kind q e) 0)) (not (eqb (tag q e) 0)) t (rw k)))

  pub reversible : Reversible q
  reversible = record { formed = (query_shaped q least columns checked).formed; axis = axis_at q least columns checked; untagged = untagged_at }

-- a call: its query is refused, or let through
module _ (q : List ℕ) (columns : ℕ) (out : List ℕ) where
  pub query_refused : (e : Refusal) → refused e ≡ verdict (query_checks q 0 columns) → Leaves (reversal q columns out) (making (refused e) 0) out
  unfolding reversal reverse_checks
  query_refused e p =
      leaves_none (making (refused e) 0) (refused e) (reverse_verdict q columns out)
      (stop_err (query_checks q 0 columns) (size_checks (reversed_size q) (length out)) e p) (reversed_table q) out refl (refused_some e)

  module _ (checked : reply 0 0 ≡ verdict (query_checks q 0 columns)) where
    pub checks_passed : Passes (query_checks q 0 columns)
    checks_passed = accepted (query_checks q 0 columns) (query_numbered q 0 columns) (sym (ap (λ (r : Reply). r.number) checked))

    -- and so is the table that was made of it
    module _ (entries : ℕ) (table : List ℕ) (w : Makes (reversed_query q) entries table) where
      same_verdict : (u : Reply) → u ≡ verdict (size_checks entries (length out)) → u ≡ reverse_verdict q columns out
      unfolding reverse_checks
      same_verdict u weighed =
          pass_ok (query_checks q 0 columns) (size_checks (reversed_size q) (length out)) u
          (weighed ∙ ap (λ (i : ℕ). verdict (size_checks i (length out))) w.counted ∙ same_size (reversed_size q) (length out)) checked (query_numbered q 0 columns)

      pub made_refused : (e : Refusal) → refused e ≡ verdict (size_checks entries (length out)) → Leaves (reversal q columns out) (making (refused e) 0) out
      unfolding reversal
      made_refused e p =
          leaves_none (making (refused e) 0) (refused e) (reverse_verdict q columns out) (same_verdict (refused e) p) (reversed_table q) out refl (refused_some e)

      pub made_accepted : (after : List ℕ) → reply 0 0 ≡ verdict (size_checks entries (length out)) → after ≡ take (4 * entries) table ++ drop (4 * entries) out
          → Leaves (reversal q columns out) (making (reply 0 0) (4 * entries)) after
      unfolding reversal
      made_accepted after p a =
          let l = (size_passes entries (length out) (reply 0 0) p refl).0 in
          let (few, f) = counted_few (reversed_size q) entries w.counted l in
          leaves_table (making (reply 0 0) (4 * entries)) (reply 0 0) (reverse_verdict q columns out) (same_verdict (reply 0 0) p) (reversed_table q) out (4 * entries) after refl
          (a ∙ ap (λ (l : List ℕ). l ++ drop (4 * entries) out) (ap (λ (i : ℕ). take (4 * i) table) f ∙ w.front few))
          refl (length_encode (path_term (reversed_query q)) 0 ∙ ap (λ (i : ℕ). 4 * i) (sym f))
