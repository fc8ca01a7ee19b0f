-- What a check tells that is one search for the lowest bad place, and checks one after another.
use Prim.Native.Nat.{ℕ, ◌<◌}
use native.Mathlib.Omega.{arith}
use mathlib.Core.Path.{◌≡◌, refl, sym}
use mathlib.Core.Bool.{Bool}
use mathlib.Core.List.{List, [], ◌∷◌}
use borrow.Author.Tests.{lt-ltb}
use Rattle.model.specs.Refusals.{Check, lowest, refuse_at, reply, verdict, refused}
use Rattle.model.specs.declared.Reply.{Reply}
use Rattle.model.specs.declared.refusal.Refusal.{Refusal}
use Rattle.model.proofs.Refusals.{numbered, stop_at, pass_at, stop_err, pass_ok}

-- the search finds a place, and it finds none

module _ (k n : ℕ) (f : ℕ → Bool) where
  pub found_at : (x : ℕ) → (x < n) × (x ≡ lowest n f) → reply k x ≡ verdict (refuse_at k n f ∷ [])
  found_at x w = stop_at k [] n x f (reply k x) refl w.1 w.0

  pub found_none : lowest n f ≡ n → reply 0 0 ≡ verdict (refuse_at k n f ∷ [])
  unfolding verdict
  found_none w = pass_at k [] n n f (reply 0 0) refl (sym w) (omega arith)

-- a first check refuses, and it lets through

module _ (c : Check) (cs : List Check) where
  pub stop_one : (e : Refusal) → refused e ≡ verdict (c ∷ []) → refused e ≡ verdict (c ∷ cs)
  stop_one e p = stop_err (c ∷ []) cs e p

  pub pass_one : (r : Reply) → r ≡ verdict cs → reply 0 0 ≡ verdict (c ∷ []) → 0 < c.number → r ≡ verdict (c ∷ cs)
  unfolding numbered
  pass_one r q p l = pass_ok (c ∷ []) cs r q p (rw (lt-ltb 0 c.number l) refl)
