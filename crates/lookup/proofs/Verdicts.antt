-- The verdicts of the checks, each with the walk that it goes with.
use Prim.Native.Nat.{ℕ, ◌≤◌, ◌<◌}
use mathlib.Core.Path.{◌≡◌, refl, sym, ◌∙◌}
use mathlib.Core.Bool.{true, false, not}
use mathlib.Core.List.{List, [], ◌∷◌}
use lib.Dec.{ltb}
use lib.ListN.{length, set, replicate}
use borrow.Author.Tests.{lt-ltb, le-ltb, eq-eqb, ne_eqb}
use Rattle.std.specs.Prelude.{Result, Ok, Err}
use Rattle.model.specs.declared.Reply.{Reply}
use Rattle.model.specs.declared.refusal.Refusal.{Refusal}
use Rattle.model.specs.Tree.{tree_of, size_of}
use Rattle.model.specs.Refusals.{refuse_here, reply, refused, verdict}
use Rattle.model.specs.Checks.{tree_checks, room_checks}
use Rattle.model.specs.Accepted.{AcceptedTree, Ordered}
use Rattle.model.proofs.Refusals.{numbered, accepted, stop, pass, stop_err, pass_ok}
use Rattle.model.proofs.Accepted.{tree_ordered, tree_numbered}
use Rattle.checks.proofs.Verdicts.{tree_first}
use Rattle.lookup.specs.Chain.{Chain, stops, breaks, meets, is_broken, broken_at, chain_of, chain_checks, lookup_checks}
use Rattle.lookup.specs.Parts.{along, walk_of, Follows, Judged}

-- the verdict of a walk is that of its chain
along_verdict : (c : Chain) (s : List ℕ) → (along c s).verdict ≡ verdict (refuse_here 27 (broken_at c) (is_broken c) ∷ [])
unfolding along broken_at is_broken verdict
along_verdict stops s = refl
along_verdict (breaks y) s = refl
along_verdict (meets y c) s = along_verdict c (set s y 1)

-- 36 and 27, before the walk and along it

module _ (t next : List ℕ) (start tag : ℕ) where
  pub start_refused : size_of t ≤ start → reply 36 0 ≡ verdict (chain_checks t next start tag)
  unfolding chain_checks
  start_refused h = stop 36 _ 0 true _ (reply 36 0) refl (rw (le-ltb start (size_of t) h)) refl

  module _ (h : start < size_of t) where
    past_start : not (ltb start (size_of t)) ≡ false
    past_start = rw (lt-ltb start (size_of t) h)

    pub index_refused : (length next ≡ size_of t → ⊥) → reply 27 0 ≡ verdict (chain_checks t next start tag)
    unfolding chain_checks
    index_refused g =
        pass 36 _ 0 false _ (reply 27 0) (stop 27 _ 0 true _ (reply 27 0) refl (rw (ne_eqb (length next) (size_of t) g)) refl) (sym past_start) refl

    module _ (g : length next ≡ size_of t) where
      verdict_walked : (v : Reply) → v ≡ (walk_of (chain_of (tree_of t) next start tag)).verdict → v ≡ verdict (chain_checks t next start tag)
      unfolding chain_checks walk_of
      verdict_walked v p =
          pass 36 _ 0 false _ v
          (pass 27 _ 0 false _ v (p ∙ along_verdict (chain_of (tree_of t) next start tag) (replicate 256 0)) (rw (eq-eqb (length next) (size_of t) g)) refl) (sym past_start) refl

      pub chain_walked : (r : Result (List ℕ) Refusal) → Follows (chain_of (tree_of t) next start tag) r → Judged (chain_checks t next start tag) (chain_of (tree_of t) next start tag) r
      chain_walked (Ok s) w = (verdict_walked (reply 0 0) w.0, w.1)
      chain_walked (Err e) w = verdict_walked (refused e) w

-- 5 to 7 before these, and 20 after them

chain_numbered : (t next : List ℕ) (start tag : ℕ) → numbered (chain_checks t next start tag) ≡ true
unfolding chain_checks numbered
chain_numbered t next start tag = refl

pub tree_accepted : (t : List ℕ) → AcceptedTree t → Ordered (tree_of t)
tree_accepted t ok = tree_ordered t (accepted (tree_checks t) (tree_numbered t) ok)

module _ (t next : List ℕ) (start tag room : ℕ) (ok : AcceptedTree t) where
  pub chain_refused : (e : Refusal) → refused e ≡ verdict (chain_checks t next start tag) → refused e ≡ verdict (lookup_checks t next start tag room)
  unfolding lookup_checks
  chain_refused e p = tree_first t _ (refused e) (stop_err (chain_checks t next start tag) _ e p) ok

  pub room_judged : (u : Reply) → u ≡ verdict (room_checks room (size_of t)) → reply 0 0 ≡ verdict (chain_checks t next start tag) → u ≡ verdict (lookup_checks t next start tag room)
  unfolding lookup_checks
  room_judged u q p = tree_first t _ u (pass_ok (chain_checks t next start tag) _ u q p (chain_numbered t next start tag)) ok
