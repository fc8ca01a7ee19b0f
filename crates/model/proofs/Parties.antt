-- Laws of a shared table: what a party sees, by the parent; and isolation: what a party is given depends on a shared table only through
-- the tree that the party sees.
use Prim.Native.Nat.{ℕ, ◌/◌, ◌<◌}
use native.Mathlib.Omega.{arith}
use mathlib.Core.Path.{◌≡◌, refl, sym, ap, ◌∙◌}
use mathlib.Core.Bool.{Bool, true, false, not, ◌&&◌, ◌||◌, or-false}
use mathlib.Core.List.{List}
use lib.ListN.{length}
use lib.Dec.{ltb, eqb}
use borrow.Author.Tests.{eq-eqb, ne_eqb, not-false}
use Rattle.model.specs.declared.Reply.{Reply}
use Rattle.model.specs.Sets.{any}
use Rattle.model.specs.Tree.{Tree}
use Rattle.model.specs.Axes.{descendant, descendant_or_self}
use Rattle.model.specs.Refusals.{verdict}
use Rattle.model.specs.Checks.{tree_checks_at}
use Rattle.model.specs.Parties.{shared_tree, owner, bad_owner, shared_checks, party_checks, shared_verdict, open_to, sees, seen_table, over_seen}
use Rattle.model.specs.Services.{Leaves}
use Rattle.model.specs.Accepted.{Sound, Ordered}
use Rattle.model.proofs.Booleans.{yes_right, no_or}
use Rattle.model.proofs.Exists.{any_cong, any_or, any_one, none_of}
use Rattle.model.proofs.Axes.{descendant_step, descendant_zero, sound_falling, eqb_comm}
use Rattle.model.proofs.Refusals.{Passes, numbered, pass_all, Passes-front}
use Rattle.model.proofs.Accepted.{at_ordered}

-- What a party sees, by the parent.

split : (a b c : Bool) → ((a || b) && c) ≡ ((a && c) || (b && c))
split true b true = refl
split true true false = refl
split true false false = refl
split false b c = refl

open_and : (a b : Bool) → not (not a || b) ≡ (a && not b)
open_and true b = refl
open_and false b = refl

twice : (b : Bool) → not (not b) ≡ b
twice true = refl
twice false = refl

module _ (t : List ℕ) (party : ℕ) (s : Sound (shared_tree t)) where
  abbrev d : Tree
  d = shared_tree t

  abbrev shut : ℕ → Bool
  shut a = not (open_to t party a)

  up : (x a : ℕ) → 0 < x → x < d.size → descendant_or_self d a x ≡ (eqb a x || descendant_or_self d a (d.parent x))
  unfolding descendant_or_self
  up x a p l = rw (descendant_step d x (sound_falling d x s l) a x p l (omega arith), eqb_comm (d.parent x) a)

  -- node 0 is seen if it is open
  pub sees_root : sees t party 0 ≡ open_to t party 0
  unfolding sees descendant_or_self
  sees_root =
      ap not (any_cong d.size (λ a. (eqb a 0 || descendant d a 0) && shut a) (λ a. eqb a 0 && shut a) (λ a l. rw (descendant_zero d a, or-false (eqb a 0)))
      ∙ any_one d.size 0 shut s.some_node) ∙ twice (open_to t party 0)

  -- any other node, if it is open and its parent is seen
  pub sees_step : (x : ℕ) → 0 < x → x < d.size → sees t party x ≡ (open_to t party x && sees t party (d.parent x))
  unfolding sees
  sees_step x p l =
      ap not (any_cong d.size (λ a. descendant_or_self d a x && shut a) (λ a. (eqb a x && shut a) || (descendant_or_self d a (d.parent x) && shut a)) (λ a h. rw (up x a p l) (split (eqb a x) (descendant_or_self d a (d.parent x)) (shut a)))
      ∙ sym (any_or d.size (λ a. eqb a x && shut a) (λ a. descendant_or_self d a (d.parent x) && shut a))
      ∙ ap (λ (b : Bool). b || any d.size (λ a. descendant_or_self d a (d.parent x) && shut a)) (any_one d.size x shut l))
      ∙ open_and (open_to t party x) (any d.size (λ a. descendant_or_self d a (d.parent x) && shut a))

-- An accepted table.

pub shared_numbered : (t : List ℕ) → numbered (shared_checks t) ≡ true
unfolding shared_checks tree_checks_at numbered
shared_numbered t = refl

pub shared_parts : (t : List ℕ) → Passes (shared_checks t) → Passes (tree_checks_at 3 t) × (any (length t / 3) (bad_owner t) ≡ false)
unfolding shared_checks tree_checks_at Passes
shared_parts t w = ((w.0, (w.1.0, (w.1.1.0, tt))), w.1.1.1.0)

module _ (t : List ℕ) (party : ℕ) (w : Passes (shared_checks t)) where
  pub shared_ordered : Ordered (shared_tree t)
  shared_ordered = at_ordered 3 t (shared_parts t w).0

  -- node 0 is seen
  pub root_seen : sees t party 0 ≡ true
  root_seen =
      let b = no_or (ltb 2 (owner t 0)) (eqb 0 0 && not (eqb (owner t 0) 0)) (none_of (length t / 3) (bad_owner t) 0 (shared_parts t w).1 shared_ordered.sound.some_node) in
      sees_root t party shared_ordered.sound ∙ rw (not-false (eqb (owner t 0) 0) b.1)

  -- and with a node its parent
  pub parent_seen : (x : ℕ) → 0 < x → x < length t / 3 → sees t party x ≡ true → sees t party ((shared_tree t).parent x) ≡ true
  parent_seen x p l h = yes_right (open_to t party x) (sees t party ((shared_tree t).parent x)) (sym (sees_step t party shared_ordered.sound x p l) ∙ h)

  -- for the reader, the paper's sentence: a party sees a node if the owner is 0 or the party itself and the parent, which node 0 alone
  -- lacks, is seen
  pub seen_nodes : (x : ℕ) → x < length t / 3
      → sees t party x ≡ (open_to t party x && (eqb x 0 || sees t party ((shared_tree t).parent x)))
  seen_nodes x l = go (native.Mathlib.Decide.ℕ_discrete x 0)
    where
      go : Dec (x ≡ 0) → sees t party x ≡ (open_to t party x && (eqb x 0 || sees t party ((shared_tree t).parent x)))
      go (yes z) = rw z (sees_root t party shared_ordered.sound ∙ sym (mathlib.Core.Bool.and-true (open_to t party 0)))
      go (no z) = rw (ne_eqb x 0 z) (sees_step t party shared_ordered.sound x (pos x z) l)
        where
          pos : (x : ℕ) → (x ≡ 0 → ⊥) → 0 < x
          pos Prim.Native.Nat.zero n = absurd (n refl)
          pos (Prim.Native.Nat.suc x) n = omega arith

-- Isolation.

-- the verdict on an accepted table is that on the party
party_only : (t : List ℕ) (party : ℕ) → (verdict (shared_checks t)).number ≡ 0 → verdict (party_checks party) ≡ shared_verdict t party
party_only t party h = pass_all (shared_checks t) (party_checks party) (verdict (shared_checks t)) (verdict (party_checks party)) refl refl h (shared_numbered t)

-- for the reader: two shared tables that are not refused themselves, and of which the party sees the same tree, have the same outcome,
-- whatever the service: the reply, and all that was lent as it is left
pub isolation : {A : Type 0} (party : ℕ) (refused : Reply → A) (f : List ℕ → A) (t u : List ℕ)
    → (verdict (shared_checks t)).number ≡ 0 → (verdict (shared_checks u)).number ≡ 0 → seen_table t party ≡ seen_table u party
    → over_seen t party refused f ≡ over_seen u party refused f
unfolding over_seen
isolation party refused f t u a b e = rw (← party_only t party a, ← party_only u party b, e)

-- A call that is refused, and one that is not.

module _ {A : Type 0} (t : List ℕ) (party : ℕ) (refused : Reply → A) (f : List ℕ → A) (v : Reply) (p : v ≡ shared_verdict t party) where
  pub over_refused : (v.number ≡ 0 → ⊥) → refused v ≡ over_seen t party refused f
  unfolding over_seen
  over_refused z = rw (ne_eqb (shared_verdict t party).number 0 (λ h. z (ap (λ (r : Reply). r.number) p ∙ h)), p)

  pub over_accepted : (u : List ℕ) → u ≡ seen_table t party → v.number ≡ 0 → f u ≡ over_seen t party refused f
  unfolding over_seen
  over_accepted u e z = ap f e ∙ rw (eq-eqb (shared_verdict t party).number 0 (ap (λ (r : Reply). r.number) (sym p) ∙ z))

-- the same for a call with one buffer
module _ {R : Type 0} (t : List ℕ) (party : ℕ) (to : List ℕ) (refused : Reply → R) (f : List ℕ → R × List ℕ) (v : Reply) (p : v ≡ shared_verdict t party) where
  pub leaves_refused : (r : R) → r ≡ refused v → (v.number ≡ 0 → ⊥) → Leaves (over_seen t party (λ v. (refused v, to)) f) r to
  leaves_refused r e z =
      let o = over_refused {A = R × List ℕ} t party (λ v. (refused v, to)) f v p z in
      (e ∙ ap (λ (o : R × List ℕ). o.0) o, ap (λ (o : R × List ℕ). o.1) o)

  pub leaves_seen : (u after : List ℕ) (r : R) → Leaves (f u) r after → u ≡ seen_table t party → v.number ≡ 0
      → Leaves (over_seen t party (λ v. (refused v, to)) f) r after
  leaves_seen u after r w e z =
      let o = over_accepted {A = R × List ℕ} t party (λ v. (refused v, to)) f v p u e z in
      (w.0 ∙ ap (λ (o : R × List ℕ). o.0) o, w.1 ∙ ap (λ (o : R × List ℕ). o.1) o)

-- what an accepted verdict says of the table
pub shared_passes : (t : List ℕ) (party : ℕ) (v : Reply) → v ≡ shared_verdict t party → v.number ≡ 0 → Passes (shared_checks t)
shared_passes t party v p z = (Passes-front (shared_checks t) (party_checks party) (shared_numbered t) (ap (λ (r : Reply). r.number) (sym p) ∙ z)).0
