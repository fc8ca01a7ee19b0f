-- A search among the choices finds the word that is read next, or the place where reading stops.
use Prim.Native.Nat.{ℕ, zero, suc, ◌≤◌, ◌<◌}
use native.Mathlib.Omega.{arith}
use mathlib.Core.Path.{◌≡◌, refl, sym, ap, ◌∙◌}
use mathlib.Core.Bool.{Bool, true, false, ◌&&◌, ◌||◌, cond}
use mathlib.Core.List.{List, [], ◌∷◌}
use lib.ListN.{length}
use lib.Dec.{ltb, eqb, eqb-suc-suc, leb-suc-suc}
use borrow.Author.Tests.{lt-ltb, le-ltb}
use Rattle.model.proofs.Booleans.{no_yes, no_or, both_yes}
use Rattle.grammar.specs.Online.{Choice, Place, advance, settle, taken, feed, run, reach}
use Rattle.grammar.specs.Online.Choice.{choice}
use Rattle.grammar.specs.Online.Place.{dead, between, within}
use Rattle.words.specs.Words.{common, greater}
use Rattle.grammar.proofs.Online.{none_empty, is_cons, run_dead}
use Rattle.words.proofs.Scanning.{common_nil}

-- some choice stands whole at the front of the text
unfoldable pub hits : {X : Type 0} → List (Choice X) → List ℕ → Bool
hits [] t = false
hits (choice m w x ∷ l) t = (m && eqb (common w t) (length w)) || hits l t

-- the most bytes with which a choice begins like the text
unfoldable pub most : {X : Type 0} → List (Choice X) → List ℕ → ℕ
most [] t = 0
most (choice m w x ∷ l) t = greater (cond m (common w t) 0) (most l t)

abbrev is_nil : {X : Type 0} → List (Choice X) → Bool
is_nil [] = true
is_nil (a ∷ l) = false

greater_suc : (a b : ℕ) → greater (suc a) (suc b) ≡ suc (greater a b)
greater_suc a b = rw (leb-suc-suc (suc a) b) (go (ltb a b))
  where
    go : (t : Bool) → cond t (suc b) (suc a) ≡ suc (cond t b a)
    go true = refl
    go false = refl

pub greater_zero : (b : ℕ) → greater 0 b ≡ b
greater_zero zero = refl
greater_zero (suc b) = rw (lt-ltb 0 (suc b) (let z : 0 < suc b = omega arith in z))

greater_none : (a : ℕ) → greater a 0 ≡ a
greater_none a = rw (le-ltb a 0 (let z : 0 ≤ a = omega arith in z))

-- after one byte

hits_advance : {X : Type 0} (l : List (Choice X)) (b : ℕ) (t : List ℕ) → none_empty l ≡ true → hits l (b ∷ t) ≡ hits (advance b l) t
unfolding hits advance common
hits_advance [] b t h = refl
hits_advance (choice m [] x ∷ l) b t h = no_yes refl h
hits_advance (choice false (c ∷ w) x ∷ l) b t h = hits_advance l b t h
hits_advance (choice true (c ∷ w) x ∷ l) b t h = go (eqb b c) (hits_advance l b t h)
  where
    go : (p : Bool) → hits l (b ∷ t) ≡ hits (advance b l) t
        → (eqb (cond p (suc (common w t)) 0) (suc (length w)) || hits l (b ∷ t)) ≡ hits (cond p (choice true w x ∷ advance b l) (advance b l)) t
    go true ih = rw (eqb-suc-suc (common w t) (length w), ih)
    go false ih = rw (lib.Dec.eqb-zero-suc (length w)) ih

most_advance : {X : Type 0} (l : List (Choice X)) (b : ℕ) (t : List ℕ) → none_empty l ≡ true
    → most l (b ∷ t) ≡ cond (is_nil (advance b l)) 0 (suc (most (advance b l) t))
unfolding most advance common
most_advance [] b t h = refl
most_advance (choice m [] x ∷ l) b t h = no_yes refl h
most_advance (choice false (c ∷ w) x ∷ l) b t h = greater_zero (most l (b ∷ t)) ∙ most_advance l b t h
most_advance (choice true (c ∷ w) x ∷ l) b t h = go (eqb b c) (most_advance l b t h)
  where
    kept : {Y : Type 0} (l' : List (Choice Y)) → greater (suc (common w t)) (cond (is_nil l') 0 (suc (most l' t))) ≡ suc (greater (common w t) (most l' t))
    kept [] = greater_none (suc (common w t)) ∙ ap suc (sym (greater_none (common w t)))
    kept (a ∷ l') = greater_suc (common w t) (most (a ∷ l') t)

    go : (p : Bool) → most l (b ∷ t) ≡ cond (is_nil (advance b l)) 0 (suc (most (advance b l) t))
        → greater (cond p (suc (common w t)) 0) (most l (b ∷ t))
        ≡ cond (is_nil (cond p (choice true w x ∷ advance b l) (advance b l))) 0 (suc (most (cond p (choice true w x ∷ advance b l) (advance b l)) t))
    go true ih = rw ih (kept (advance b l))
    go false ih = greater_zero (most l (b ∷ t)) ∙ ih

-- what is left after a byte has no word that is read to its end
word_left : (v t : List ℕ) → eqb (common v t) (length v) ≡ false → is_cons v ≡ true
unfolding common
word_left [] t h = no_yes h refl
word_left (c ∷ v) t h = refl

advance_none : {X : Type 0} (l : List (Choice X)) (b : ℕ) (t : List ℕ) → hits (advance b l) t ≡ false → none_empty (advance b l) ≡ true
unfolding advance hits
advance_none [] b t h = refl
advance_none (choice m [] x ∷ l) b t h = advance_none l b t h
advance_none (choice m (c ∷ w) x ∷ l) b t h = go (m && eqb b c) h (advance_none l b t)
  where
    go : (k : Bool) → hits (cond k (choice true w x ∷ advance b l) (advance b l)) t ≡ false → (hits (advance b l) t ≡ false → none_empty (advance b l) ≡ true)
        → none_empty (cond k (choice true w x ∷ advance b l) (advance b l)) ≡ true
    go true p ih =
        let q = no_or (eqb (common w t) (length w)) (hits (advance b l) t) p in
        both_yes (word_left w t q.0) (ih q.1)
    go false p ih = ih p

settle_none : {X : Type 0} (all l : List (Choice X)) → none_empty l ≡ true → settle all l ≡ within all
unfolding settle
settle_none all [] h = refl
settle_none all (choice m [] x ∷ l) h = no_yes refl h
settle_none all (choice m (c ∷ w) x ∷ l) h = settle_none all l h

abbrev pub is_between : {X : Type 0} → Place X → Bool
is_between dead = false
is_between (between x) = true
is_between (within l) = false

most_end : {X : Type 0} (l : List (Choice X)) → most l [] ≡ 0
unfolding most
most_end [] = refl
most_end (choice m w x ∷ l) = rw (nothing m w, most_end l)
  where
    nothing : (m : Bool) (w : List ℕ) → cond m (common w []) 0 ≡ 0
    nothing true w = common_nil w
    nothing false w = refl

module _ {X : Type 0} (next : X → List (Choice X)) where
  -- what the places of a search come to, for the choices l and the text t
  abbrev Stops : List (Choice X) → List ℕ → Type 0
  Stops l t = (reach next (within l) t ≡ most l t) × (is_between (run next (within l) t) ≡ false)

  stops_after : (l : List (Choice X)) (b : ℕ) (t : List ℕ) (k : List (Choice X)) → advance b l ≡ k → none_empty l ≡ true → none_empty k ≡ true → Stops k t → Stops l (b ∷ t)
  unfolding reach run feed taken
  stops_after l b t [] e h n i =
      rw (e, run_dead next t) (sym (most_advance l b t h ∙ rw e), refl)
  stops_after l b t (a ∷ k) e h n i =
      rw (e, settle_none (a ∷ k) (a ∷ k) n) (ap suc i.0 ∙ sym (most_advance l b t h ∙ rw e), i.1)

  -- no choice stands at the front: reading stops after the most bytes with which one begins, or the text ends within a word
  pub misses : (t : List ℕ) (l : List (Choice X)) → none_empty l ≡ true → hits l t ≡ false → Stops l t
  misses [] l h n = unfold reach run in (sym (most_end l), refl)
  misses (b ∷ t) l h n =
      let m : hits (advance b l) t ≡ false = sym (hits_advance l b t h) ∙ n in
      let k : none_empty (advance b l) ≡ true = advance_none l b t m in
      stops_after l b t (advance b l) refl h k (misses t (advance b l) k m)

  -- the same from a state
  pub stops : (x : X) (b : ℕ) (t : List ℕ) → none_empty (next x) ≡ true → hits (next x) (b ∷ t) ≡ false
      → (reach next (between x) (b ∷ t) ≡ most (next x) (b ∷ t)) × (is_between (run next (between x) (b ∷ t)) ≡ false)
  stops x b t h n = unfold reach run feed in misses (b ∷ t) (next x) h n
