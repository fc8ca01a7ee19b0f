-- The reading of typed queries is the grammar's: what is accepted, as what, and the place of refusal 24.
use Prim.Native.Nat.{ℕ, suc, ◌≤◌, ◌<◌}
use native.Mathlib.Omega.{arith}
use mathlib.Core.Path.{◌≡◌, refl, sym, ap, ◌∙◌}
use mathlib.Core.Logic.{◌⊎◌}
use mathlib.Core.Logic.◌⊎◌.{inl, inr}
use mathlib.Core.Bool.{Bool, true, false}
use mathlib.Core.List.{List, ◌++◌}
use lib.Dec.{ltb}
use lib.ListN.{length, take}
use borrow.Author.Tests.{ltb-true, ltb-false}
use Rattle.model.proofs.Booleans.{no_yes}
use Rattle.grammar.specs.Grammar.{Grammatical, Viable}
use Rattle.grammar.specs.Online.{Place, run, reach}
use Rattle.grammar.specs.Online.Place.{dead, between}
use Rattle.grammar.specs.Automaton.{State, next, start, Outcome, outcome_of, is_accepted, readable, stops_at}
use Rattle.grammar.specs.Automaton.Outcome.{accepted, refused}
use Rattle.grammar.proofs.Online.{run_append, run_dead, reach_alive, reach_dead, reach_most, dead_is}
use Rattle.grammar.proofs.Reading.{reading}
use Rattle.grammar.proofs.Soundness.{good, good_viable, sound}

-- an accepted text is grammatical
pub readable_grammatical : (text : List ℕ) → readable text ≡ true → Grammatical text
unfolding readable
readable_grammatical text h = go (outcome_of (run next (between start) text)) refl h
  where
    go : (o : Outcome) → outcome_of (run next (between start) text) ≡ o → is_accepted o ≡ true → Grammatical text
    go (accepted e) p q = let w = sound text e p in record { path = e; sound = w.0; looks = w.1 }
    go refused p q = no_yes refl q

-- the tree that is read from a grammatical text is its reading
pub read_reading : (text : List ℕ) (g : Grammatical text) → outcome_of (run next (between start) text) ≡ accepted g.path
read_reading text g = ap (λ (t : List ℕ). outcome_of (run next (between start) t)) (sym g.looks) ∙ reading g.path g.sound

-- a grammatical text is accepted
pub grammatical_readable : (text : List ℕ) → Grammatical text → readable text ≡ true
unfolding readable
grammatical_readable text g = ap is_accepted (read_reading text g)

-- and has one reading
pub one_reading : (text : List ℕ) (g h : Grammatical text) → g.path ≡ h.path
one_reading text g h = let p : accepted g.path ≡ accepted h.path = sym (read_reading text g) ∙ read_reading text h in cc

-- the bytes before the place of refusal 24 begin some grammatical text
pub place_viable : (text : List ℕ) → Viable (take (stops_at text) text)
unfolding stops_at
place_viable text =
    let c = take (reach next (between start) text) text in
    good_viable (run next (between start) c) c (good c) (reach_alive next text (between start) refl)

-- and the place is the length, or no grammatical text begins with those and the byte that stands there
pub place_stops : (text : List ℕ) → (stops_at text ≡ length text) ⊎ ((stops_at text < length text) × (Viable (take (suc (stops_at text)) text) → ⊥))
unfolding stops_at
place_stops text = go (ltb (stops_at text) (length text)) refl
  where
    none : stops_at text < length text → Viable (take (suc (stops_at text)) text) → ⊥
    none l (q, g) =
        let c = take (suc (reach next (between start) text)) text in
        let d : run next (between start) c ≡ dead = dead_is (run next (between start) c) (reach_dead next text (between start) l) in
        let r : run next (between start) (c ++ q) ≡ dead = run_append next (between start) c q ∙ ap (λ (p : Place State). run next p q) d ∙ run_dead next q in
        let n : refused ≡ accepted g.path = sym (ap outcome_of r) ∙ read_reading (c ++ q) g in
        let z : ◌≡◌ {A = ℕ} 0 1 = cc in
        omega arith

    go : (b : Bool) → ltb (stops_at text) (length text) ≡ b → (stops_at text ≡ length text) ⊎ ((stops_at text < length text) × (Viable (take (suc (stops_at text)) text) → ⊥))
    go true p = let l : stops_at text < length text = ltb-true (stops_at text) (length text) p in inr (l, none l)
    go false p =
        let m : length text ≤ stops_at text = ltb-false (stops_at text) (length text) p in
        let n : stops_at text ≤ length text = reach_most next text (between start) in
        inl (omega arith)
