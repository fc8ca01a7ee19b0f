-- Laws for a turn.
use Rattle.std.specs.Prelude.{Result, Ok, Err}
use Prim.Native.Nat.{ℕ, suc, zero, ◌+◌, ◌-◌, ◌≤◌, ◌<◌}
use native.Mathlib.Omega.{arith}
use mathlib.Core.Path.{◌≡◌, refl, sym, ap, ◌∙◌, subst}
use mathlib.Core.Bool.{Bool, true}
use mathlib.Core.List.{List, ◌∷◌}
use lib.ListN.{length, set, take, get_or}
use lib.Seq.{get_or-take, length-take-le}
use lib.Dec.{ltb}
use Rattle.model.specs.declared.refusal.Refusal.{Refusal}
use Rattle.model.specs.declared.refusal.Refusal.TheVariants.{Ungrammatical}
use Rattle.model.specs.Refusals.{told, verdict}
use Rattle.machine.specs.declared.Word.{Word}
use Rattle.machine.specs.Machine.{Turn, stack_of, turn_of, may_end}
use Rattle.entries.specs.Postfix.{Made, Wrote}
use Rattle.emission.specs.Items.{word_items, end_items}
use Rattle.reader.specs.declared.Progress.{Progress}
use Rattle.reader.specs.declared.Sought.{Sought}
use Rattle.reader.specs.Turns.{sought_at, moved, turn_at, Within, Took, Advanced, any_in, place_in, place_checks, Finished}

-- the gaps as a slice of the stack

same_gaps : (a c : List ℕ) (i : ℕ) → ((j : ℕ) → j < i → get_or a j 0 ≡ get_or c j 0) → stack_of a i ≡ stack_of c i
unfolding stack_of
same_gaps a c zero h = refl
same_gaps a c (suc i) h =
    ap (λ (g : ℕ). g ∷ stack_of a i) (h i (omega arith)) ∙ ap (λ (l : List ℕ). get_or c i 0 ∷ l) (same_gaps a c i (λ j l. h j (omega arith)))

pub sliced : (a : List ℕ) (d : ℕ) → d ≤ length a → stack_of (take d a) (length (take d a)) ≡ stack_of a d
sliced a d h =
    ap (stack_of (take d a)) (length-take-le d a h) ∙ same_gaps (take d a) a d (λ j l. get_or-take d a j 0 l)

module _ (text house site : List ℕ) (p : Progress) (stack : List ℕ) (b : Made) where
  pub took : (w : Word) (q : Progress) (stack' g : List ℕ) (b' : Made) (s : Sought) → p.depth ≤ length stack → g ≡ take p.depth stack
      → q ≡ moved p w.number w.step w.len s
      → s ≡ sought_at text house site p (ltb w.number 34)
      → stack' ≡ set stack (p.depth - w.step.pops) w.step.push
      → Wrote (word_items p.focus (stack_of g (length g)) w.number p.axis s.tag) b b'
      → Took text house site p stack b w.number w.step w.len q stack' b'
  took w q stack' g b' s l i e h u v =
      let k = w.number in
      record {
        place = e ∙ ap (λ (x : Sought). moved p k w.step w.len x) h;
        gaps = u;
        wrote =
            subst (λ (ks : List ℕ). Wrote (word_items p.focus ks k p.axis (sought_at text house site p (ltb k 34)).tag) b b')
            (ap (λ (g : List ℕ). stack_of g (length g)) i ∙ sliced stack p.depth l)
            (subst (λ (x : Sought). Wrote (word_items p.focus (stack_of g (length g)) k p.axis x.tag) b b') h v);
      }

  pub finished_is : (r : Result Unit Refusal) (g : List ℕ) (b' : Made) (s : Sought) (y : Bool) → p.depth ≤ length stack → g ≡ take p.depth stack
      → s ≡ sought_at text house site p true
      → y ≡ may_end p.focus (stack_of g (length g))
      → told r ≡ verdict (place_checks p.at y (place_in s.unknown) (any_in s.unknown))
      → Wrote (end_items p.focus (stack_of g (length g)) p.axis s.tag) b b'
      → Finished text house site p stack b r b'
  finished_is r g b' s y l i h a j v =
      let gaps = ap (λ (g : List ℕ). stack_of g (length g)) i ∙ sliced stack p.depth l in
      record {
        judged =
            j
            ∙ ap (λ (x : Sought). verdict (place_checks p.at y (place_in x.unknown) (any_in x.unknown))) h
            ∙ ap (λ (m : Bool). verdict (place_checks p.at m (place_in (sought_at text house site p true).unknown) (any_in (sought_at text house site p true).unknown)))
            (a ∙ ap (may_end p.focus) gaps);
        wrote =
            subst (λ (ks : List ℕ). Wrote (end_items p.focus ks p.axis (sought_at text house site p true).tag) b b') gaps
            (subst (λ (x : Sought). Wrote (end_items p.focus (stack_of g (length g)) p.axis x.tag) b b') h v);
      }

  -- a turn by its cases
  module _ (t : Turn) (g : List ℕ) (l : p.depth ≤ length stack) (i : g ≡ take p.depth stack) (e : t ≡ turn_of p.focus (stack_of g (length g)) (lib.ListN.drop p.at text)) where
    is_turn : t ≡ turn_at text p stack
    is_turn =
        e ∙ ap (λ (ks : List ℕ). turn_of p.focus ks (lib.ListN.drop p.at text)) (ap (λ (g : List ℕ). stack_of g (length g)) i ∙ sliced stack p.depth l)

    pub turn_stops : (n : ℕ) → t ≡ Err n → (stack' : List ℕ) (b' : Made)
        → Advanced text house site p stack b (turn_at text p stack) (Err (Ungrammatical (p.at + n))) stack' b'
    turn_stops n h stack' b' =
        subst (λ (x : Turn). Advanced text house site p stack b x (Err (Ungrammatical (p.at + n))) stack' b') (sym h ∙ is_turn) refl

    pub turn_goes : (w : Word) (q : Progress) (stack' : List ℕ) (b' : Made) → t ≡ Ok w → Took text house site p stack b w.number w.step w.len q stack' b'
        → Advanced text house site p stack b (turn_at text p stack) (Ok q) stack' b'
    turn_goes w q stack' b' h v =
        subst (λ (x : Turn). Advanced text house site p stack b x (Ok q) stack' b') (sym h ∙ is_turn) (record { to = q; on = refl; took = v })

    pub stop_within : (n len : ℕ) → t ≡ Err n → Within p.at len (turn_at text p stack) → p.at + n ≤ len
    stop_within n len h w = subst (Within p.at len) (sym is_turn ∙ h) w

    pub word_within : (w : Word) (len : ℕ) → t ≡ Ok w → Within p.at len (turn_at text p stack) → (w.number < 38) × (p.at + w.len ≤ len)
    word_within w len h v = subst (Within p.at len) (sym is_turn ∙ h) v
