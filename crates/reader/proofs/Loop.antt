-- Laws for the loop that reads a text turn by turn.
use Rattle.std.specs.Prelude.{Result, Ok, Err}
use Prim.Native.Nat.{ℕ, ◌+◌, ◌-◌, ◌≤◌, ◌<◌}
use mathlib.Core.Path.{◌≡◌, refl, sym, ap, ◌∙◌, subst}
use mathlib.Core.List.{List}
use lib.ListN.{length}
use Rattle.model.specs.declared.refusal.Refusal.{Refusal}
use Rattle.model.specs.declared.refusal.Refusal.TheVariants.{Ungrammatical}
use Rattle.model.specs.Refusals.{told}
use Rattle.machine.specs.declared.Word.{Word}
use Rattle.machine.specs.Machine.{Turn, reads}
use Rattle.entries.specs.Postfix.{Made, Sound}
use Rattle.reader.specs.declared.Progress.{Progress}
use Rattle.reader.specs.Turns.{beginning, turn_at, Took, Advanced, ReadsTo}
use Rattle.reader.proofs.Keeping.{Kept, kept_start, kept_stuck, kept_on, kept_less}

-- a step that goes on, and one that does not
other_step : (q : Progress) (e : Refusal) {B : Type 0} → ◌≡◌ {A = Result Progress Refusal} (Ok q) (Err e) → B
other_step q e h = cc

module _ (text house site : List ℕ) (b₀ : Made) where
  pub kept_first : (p : Progress) (stack : List ℕ) → p ≡ beginning → length stack ≡ 1024 → Sound b₀ → Kept text house site b₀ p stack b₀
  kept_first p stack e h s = subst (λ (x : Progress). Kept text house site b₀ x stack b₀) (sym e) (kept_start text house site b₀ stack h s)

  module _ (p : Progress) (stack : List ℕ) (b : Made) (w : Kept text house site b₀ p stack b)
      (low : p.at < length text) (short : length text ≤ 1024) (r : Result Progress Refusal) (stack' : List ℕ) (b' : Made)
      (a : Advanced text house site p stack b (turn_at text p stack) r stack' b') where
    abbrev Turning : Turn → Type 0
    Turning t = Advanced text house site p stack b t r stack' b'

    -- no text goes on
    pub turn_stuck : (e : Refusal) → r ≡ Err e → ReadsTo text house site (Err e) b'
    turn_stuck e h = go (turn_at text p stack) refl a
      where
        go : (t : Turn) → t ≡ turn_at text p stack → Turning t → ReadsTo text house site (Err e) b'
        go (Err i) q g =
            let z : e ≡ Ungrammatical (p.at + i) = cc in
            kept_stuck text house site b₀ p stack b w i (Err e) b' low q (ap (λ (x : Refusal). told (Err x)) z)
        go (Ok x) q g = other_step g.to e (sym g.on ∙ h)

    -- a word was read
    took_word : (q : Progress) → r ≡ Ok q → (x : Word) × (reads x.number x.step x.len ≡ turn_at text p stack) × Took text house site p stack b x.number x.step x.len q stack' b'
    took_word q e = go (turn_at text p stack) refl a
      where
        go : (t : Turn) → t ≡ turn_at text p stack → Turning t
            → (x : Word) × (reads x.number x.step x.len ≡ turn_at text p stack) × Took text house site p stack b x.number x.step x.len q stack' b'
        go (Err i) u h = other_step q (Ungrammatical (p.at + i)) (sym e ∙ h)
        go (Ok x) u h =
            let z : h.to ≡ q = cc in
            (x, u, subst (λ (y : Progress). Took text house site p stack b x.number x.step x.len y stack' b') z h.took)

    pub turn_on : (q : Progress) → r ≡ Ok q → Kept text house site b₀ q stack' b'
    turn_on q e =
        let t = took_word q e in
        kept_on text house site b₀ p stack b w t.0.number t.0.step t.0.len low short t.1 q stack' b' t.2

    pub turn_less : (q : Progress) → r ≡ Ok q → length text - q.at < length text - p.at
    turn_less q e =
        let t = took_word q e in
        kept_less text house site b₀ p stack b w t.0.number t.0.step t.0.len low short t.1 q stack' b' t.2
