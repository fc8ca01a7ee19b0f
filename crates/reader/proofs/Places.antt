-- Laws for the name before the place.
use Rattle.std.specs.Prelude.{Option, Some, None}
use Rattle.std.specs.Option.{unwrap_or}
use Prim.Native.Nat.{ℕ, ◌-◌}
use mathlib.Core.Path.{◌≡◌, refl, sym, ap, ◌∙◌}
use mathlib.Core.Bool.{Bool, true, false, not, ◌&&◌}
use mathlib.Core.List.{List}
use lib.ListN.{take, drop}
use lib.Dec.{ltb}
use Rattle.names.specs.Tags.{tag_of}
use Rattle.reader.specs.declared.Progress.{Progress}
use Rattle.reader.specs.declared.Sought.{Sought}
use Rattle.reader.specs.Turns.{first_place, sought_name, sought_at}

-- a test that does not fail
pub not_no : (b : Bool) → not b ≡ false → b ≡ true
not_no true h = refl
not_no false h = sym h

abbrev sought : ℕ → Option ℕ → Sought
sought tag unknown = record { tag = tag; unknown = unknown }

-- a name without a tag
pub unknown_name : (text house site : List ℕ) (p : Progress) (ended : Bool) (i : ℕ) → i ≡ unwrap_or p.unknown p.start
    → None ≡ tag_of house site (take (p.at - p.start) (drop p.start text)) → (ltb 5 p.focus && ended) ≡ true → sought 0 (Some i) ≡ sought_at text house site p ended
unfolding sought_at
unknown_name text house site p ended i e t n =
    ap (λ (j : ℕ). sought 0 (Some j)) e ∙ ap (sought 0) (first p.unknown) ∙ ap (λ (t : Option ℕ). sought_name t p) t ∙ rw n
  where
    first : (o : Option ℕ) → Some (unwrap_or o p.start) ≡ first_place o (Some p.start)
    first (Some j) = refl
    first None = refl
