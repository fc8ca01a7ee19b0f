-- A pass over the entries that keeps a number for each of them, whatever the number is.
use Prim.Native.Nat.{ℕ, ◌<◌}
use mathlib.Core.Path.{◌≡◌, ap, ◌∙◌}
use mathlib.Core.List.{List}
use lib.ListN.{get_or}
use Rattle.aside.specs.Aside.{NumbersTo}

-- what is kept for an entry before e
pub kept_for : (f : ℕ → ℕ) {e x i : ℕ} {kept : List ℕ} → NumbersTo f e kept → x ≡ i → x < e → get_or kept x 0 ≡ f i
kept_for f c p l = c.at _ l ∙ ap f p
