use mathlib.Core.Path.{◌≡◌, refl}
use Rattle.model.specs.declared.Entry.{Entry}
use Rattle.model.specs.declared.kind.Kind.{Kind}
use Rattle.model.specs.declared.kind.Kind.TheVariants.{Variable}
use Rattle.model.specs.Numbers.{kind_number}
use Rattle.opening.specs.Opening.{stand_in}
use Rattle.opening.proofs.stand_in.Goals as goal

other_stands : (k : Kind) → (k ≡ Variable → ⊥) → ◌≡◌ {A = Entry} (record { kind = 8; left = 0; right = 0; tag = 0 }) (stand_in (kind_number k))
unfolding stand_in
other_stands Variable h = absurd (h refl)
other_stands k h = refl

pub returns-in-Variable : goal.returns-in-Variable
unfolding stand_in
returns-in-Variable c = rw c.in-Variable.is

pub returns-in_default : goal.returns-in_default
returns-in_default c = other_stands _ c.in_default.not-Variable
