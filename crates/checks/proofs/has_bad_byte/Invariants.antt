use mathlib.Core.Path.{◌≡◌}
use Rattle.model.specs.Sets.{any}
use Rattle.model.specs.Checks.{bad_byte}
use Rattle.checks.proofs.has_bad_byte.Given as goal

abbrev pub invariant-loop-b : goal.invariant-loop-b
invariant-loop-b l = l.found ≡ any l.b-index (bad_byte l.from)
