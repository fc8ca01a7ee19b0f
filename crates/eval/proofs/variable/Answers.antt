use Prim.Native.Nat.{ℕ}
use native.Mathlib.Omega.{arith}
use mathlib.Core.Path.{ap, ◌∙◌}
use Rattle.model.specs.Sets.{tab}
use Rattle.sets.specs.NodeSets.{only}
use Rattle.model.specs.Results.{assigned}
use Rattle.eval.proofs.variable.Goals as goal

pub single-requires : goal.single-requires
unfolding assigned
single-requires c = omega (arith, c.wide-x.ensures.0)

pub returns : goal.returns
unfolding assigned
returns c = c.single.ensures ∙ ap (λ (k : ℕ). tab 256 (only k)) c.wide-x.ensures.0
