use mathlib.Core.Path.{refl}
use Rattle.model.specs.Checks.{node_checks}
use Rattle.model.proofs.Refusals.{stop, pass}
use Rattle.checks.proofs.Verdicts.{unlike, alike}
use Rattle.checks.proofs.check_nodes.Goals as goal

pub returns-then-nodes-columns : goal.returns-then-nodes-columns
unfolding node_checks
returns-then-nodes-columns c = stop 16 _ 0 _ _ _ refl refl (unlike _ _ c.if-nodes-columns.true)

pub returns : goal.returns
unfolding node_checks
returns c = pass 16 _ 0 _ _ _ c.check_listed.ensures refl (alike _ _ c.if-nodes-columns.false)
