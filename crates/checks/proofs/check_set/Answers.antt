use mathlib.Core.Path.{refl}
use Rattle.model.specs.Checks.{set_checks}
use Rattle.model.proofs.Refusals.{stop, pass}
use Rattle.model.proofs.Searches.{found_at, found_none}
use Rattle.checks.proofs.Verdicts.{unlike, alike}
use Rattle.checks.proofs.check_set.Goals as goal

pub returns-then-from-tree : goal.returns-then-from-tree
unfolding set_checks
returns-then-from-tree c = stop 18 _ 0 _ _ _ refl refl (unlike _ _ c.if-from-tree.true)

pub returns-in-Some : goal.returns-in-Some
unfolding set_checks
returns-in-Some c = pass 18 _ 0 _ _ _ (found_at 19 _ _ _ c.in-Some.ensures) refl (alike _ _ c.if-from-tree.false)

pub returns-in-None : goal.returns-in-None
unfolding set_checks
returns-in-None c = pass 18 _ 0 _ _ _ (found_none 19 _ _ c.in-None.ensures) refl (alike _ _ c.if-from-tree.false)
