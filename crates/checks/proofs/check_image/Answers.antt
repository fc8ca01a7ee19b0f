use mathlib.Core.Path.{refl}
use borrow.Author.Rules.{rules}
use Rattle.model.specs.Checks.{image_checks}
use Rattle.model.proofs.Refusals.{stop_err, pass_ok}
use Rattle.checks.proofs.Verdicts.{tables_fit, tables_numbered, set_numbered}
use Rattle.checks.proofs.check_image.Goals as goal

pub returns-in_err-check_tables : goal.returns-in_err-check_tables
unfolding image_checks
returns-in_err-check_tables c = search (stop_err, rules)

pub check_set-requires : goal.check_set-requires
check_set-requires c = tables_fit _ _ _ _ _ c.in_ok-check_tables.ensures refl

pub returns-in_err-check_set : goal.returns-in_err-check_set
unfolding image_checks
returns-in_err-check_set c = search (stop_err, pass_ok, tables_numbered, rules)

pub returns : goal.returns
unfolding image_checks
returns c = search (pass_ok, tables_numbered, set_numbered, rules)
