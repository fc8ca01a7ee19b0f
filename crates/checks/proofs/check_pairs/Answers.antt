use mathlib.Core.Path.{refl}
use borrow.Author.Rules.{rules}
use Rattle.model.specs.Checks.{pairs_checks}
use Rattle.model.proofs.Refusals.{stop_err, pass_ok}
use Rattle.checks.proofs.Verdicts.{tables_fit, tables_numbered, room_of}
use Rattle.checks.proofs.check_pairs.Goals as goal

pub returns-in_err-check_tables : goal.returns-in_err-check_tables
unfolding pairs_checks
returns-in_err-check_tables c = search (stop_err, rules)

pub square-requires : goal.square-requires
square-requires c = tables_fit _ _ _ _ _ c.in_ok-check_tables.ensures refl

pub returns : goal.returns
unfolding pairs_checks
returns c = search (room_of, pass_ok, tables_numbered, rules)
