use borrow.Author.Rules.{rules}
use Rattle.model.specs.Checks.{bad_entry}
use Rattle.model.proofs.Searches.{stop_one, pass_one}
use Rattle.query.proofs.check_entries.Goals as goal

pub returns-in_err-check_kinds : goal.returns-in_err-check_kinds
unfolding bad_entry
returns-in_err-check_kinds c = search (stop_one, pass_one, rules) depth 8 fits 20000

pub returns-in_err-check_fields : goal.returns-in_err-check_fields
unfolding bad_entry
returns-in_err-check_fields c = search (stop_one, pass_one, rules) depth 8 fits 20000

pub returns-in_err-check_operands : goal.returns-in_err-check_operands
unfolding bad_entry
returns-in_err-check_operands c = search (stop_one, pass_one, rules) depth 8 fits 20000

pub returns-in_err-check_sorts : goal.returns-in_err-check_sorts
unfolding bad_entry
returns-in_err-check_sorts c = search (stop_one, pass_one, rules) depth 8 fits 20000

pub returns-in_err-check_uses : goal.returns-in_err-check_uses
unfolding bad_entry
returns-in_err-check_uses c = search (stop_one, pass_one, rules) depth 8 fits 20000

pub returns : goal.returns
unfolding bad_entry
returns c = search (stop_one, pass_one, rules) depth 8 fits 20000
