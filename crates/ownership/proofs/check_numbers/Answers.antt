use borrow.Author.Rules.{rules}
use borrow.Author.Tests.{not-true}
use Rattle.model.proofs.Searches.{stop_one, pass_one}
use Rattle.ownership.proofs.Nodes.{no_number}
use Rattle.ownership.proofs.check_numbers.Goals as goal

pub returns-then-not-has_bad_number : goal.returns-then-not-has_bad_number
returns-then-not-has_bad_number c = search (no_number, not-true, rules)

pub returns-in_err-check_tags : goal.returns-in_err-check_tags
returns-in_err-check_tags c = search (stop_one, rules)

pub returns : goal.returns
returns c = search (pass_one, rules)
