use Rattle.model.proofs.Refusals.{accept, stop, pass}
use Rattle.model.specs.Parties.{party_checks}
use borrow.Author.Rules.{rules}
use Rattle.ownership.proofs.check_party.Goals as goal

pub returns-then-bad : goal.returns-then-bad
unfolding party_checks
returns-then-bad c = search (stop, rules)

pub returns : goal.returns
unfolding party_checks
returns c = search (accept, pass, rules)
