use borrow.Author.Rules.{rules}
use borrow.Author.Tests.{not-true}
use Rattle.model.proofs.Exists.{lowest_none}
use Rattle.checks.proofs.lowest_bad_byte.Goals as goal

pub returns-then-not-has_bad_byte : goal.returns-then-not-has_bad_byte
returns-then-not-has_bad_byte c = search (lowest_none, not-true, rules)
