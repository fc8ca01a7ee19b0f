-- The tag is read off the two searches.
use Rattle.names.proofs.Searching.{house_low, site_low, house_tag, site_tag, no_tag}
use borrow.Author.Rules.{rules}
use Rattle.names.proofs.tag_of.Goals as goal

pub overflow_cast-result : goal.overflow_cast-result
overflow_cast-result c = search (house_low, rules)

pub overflow_cast-result-in-Ok-spot : goal.overflow_cast-result-in-Ok-spot
overflow_cast-result-in-Ok-spot c = search (site_low, rules)

pub returns-in-Ok : goal.returns-in-Ok
returns-in-Ok c = search (house_tag, rules)

pub returns-in-Ok-spot : goal.returns-in-Ok-spot
returns-in-Ok-spot c = search (site_tag, rules)

pub returns-in-Err-spot : goal.returns-in-Err-spot
returns-in-Err-spot c = search (no_tag, rules)
