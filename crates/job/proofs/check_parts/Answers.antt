-- Each way out is a line of the verdict.
use Rattle.job.proofs.Files.{starts_inside, ends_inside, same_overlap}
use Rattle.job.specs.JobFile.{part_checks}
use Rattle.model.proofs.Refusals.{accept, stop, pass}
use borrow.Author.Rules.{rules}
use Rattle.job.proofs.check_parts.Goals as goal

pub returns-then-is_outside : goal.returns-then-is_outside
unfolding part_checks
returns-then-is_outside c = search (stop, rules)

pub returns-then-is_outside-2 : goal.returns-then-is_outside-2
unfolding part_checks
returns-then-is_outside-2 c = search (stop, pass, rules)

pub span_of-requires : goal.span_of-requires
span_of-requires c = search (starts_inside, rules)

pub span_of-requires-2 : goal.span_of-requires-2
span_of-requires-2 c = search (starts_inside, rules)

pub is_overlap-requires : goal.is_overlap-requires
is_overlap-requires c = (search (ends_inside, rules), search (ends_inside, rules), search rules)

pub returns-then-is_overlap : goal.returns-then-is_overlap
unfolding part_checks
returns-then-is_overlap c = search (stop, pass, same_overlap, rules)

pub returns : goal.returns
unfolding part_checks
returns c = search (accept, pass, same_overlap, rules)
