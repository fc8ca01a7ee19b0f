use Rattle.job.proofs.Files.{long_enough, size_within, trailer_at_fits, trailer_is}
use borrow.Author.Rules.{rules}
use Rattle.job.proofs.trailer_of.Goals as goal

pub magic_of-magic-requires : goal.magic_of-magic-requires
magic_of-magic-requires c = search (long_enough, rules)

pub overflow_sub-file : goal.overflow_sub-file
overflow_sub-file c = search (size_within, rules)

pub trailer_at-requires : goal.trailer_at-requires
trailer_at-requires c = search (trailer_at_fits, rules)

pub returns : goal.returns
returns c = search (trailer_is, rules)
