use Rattle.job.proofs.Files.{bad_length_lem, twelve, other_length}
use borrow.Author.Rules.{rules}
use Rattle.job.proofs.is_bad_length.Goals as goal

pub returns-then-n : goal.returns-then-n
returns-then-n c = search (bad_length_lem, rules)

pub magic_of-requires : goal.magic_of-requires
magic_of-requires c = search (twelve, rules)

pub returns : goal.returns
returns c = search (other_length, rules)
