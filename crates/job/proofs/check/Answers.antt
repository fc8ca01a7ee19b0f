use Rattle.job.proofs.Files.{trailer_size_fits, short_enough, magic_wrong, magic_right, length_good}
use Rattle.job.specs.JobFile.{file_checks}
use Rattle.model.proofs.Refusals.{stop}
use native.Mathlib.Omega.{arith}
use borrow.Author.Rules.{rules}
use Rattle.job.proofs.check.Goals as goal

pub returns-then-is_bad_length : goal.returns-then-is_bad_length
unfolding file_checks
returns-then-is_bad_length c = search (stop, rules)

pub trailer_of-t-requires : goal.trailer_of-t-requires
trailer_of-t-requires c = search (length_good, rules)

pub returns-then-unknown : goal.returns-then-unknown
returns-then-unknown c = search (magic_wrong, length_good, rules)

pub overflow_sub-n : goal.overflow_sub-n
overflow_sub-n c = search (trailer_size_fits, length_good, rules)

pub check_parts-requires : goal.check_parts-requires
check_parts-requires c = (omega arith, short_enough _ _ (length_good _ _ _ c.is_bad_length.ensures c.if-is_bad_length.false))

pub returns : goal.returns
returns c = search (magic_right, length_good, rules)
