use Rattle.model.proofs.Accepted.{falling_before, bad_root, bad_other}
use borrow.Author.Rules.{rules}
use Rattle.ownership.proofs.is_bad_parent.Goals as goal

pub returns-then-x-eq0 : goal.returns-then-x-eq0
returns-then-x-eq0 c = search (bad_root, rules)

pub is_descendant_or_self-requires : goal.is_descendant_or_self-requires
is_descendant_or_self-requires c = search (falling_before, rules)

pub returns : goal.returns
returns c = search (bad_other, rules)
