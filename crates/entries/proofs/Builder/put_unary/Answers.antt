use Rattle.entries.proofs.Drafts.{unary_room, unary_full}
use borrow.Author.Rules.{rules}
use Rattle.entries.proofs.Builder.put_unary.Goals as goal

pub returns-then-self-ge64 : goal.returns-then-self-ge64
returns-then-self-ge64 c = search (unary_full, rules)

pub returns : goal.returns
returns c = search (unary_room, rules)
