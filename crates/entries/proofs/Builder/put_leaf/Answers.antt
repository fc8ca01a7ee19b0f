use Rattle.entries.proofs.Drafts.{leaf_room, leaf_full}
use borrow.Author.Rules.{rules}
use Rattle.entries.proofs.Builder.put_leaf.Goals as goal

pub returns-then-self-ge64 : goal.returns-then-self-ge64
returns-then-self-ge64 c = search (leaf_full, rules)

pub returns : goal.returns
returns c = search (leaf_room, rules)
