use Rattle.entries.proofs.Drafts.{binary_room, binary_full}
use borrow.Author.Rules.{rules}
use Rattle.entries.proofs.Builder.put_binary.Goals as goal

pub returns-then-self-ge64 : goal.returns-then-self-ge64
returns-then-self-ge64 c = search (binary_full, rules)

pub returns : goal.returns
returns c = search (binary_room, rules)
