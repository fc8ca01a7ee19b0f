use Rattle.opening.proofs.Entries.{did_stand, did_move}
use borrow.Author.Rules.{rules}
use Rattle.opening.proofs.opened_entry.Goals as goal

pub returns-then-free : goal.returns-then-free
returns-then-free c = search (did_stand, rules)

pub returns : goal.returns
returns c = search (did_move, rules)
