use borrow.Author.Rules.{rules}
use Rattle.answers.proofs.Search.{start_begun, start_fresh, heads_itself}
use Rattle.answers.proofs.rows.start.Goals as goal

pub beyond-requires : goal.beyond-requires
beyond-requires c = let p = c.requires in (p.1.0, heads_itself p.1.1.0 (p.1.1.1 c.if-begun.true-raw))

pub returns-then-begun : goal.returns-then-begun
returns-then-begun c = search (start_begun, rules)

pub returns : goal.returns
returns c = search (start_fresh, rules)
