use borrow.Author.Rules.{rules}
use Rattle.lookup.proofs.Verdicts.{start_refused, index_refused, chain_walked}
use Rattle.lookup.proofs.check_chain.Goals as goal

pub returns-then-n-start : goal.returns-then-n-start
returns-then-n-start c = search (start_refused, rules)

pub returns-then-next-n : goal.returns-then-next-n
returns-then-next-n c = search (index_refused, rules)

pub returns : goal.returns
returns c = search (chain_walked, rules)
