use Rattle.machine.proofs.Steps.{top_some, top_none}
use borrow.Author.Rules.{rules}
use Rattle.machine.proofs.innermost.Goals as goal

pub returns-then-closed-gaps : goal.returns-then-closed-gaps
returns-then-closed-gaps c = search (top_some, rules)

pub returns : goal.returns
returns c = search (top_none, rules)
