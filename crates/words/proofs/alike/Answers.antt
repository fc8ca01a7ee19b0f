use mathlib.Core.Path.{◌∙◌}
use native.Mathlib.Omega.{arith}
use borrow.Author.Rules.{rules}
use Rattle.words.proofs.Scanning.{bytes_differ, bytes_agree, bytes_end}
use Rattle.words.proofs.alike.Goals as goal

pub returns-then-word-i : goal.returns-then-word-i
returns-then-word-i c = search (bytes_differ, rules)

pub loop-i-preserved : goal.loop-i-preserved
loop-i-preserved c = search (bytes_agree, rules)

pub returns : goal.returns
returns c = c.min-most.ensures ∙ bytes_end _ _ c.loop-i.i c.loop-i.invariant (omega arith) (omega arith)
