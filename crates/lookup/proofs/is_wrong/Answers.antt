use native.Mathlib.Omega.{arith}
use borrow.Author.Rules.{rules}
use Rattle.lookup.proofs.Tags.{last_right, early_wrong, far_wrong, tag_wrong}
use Rattle.lookup.proofs.is_wrong.Goals as goal

pub returns-then-z-eq-NO_NODE : goal.returns-then-z-eq-NO_NODE
returns-then-z-eq-NO_NODE c = search (last_right, rules)

pub returns-then-z-y : goal.returns-then-z-y
returns-then-z-y c = early_wrong _ _ _ _ c.if-z-eq-NO_NODE.false (omega arith)

pub returns-then-tree-z : goal.returns-then-tree-z
returns-then-tree-z c = search (far_wrong, rules)

pub returns : goal.returns
returns c = search (tag_wrong, rules)
