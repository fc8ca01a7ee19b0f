use Rattle.reversal.proofs.Building.{copies_leaf, copies_unary, copies_binary}
use Rattle.reversal.proofs.+copy.Goals as goal

pub returns-then-not-has_left : goal.returns-then-not-has_left
returns-then-not-has_left t c =
    copies_leaf _ c.requires.0 _ c.requires.1 _ c.entry_at-f.ensures.0 _ c.kind_of-kind.ensures _ _ c.put_leaf.ensures c.if-not-has_left.ensures

pub returns-then-not-has_right : goal.returns-then-not-has_right
returns-then-not-has_right t c =
    copies_unary _ c.requires.0 _ c.requires.1 _ c.entry_at-f.ensures.0 _ c.kind_of-kind.ensures _ _ _ c.copy.ensures c.if-not-has_left.ensures c.put_unary.ensures c.if-not-has_right.ensures

pub returns : goal.returns
returns t c =
    copies_binary _ c.requires.0 _ c.requires.1 _ c.entry_at-f.ensures.0 _ c.kind_of-kind.ensures _ _ _ c.copy.ensures c.if-not-has_left.ensures _ c.put_binary.ensures c.copy-2.ensures c.if-not-has_right.ensures
