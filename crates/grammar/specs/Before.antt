-- The grammar before node() could be typed (document 02, §5), when no star came behind a bracket and there was no 'same' either (§9).
-- It is here for one theorem alone (reader: proofs/Theorems.antt, read_as_before).
use Rattle.std.specs.Prelude.{Bool, true, false, ◌&&◌}
use Rattle.grammar.specs.Grammar.{Expr, Op}
use Rattle.grammar.specs.Grammar.Wildcard.{star, node}
use Rattle.grammar.specs.Grammar.Op.{or, and, same, union, intersect, except, slash}
use Rattle.grammar.specs.Grammar.Expr.{wildcard, named, dot, dots, variable, bracket, closure, negate, is, filter, rooted, join}

-- the operator could be typed before
abbrev pub is_old_op : Op → Bool
is_old_op or = true
is_old_op and = true
is_old_op same = false
is_old_op union = true
is_old_op intersect = true
is_old_op except = true
is_old_op (slash s) = true

-- no part of the expression is axis::node(), (e)* or l same r: so it could be typed before
unfoldable pub is_old : Expr → Bool
is_old (wildcard a star) = true
is_old (wildcard a node) = false
is_old (named a name) = true
is_old dot = true
is_old dots = true
is_old (variable k) = true
is_old (bracket e) = is_old e
is_old (closure e) = false
is_old (negate e) = is_old e
is_old (is k) = true
is_old (filter e t) = is_old e && is_old t
is_old (rooted s e) = is_old e
is_old (join o l r) = is_old_op o && (is_old l && is_old r)
