-- The reversed query (document 02, §10), kind by kind: its pairs are the query's pairs, swapped (proofs/Swapped.antt: reversed_pairs).
use Rattle.std.specs.Prelude.{ℕ, List, [], ◌∷◌, get_or}
use Rattle.model.specs.Syntax.{Path, NodeExpr}
use Rattle.model.specs.Syntax.Path.{step, compose, union, intersect, except, filter, variable, from_root, closure}
use Rattle.model.specs.Syntax.NodeExpr.{exists, negate, is}

-- the converses of the axes by their codes (document 01: each odd one beside its converse, self its own)
abbrev pub converses : List ℕ
converses = 0 ∷ 2 ∷ 1 ∷ 4 ∷ 3 ∷ 6 ∷ 5 ∷ 8 ∷ 7 ∷ 10 ∷ 9 ∷ 12 ∷ 11 ∷ []

-- the converse of an axis; for a code that is none 13, which is none either
unfoldable pub converse : ℕ → ℕ
converse a = get_or converses a 13

-- a step along an axis to any node: axis::node()
abbrev pub to_node : ℕ → Path
to_node a = step a 65534

-- self::node()[e]
abbrev pub self_where : NodeExpr → Path
self_where e = filter (to_node 0) e

-- self::node()[not(parent::node())], the root
abbrev pub self_at_root : Path
self_at_root = self_where (negate (exists (to_node 2)))

-- a path reversed; runs group leftwards, and a reversed operand counts as one step of them
unfoldable pub reversed : Path → Path
-- self with its test, then the converse axis with node()
reversed (step a name) = compose (step 0 name) (to_node (converse a))
-- the reversed operands, swapped
reversed (compose p q) = compose (reversed q) (reversed p)
-- the reversed operands
reversed (union p q) = union (reversed p) (reversed q)
reversed (intersect p q) = intersect (reversed p) (reversed q)
reversed (except p q) = except (reversed p) (reversed q)
-- self::node() under the node expression, which is copied, then the reversed path
reversed (filter p e) = compose (self_where e) (reversed p)
-- self::node()[. is $k]/ancestor-or-self::node()/descendant-or-self::node()
reversed (variable k) = compose (compose (self_where (is k)) (to_node 12)) (to_node 11)
-- the reversed path, then /self::node()[not(parent::node())]/descendant-or-self::node()
reversed (from_root p) = compose (compose (reversed p) self_at_root) (to_node 11)
-- the reversed operand
reversed (closure p) = closure (reversed p)
