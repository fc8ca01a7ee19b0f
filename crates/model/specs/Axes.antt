-- The thirteen axes: 'y is on the axis from x'. Name tests, and the pairs of a step.
use Rattle.std.specs.Prelude.{ℕ, zero, suc, Bool, false, not, ◌&&◌, ◌||◌, [], ◌∷◌, get_or, ltb, eqb}
use Rattle.model.specs.Sets.{any}
use Rattle.model.specs.Tree.{Tree}

-- one to k steps up from y reach x; node 0 has no parent
unfoldable pub climbs : Tree → ℕ → ℕ → ℕ → Bool
climbs t zero x y = false
climbs t (suc k) x y = ltb 0 y && (eqb (t.parent y) x || climbs t k x (t.parent y))

-- 0: y is x
abbrev pub self : Tree → ℕ → ℕ → Bool
self t x y = eqb x y

-- 1: x is y's parent
unfoldable pub child : Tree → ℕ → ℕ → Bool
child t x y = ltb 0 y && eqb (t.parent y) x

-- 2: the converse of child
abbrev pub parent : Tree → ℕ → ℕ → Bool
parent t x y = child t y x

-- 9: y is a later child of x's parent; node 0 has no siblings
unfoldable pub following_sibling : Tree → ℕ → ℕ → Bool
following_sibling t x y = ltb 0 x && (ltb x y && eqb (t.parent x) (t.parent y))

-- 10: the converse of following_sibling
abbrev pub preceding_sibling : Tree → ℕ → ℕ → Bool
preceding_sibling t x y = following_sibling t y x

-- 3: the one next sibling: no sibling stands between
unfoldable pub right : Tree → ℕ → ℕ → Bool
right t x y = following_sibling t x y && not (any t.size (λ z. following_sibling t x z && following_sibling t z y))

-- 4: the converse of right
abbrev pub left : Tree → ℕ → ℕ → Bool
left t x y = right t y x

-- 5: one or more steps from y to the parent reach x
unfoldable pub descendant : Tree → ℕ → ℕ → Bool
descendant t x y = climbs t t.size x y

-- 6: the converse of descendant
abbrev pub ancestor : Tree → ℕ → ℕ → Bool
ancestor t x y = descendant t y x

-- 7: every later node that is no descendant
unfoldable pub following : Tree → ℕ → ℕ → Bool
following t x y = ltb x y && not (descendant t x y)

-- 8: every earlier node that is no ancestor
unfoldable pub preceding : Tree → ℕ → ℕ → Bool
preceding t x y = ltb y x && not (ancestor t x y)

-- 11: y is x or a descendant of x
unfoldable pub descendant_or_self : Tree → ℕ → ℕ → Bool
descendant_or_self t x y = self t x y || descendant t x y

-- 12: y is x or an ancestor of x
unfoldable pub ancestor_or_self : Tree → ℕ → ℕ → Bool
ancestor_or_self t x y = self t x y || ancestor t x y

-- the empty relation, for a code that is no axis; refusal 11 turns such a code away
abbrev pub no_axis : ℕ → ℕ → Bool
no_axis x y = false

-- the axes by their codes, 0 to 12; each even one but 0 is the converse of the odd one before it
-- (proofs/Axes.antt: axis_converse)
unfoldable pub axis : Tree → ℕ → ℕ → ℕ → Bool
axis t a =
    get_or
    (self t
    ∷ child t
    ∷ parent t
    ∷ right t
    ∷ left t
    ∷ descendant t
    ∷ ancestor t
    ∷ following t
    ∷ preceding t
    ∷ following_sibling t
    ∷ preceding_sibling t
    ∷ descendant_or_self t
    ∷ ancestor_or_self t
    ∷ [])
    a
    no_axis

-- node y is a document node, which stands above the top element (document 02, §5: tag 65534)
abbrev pub is_document : Tree → ℕ → Bool
is_document t y = eqb (t.tag y) 65534

-- a name test matches a tag: 65534 is node(), which matches all; 65535 is the star, which matches all but a document node's; any other
-- matches itself
abbrev pub matches : ℕ → ℕ → Bool
matches name tag = eqb name 65534 || ((eqb name 65535 && not (eqb tag 65534)) || eqb tag name)

-- node y passes the name test of a step (document 01: its test)
unfoldable pub passes : Tree → ℕ → ℕ → Bool
passes t name y = matches name (t.tag y)

-- the pairs of a step
unfoldable pub steps : Tree → ℕ → ℕ → ℕ → ℕ → Bool
steps t a name x y = axis t a x y && passes t name y
