-- Moves along links: for a node y a number L y, which is y's link where it is lower than y, and no link else.
use Rattle.std.specs.Prelude.{ℕ, zero, suc, ◌+◌, ◌/◌, ◌%◌, Bool, true, false, not, ◌&&◌, ◌||◌, List, [], ◌∷◌, get_or, ltb, eqb}
use Rattle.model.specs.Tree.{Tree, tree_of, size_of}
use Rattle.model.specs.Axes.{is_document, self, child, right, descendant, following, following_sibling, descendant_or_self, no_axis}
use Rattle.model.specs.Accepted.{Ordered}
use Rattle.tree.specs.Links.{PreviousSiblings}

-- x is y's link
unfoldable pub hop : (ℕ → ℕ) → ℕ → ℕ → Bool
hop L x y = ltb (L y) y && eqb (L y) x

-- one to k hops from y reach x
unfoldable pub hops : (ℕ → ℕ) → ℕ → ℕ → ℕ → Bool
hops L zero x y = false
hops L (suc k) x y = ltb (L y) y && (eqb (L y) x || hops L k x (L y))

-- one hop or more; each leads to a lower number, so that y hops are enough
unfoldable pub plus : (ℕ → ℕ) → ℕ → ℕ → Bool
plus L x y = hops L y x y

-- one hop, or where closed is set one or more
abbrev pub along : Bool → (ℕ → ℕ) → ℕ → ℕ → Bool
along true L = plus L
along false L = hop L

-- no hop, one or more
unfoldable pub star : (ℕ → ℕ) → ℕ → ℕ → Bool
star L x y = eqb x y || plus L x y

-- the forward axes by half of their code, rounded up; each axis is one of them or the converse of one
-- (proofs/Axes.antt: axis_turn_lem)
unfoldable pub forward : Tree → ℕ → ℕ → ℕ → Bool
forward t h =
    get_or
    (self t
    ∷ child t
    ∷ right t
    ∷ descendant t
    ∷ following t
    ∷ following_sibling t
    ∷ descendant_or_self t
    ∷ [])
    h
    no_axis

-- the pair of converses to which an axis belongs, by its number
abbrev pub pair_of : ℕ → ℕ
pair_of a = (a + 1) / 2

-- the axes with an even number are converses of forward ones
abbrev pub is_converse : ℕ → Bool
is_converse a = eqb (a % 2) 0

-- every node passes the name test: node() does, and the star where node 0 is no document node, since no other node may be one
abbrev pub passes_all : Tree → ℕ → Bool
passes_all t name = eqb name 65534 || (eqb name 65535 && not (is_document t 0))

-- a tree table in document order, and the previous siblings of its nodes
pub record Linked (t prev : List ℕ) : Type 0 where
  pub tree : Ordered (tree_of t)
  pub siblings : PreviousSiblings (tree_of t) (size_of t) prev
