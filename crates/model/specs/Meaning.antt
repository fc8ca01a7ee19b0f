-- The published meaning, over a tree and an assignment g of nodes to variables (document 01: g(k) is the node in column k). Of the
-- tree it takes the number of nodes n and the pairs of a step by its axis and its name test.
use Rattle.std.specs.Prelude.{ℕ, Bool, not, ◌&&◌, ◌||◌, eqb}
use Rattle.model.specs.Sets.{any, closed}
use Rattle.model.specs.Tree.{Tree}
use Rattle.model.specs.Axes.{steps}
use Rattle.model.specs.Syntax.{Path, NodeExpr}
use Rattle.model.specs.Syntax.Path.{step, compose, union, intersect, except, filter, variable, from_root, closure}
use Rattle.model.specs.Syntax.NodeExpr.{exists, negate, both, either, is, same}

module _ (n : ℕ) (S : ℕ → ℕ → ℕ → ℕ → Bool) (g : ℕ → ℕ) where
  unfoldable mutual
    -- (x, y) is a pair of the path
    pub pairs_over : Path → ℕ → ℕ → Bool
    pairs_over (step a name) x y = S a name x y
    pairs_over (compose p q) x y = any n (λ z. pairs_over p x z && pairs_over q z y)
    pairs_over (union p q) x y = pairs_over p x y || pairs_over q x y
    pairs_over (intersect p q) x y = pairs_over p x y && pairs_over q x y
    pairs_over (except p q) x y = pairs_over p x y && not (pairs_over q x y)
    pairs_over (filter p e) x y = pairs_over p x y && holds_over e y
    pairs_over (variable k) x y = eqb y (g k)
    pairs_over (from_root p) x y = pairs_over p 0 y
    pairs_over (closure p) x y = closed n (pairs_over p) x y

    -- the node expression holds at x
    pub holds_over : NodeExpr → ℕ → Bool
    holds_over (exists p) x = any n (λ y. pairs_over p x y)
    holds_over (negate e) x = not (holds_over e x)
    holds_over (both e f) x = holds_over e x && holds_over f x
    holds_over (either e f) x = holds_over e x || holds_over f x
    holds_over (is k) x = eqb x (g k)
    holds_over (same p q) x = any n (λ y. pairs_over p x y && pairs_over q x y)

-- (x, y) is a pair of the path, over the tree t
abbrev pub pairs : Tree → (ℕ → ℕ) → Path → ℕ → ℕ → Bool
pairs t g = pairs_over t.size (steps t) g

-- the node expression holds at x
abbrev pub holds : Tree → (ℕ → ℕ) → NodeExpr → ℕ → Bool
holds t g = holds_over t.size (steps t) g
