-- The syntax of Core XPath with intersect, except and node variables: paths and node expressions.
use Rattle.std.specs.Prelude.{ℕ}

mutual
  -- the path kinds of document 01, 0 to 7, and 13 of document 02, §9
  pub data Path : Type 0 where
    -- 0: the axis by its code, and the name test
    step : ℕ → ℕ → Path
    -- 1 to 4: left and right
    compose : Path → Path → Path
    union : Path → Path → Path
    intersect : Path → Path → Path
    except : Path → Path → Path
    -- 5: a path, and what must hold at its end
    filter : Path → NodeExpr → Path
    -- 6: a variable by its number (document 01: column)
    variable : ℕ → Path
    -- 7: a path, taken from node 0
    from_root : Path → Path
    -- 13: the reflexive and transitive closure of a path (document 02: star)
    closure : Path → Path

  -- the node kinds of document 01, 8 to 12 (its node tests), and 14 of document 02, §9
  pub data NodeExpr : Type 0 where
    -- 8, some
    exists : Path → NodeExpr
    -- 9, not
    negate : NodeExpr → NodeExpr
    -- 10, and
    both : NodeExpr → NodeExpr → NodeExpr
    -- 11, or
    either : NodeExpr → NodeExpr → NodeExpr
    -- 12, is: a variable by its number
    is : ℕ → NodeExpr
    -- 14, same: both paths reach one node
    same : Path → Path → NodeExpr
