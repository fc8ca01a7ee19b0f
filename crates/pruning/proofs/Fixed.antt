-- What no variable decides is the same whatever they are assigned.
use Prim.Native.Nat.{ℕ, ◌<◌}
use native.Mathlib.Omega.{arith}
use mathlib.Core.Path.{◌≡◌}
use mathlib.Core.Bool.{true, false}
use mathlib.Core.List.{List}
use Rattle.model.specs.Tree.{Tree}
use Rattle.model.specs.Syntax.{Path, NodeExpr}
use Rattle.model.specs.Kinds.{is_path}
use Rattle.model.specs.Encoding.{path_term, expr_term}
use Rattle.model.specs.QueryTable.{kind, path_at, expr_at}
use Rattle.model.specs.Meaning.{pairs, holds}
use Rattle.model.proofs.Sharing.{same_pairs, same_holds}
use Rattle.aside.specs.Aside.{term_at}
use Rattle.pruning.specs.Pruning.{reach_in, reach_at}
use Rattle.pruning.proofs.Standing.{path_reach, expr_reach}

module _ (t : Tree) (g h : ℕ → ℕ) where
  -- for the reader: a path in which no variable stands has the same pairs under every assignment
  pub fixed_pairs : (p : Path) → reach_in (path_term p) ≡ 0 → (x y : ℕ) → pairs t g p x y ≡ pairs t h p x y
  fixed_pairs p z = same_pairs t g h p (λ k u. absurd (let l : k < reach_in (path_term p) = path_reach k p u in omega arith))

  -- for the reader: and a node expression in which none stands holds at the same nodes
  pub fixed_holds : (e : NodeExpr) → reach_in (expr_term e) ≡ 0 → (x : ℕ) → holds t g e x ≡ holds t h e x
  fixed_holds e z = same_holds t g h e (λ k u. absurd (let l : k < reach_in (expr_term e) = expr_reach k e u in omega arith))

  -- the same of an entry of a query table
  module _ (q : List ℕ) (e : ℕ) where
    pub fixed_path : is_path (kind q e) ≡ true → reach_at q e ≡ 0 → (x y : ℕ) → pairs t g (path_at q e) x y ≡ pairs t h (path_at q e) x y
    unfolding term_at
    fixed_path s z = fixed_pairs (path_at q e) (rw s at z)

    pub fixed_expr : is_path (kind q e) ≡ false → reach_at q e ≡ 0 → (x : ℕ) → holds t g (expr_at q e) x ≡ holds t h (expr_at q e) x
    unfolding term_at
    fixed_expr s z = fixed_holds (expr_at q e) (rw s at z)
