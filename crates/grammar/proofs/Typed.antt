-- What typed queries stand for: '//' is short for '/descendant-or-self::node()/', and a path in a test says that it reaches a node.
use Prim.Native.Nat.{ℕ}
use native.Mathlib.Omega.{arith}
use mathlib.Core.Path.{◌≡◌, refl, sym, ap}
use mathlib.Core.Bool.{true, false}
use mathlib.Core.List.{List, ◌++◌, append_assoc}
use Rattle.model.proofs.Booleans.{no_yes}
use Rattle.model.specs.Syntax.{Path, NodeExpr}
use Rattle.grammar.specs.Grammar.{Expr, Slash, ascii, axes, axis_word, elem, slash_word, print, fits}
use Rattle.grammar.specs.Grammar.Slash.{one, two}
use Rattle.grammar.specs.Grammar.Wildcard.{node}
use Rattle.grammar.specs.Grammar.Op.{or, and, same, union, intersect, except, slash}
use Rattle.grammar.specs.Grammar.Expr.{wildcard, named, dot, dots, variable, bracket, closure, negate, is, filter, rooted, join}
use Rattle.grammar.specs.Automaton.{is_path}
use Rattle.grammar.specs.Typed.{below_by, expr_by, path_by, path_of, below, expr_of}
use Rattle.grammar.proofs.Reading.{operands, fits_path}
use Rattle.grammar.proofs.Soundness.{fits_join}

-- the text is what a path looks like that binds at n or tighter and stands for p
pub record Stands (n : ℕ) (text : List ℕ) (tag : List ℕ → ℕ) (p : Path) : Type 0 where
  pub expr : Expr
  pub sound : fits n false expr ≡ true
  pub looks : print expr ≡ text
  pub means : path_of expr tag ≡ p

module _ (tag : List ℕ → ℕ) where
  -- l//r stands for what l/descendant-or-self::node()/r does
  pub double_slash : (l r : Expr) → fits 6 false (join (slash two) l r) ≡ true
      → Stands 6 (print l ++ (ascii "/descendant-or-self::node()/" ++ print r)) tag (path_of (join (slash two) l r) tag)
  unfolding print path_by axis_word elem
  double_slash l r h =
      let w = operands 6 false (slash two) l r h in
      record {
        expr = join (slash one) (join (slash one) l (wildcard 11 node)) r;
        sound = fits_join 6 false (slash one) (join (slash one) l (wildcard 11 node)) r (record {
          binds = w.binds;
          sorted = refl;
          on_left = fits_join 6 false (slash one) l (wildcard 11 node) (record { binds = w.binds; sorted = refl; on_left = w.on_left; on_right = unfold fits axes in refl });
          on_right = w.on_right;
        });
        looks = append_assoc (print l) (ascii "/descendant-or-self::node()") (ascii "/" ++ print r);
        means = refl;
      }

  -- a run of steps behind descendant-or-self::node()/
  abbrev Below : Expr → Type 0
  Below e = Stands 6 (ascii "descendant-or-self::node()/" ++ print e) tag (below e tag)

  below_step : (e : Expr) → fits 7 false e ≡ true → below e tag ≡ Path.compose (Path.step 11 65534) (path_of e tag) → Below e
  unfolding print path_by axis_word elem
  below_step e h p =
      record {
        expr = join (slash one) (wildcard 11 node) e;
        sound = fits_join 6 false (slash one) (wildcard 11 node) e (record { binds = omega arith; sorted = refl; on_left = unfold fits axes in refl; on_right = h });
        looks = refl;
        means = sym p;
      }

  below_run : (s : Slash) (l r : Expr) → fits 6 false (join (slash s) l r) ≡ true → Below l → Below (join (slash s) l r)
  unfolding print path_by below_by
  below_run s l r h w =
      let k = operands 6 false (slash s) l r h in
      record {
        expr = join (slash s) w.expr r;
        sound = fits_join 6 false (slash s) w.expr r (record { binds = omega arith; sorted = refl; on_left = w.sound; on_right = k.on_right });
        looks = ap (λ (t : List ℕ). t ++ (slash_word s ++ print r)) w.looks;
        means = go s;
      }
    where
      go : (s : Slash) → path_of (join (slash s) w.expr r) tag ≡ below (join (slash s) l r) tag
      go one = ap (λ (p : Path). Path.compose p (path_of r tag)) w.means
      go two = ap (λ (p : Path). Path.compose (Path.compose p (Path.step 11 65534)) (path_of r tag)) w.means

  behind_anywhere : (e : Expr) → fits 6 false e ≡ true → Below e
  unfolding fits below_by path_by
  behind_anywhere (wildcard a w) h = below_step (wildcard a w) h refl
  behind_anywhere (named a name) h = below_step (named a name) h refl
  behind_anywhere dot h = below_step dot h refl
  behind_anywhere dots h = below_step dots h refl
  behind_anywhere (variable k) h = below_step (variable k) h refl
  behind_anywhere (bracket e) h = below_step (bracket e) h refl
  behind_anywhere (closure e) h = below_step (closure e) h refl
  behind_anywhere (negate e) h = no_yes refl h
  behind_anywhere (is k) h = no_yes refl h
  behind_anywhere (filter e t) h = below_step (filter e t) h refl
  behind_anywhere (rooted s e) h = no_yes refl h
  behind_anywhere (join or l r) h = no_yes refl h
  behind_anywhere (join and l r) h = no_yes refl h
  behind_anywhere (join same l r) h = no_yes refl h
  behind_anywhere (join union l r) h = no_yes refl h
  behind_anywhere (join intersect l r) h = no_yes refl h
  behind_anywhere (join except l r) h = no_yes refl h
  behind_anywhere (join (slash s) l r) h = below_run s l r h (behind_anywhere l (operands 6 false (slash s) l r h).on_left)

  -- a leading // stands for /descendant-or-self::node()/ before the run
  pub leading_slashes : (e : Expr) → fits 5 false (rooted two e) ≡ true
      → Stands 5 (ascii "/descendant-or-self::node()/" ++ print e) tag (path_of (rooted two e) tag)
  unfolding fits print path_by
  leading_slashes e h =
      let w = behind_anywhere e h in
      record { expr = rooted one w.expr; sound = w.sound; looks = ap (λ (t : List ℕ). ascii "/" ++ t) w.looks; means = ap Path.from_root w.means }

  path_exists : (e : Expr) → is_path e ≡ true → expr_of e tag ≡ NodeExpr.exists (path_of e tag)
  unfolding is_path expr_by path_by
  path_exists (wildcard a w) h = refl
  path_exists (named a name) h = refl
  path_exists dot h = refl
  path_exists dots h = refl
  path_exists (variable k) h = refl
  path_exists (bracket e) h = path_exists e h
  path_exists (closure e) h = refl
  path_exists (negate e) h = no_yes refl h
  path_exists (is k) h = no_yes refl h
  path_exists (filter e t) h = refl
  path_exists (rooted one e) h = refl
  path_exists (rooted two e) h = refl
  path_exists (join or l r) h = no_yes refl h
  path_exists (join and l r) h = no_yes refl h
  path_exists (join same l r) h = no_yes refl h
  path_exists (join union l r) h = refl
  path_exists (join intersect l r) h = refl
  path_exists (join except l r) h = refl
  path_exists (join (slash one) l r) h = refl
  path_exists (join (slash two) l r) h = refl

  -- a path in a test says that it reaches a node
  pub path_in_test : (n : ℕ) (e : Expr) → fits n false e ≡ true → expr_of e tag ≡ NodeExpr.exists (path_of e tag)
  path_in_test n e h = path_exists e (fits_path e n h)
