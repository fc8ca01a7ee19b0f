-- Laws of the checks of a shared table that go node by node.
use Prim.Native.Nat.{ℕ, ◌+◌, ◌/◌, ◌≤◌, ◌<◌}
use native.Mathlib.Omega.{arith}
use mathlib.Core.Path.{◌≡◌, sym, ap, ◌∙◌}
use mathlib.Core.Bool.{Bool, false, ◌||◌, and-true, or-false}
use mathlib.Core.List.{List}
use lib.Dec.{ltb}
use lib.ListN.{length}
use borrow.Author.Tests.{ne_eqb, lt-ltb}
use Rattle.model.specs.Sets.{any}
use Rattle.model.specs.Refusals.{reply, verdict}
use Rattle.model.specs.Checks.{bad_tree_length, bad_tag}
use Rattle.model.specs.Parties.{shared_tree, owner, bad_owner}
use Rattle.model.proofs.Booleans.{no_or}
use Rattle.model.proofs.Exists.{any_seen, any_or}
use Rattle.model.proofs.Accepted.{length_fits}
use Rattle.ownership.specs.Nodes.{number_fails, number_checks}

-- a table that is neither too long nor too short
pub some_nodes : (l : ℕ) (b : Bool) → b ≡ bad_tree_length 3 l → b ≡ false → (0 < l / 3) × (l / 3 ≤ 256)
some_nodes l b e h = let (some, whole, most) = length_fits 3 768 l (sym e ∙ h) in (omega arith, omega arith)

-- whether some node has a bad tag or a bad owner, node by node

module _ (t : List ℕ) where
  pub numbers_start : (a b : Bool) → a ≡ bad_tag (shared_tree t) 0 → b ≡ bad_owner t 0 → (a || b) ≡ any 1 (number_fails t)
  unfolding any number_fails
  numbers_start a b e f = rw (e, f) (sym (or-false (number_fails t 0)))

  -- past node 0 every reserved tag is refused, and every owner up to 2 accepted
  pub numbers_next : (x g o : ℕ) (b : Bool) → b ≡ any x (number_fails t) → g ≡ (shared_tree t).tag x → o ≡ owner t x → 1 ≤ x
      → ((ltb 65533 g || ltb 2 o) || b) ≡ any (x + 1) (number_fails t)
  unfolding number_fails
  numbers_next x g o b p e f l =
      any_seen x (number_fails t) b (ltb 65533 g || ltb 2 o) p
      (rw (e, f, lt-ltb 0 x l, ne_eqb x 0 (λ z. absurd (omega arith))) (sym (ap (λ (c : Bool). c || (ltb 2 (owner t x) || false)) (and-true (ltb 65533 ((shared_tree t).tag x))) ∙ ap (λ (c : Bool). ltb 65533 ((shared_tree t).tag x) || c) (or-false (ltb 2 (owner t x))))))

  module _ (bad : Bool) (e : bad ≡ any (length t / 3) (number_fails t)) (h : bad ≡ false) where
    neither : (any (length t / 3) (bad_tag (shared_tree t)) ≡ false) × (any (length t / 3) (bad_owner t) ≡ false)
    unfolding number_fails
    neither =
        no_or (any (length t / 3) (bad_tag (shared_tree t))) (any (length t / 3) (bad_owner t))
        (any_or (length t / 3) (bad_tag (shared_tree t)) (bad_owner t) ∙ sym e ∙ h)

    pub no_number : reply 0 0 ≡ verdict (number_checks t)
    unfolding verdict
    no_number = rw (neither.0, neither.1)
