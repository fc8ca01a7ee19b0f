-- The checks of a shared table that go node by node.
use Rattle.std.specs.Prelude.{ℕ, ◌/◌, Bool, cond, ◌||◌, List, [], ◌∷◌, length, eqb}
use Rattle.model.specs.Refusals.{Check, refuse_at}
use Rattle.model.specs.Checks.{bad_parent, bad_tag}
use Rattle.model.specs.Parties.{shared_tree, bad_owner}

-- node x fails the check of refusal k, which is 6, 7 or 30
abbrev pub node_fails : ℕ → List ℕ → ℕ → Bool
node_fails k t = cond (eqb k 6) (bad_parent (shared_tree t)) (cond (eqb k 7) (bad_tag (shared_tree t)) (bad_owner t))

-- node x fails that of 7 or that of 30
unfoldable pub number_fails : List ℕ → ℕ → Bool
number_fails t x = bad_tag (shared_tree t) x || bad_owner t x

-- 7 and 30, of all nodes
abbrev pub number_checks : List ℕ → List Check
number_checks t = refuse_at 7 (length t / 3) (node_fails 7 t) ∷ refuse_at 30 (length t / 3) (node_fails 30 t) ∷ []
