-- The tree table that two parties share, what one of them sees of it, and what a service makes of that (document 02, §8).
use Rattle.std.specs.Prelude.{ℕ, zero, suc, ◌+◌, ◌*◌, ◌/◌, ◌<◌, ◌≡◌, Bool, true, not, ◌&&◌, ◌||◌, cond, List, [], ◌∷◌, ◌++◌, length, get_or, ltb, eqb}
use Rattle.model.specs.declared.Reply.{Reply}
use Rattle.model.specs.Sets.{any, bit}
use Rattle.model.specs.Tree.{Tree, tree_at}
use Rattle.model.specs.Axes.{descendant_or_self}
use Rattle.model.specs.Refusals.{Check, refuse, refuse_at, verdict}
use Rattle.model.specs.Checks.{tree_checks_at}

-- The shared table: three numbers a node.

-- the whole tree of it, all nodes of both parties
abbrev pub shared_tree : List ℕ → Tree
shared_tree t = tree_at 3 t

-- the third number of a node: 0 where it is common, else the party that owns it
abbrev pub owner : List ℕ → ℕ → ℕ
owner t x = get_or t (3 * x + 2) 0

-- 30: an owner is above 2, or node 0 is not common
abbrev pub bad_owner : List ℕ → ℕ → Bool
bad_owner t x = ltb 2 (owner t x) || (eqb x 0 && not (eqb (owner t x) 0))

-- 5, 6, 7 and 30: the refusals of the shared table itself, which read all of it
unfoldable pub shared_checks : List ℕ → List Check
shared_checks t = tree_checks_at 3 t ++ (refuse_at 30 (length t / 3) (bad_owner t) ∷ [])

-- 31: the party is not 1 or 2
abbrev pub bad_party : ℕ → Bool
bad_party party = eqb party 0 || ltb 2 party

-- the check of the party
unfoldable pub party_checks : ℕ → List Check
party_checks party = refuse 31 (bad_party party) ∷ []

-- the verdict on a shared table and a party: the first of 5, 6, 7, 30 and 31
abbrev pub shared_verdict : List ℕ → ℕ → Reply
shared_verdict t party = verdict (shared_checks t ++ party_checks party)

-- What a party sees.

-- x is common or the party's own
abbrev pub open_to : List ℕ → ℕ → ℕ → Bool
open_to t party x = eqb (owner t x) 0 || eqb (owner t x) party

-- the party sees x: x and all its ancestors are open to it (proofs/Parties.antt: sees_root, sees_step: x is open to it, and the parent,
-- which node 0 alone lacks, is seen)
unfoldable pub sees : List ℕ → ℕ → ℕ → Bool
sees t party x = not (any (length t / 3) (λ a. descendant_or_self (shared_tree t) a x && not (open_to t party a)))

-- The tree of the nodes that are in a set, renumbered without gaps.

-- how many of the first k nodes are in the set: the new number of node k, where it is in the set
unfoldable pub rank : (ℕ → Bool) → ℕ → ℕ
rank S zero = zero
rank S (suc k) = rank S k + bit (S k)

-- the new number of x's parent; node 0 has none
abbrev pub new_parent : Tree → (ℕ → Bool) → ℕ → ℕ
new_parent t S x = cond (eqb x 0) 65535 (rank S (t.parent x))

-- x's two numbers in the new table: parent and tag
abbrev pub new_row : Tree → (ℕ → Bool) → ℕ → List ℕ
new_row t S x = new_parent t S x ∷ t.tag x ∷ []

-- the rows of those of the first k nodes that are in the set, one after the other
unfoldable pub rows_of : (ℕ → Bool) → (ℕ → List ℕ) → ℕ → List ℕ
rows_of S row zero = []
rows_of S row (suc k) = rows_of S row k ++ cond (S k) (row k) []

-- the tree that a party sees, as a table of two numbers a node: the seen nodes, renumbered (document 02: the tree of seen nodes)
unfoldable pub seen_table : List ℕ → ℕ → List ℕ
seen_table t party = rows_of (sees t party) (new_row (shared_tree t) (sees t party)) (length t / 3)

-- for a law: u is the part of t that S keeps. The old number of node j of u rises with j, runs through the kept nodes and no others,
-- and keeps parents and tags
pub record PartOf (t : Tree) (S : ℕ → Bool) (u : Tree) : Type 0 where
  pub old : ℕ → ℕ
  pub rising : (i j : ℕ) → i < j → j < u.size → old i < old j
  pub kept : (j : ℕ) → j < u.size → (old j < t.size) × (S (old j) ≡ true)
  pub whole : (x : ℕ) → x < t.size → S x ≡ true → (j : ℕ) × (j < u.size) × (old j ≡ x)
  pub root : (old 0 ≡ 0) × (u.parent 0 ≡ 65535)
  pub parent : (j : ℕ) → 0 < j → j < u.size → (u.parent j < j) × (old (u.parent j) ≡ t.parent (old j))
  pub tag : (j : ℕ) → j < u.size → u.tag j ≡ t.tag (old j)

-- What a service gives.

-- the outcome of a service that is lent a shared table and a party, where it is f over a tree table: where table and party are
-- accepted it is that for the tree that the party sees, and else what `refused` makes of the verdict
unfoldable pub over_seen : {A : Type 0} → List ℕ → ℕ → (Reply → A) → (List ℕ → A) → A
over_seen t party refused f =
    cond (eqb (shared_verdict t party).number 0) (f (seen_table t party)) (refused (shared_verdict t party))
