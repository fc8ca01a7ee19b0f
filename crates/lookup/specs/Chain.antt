-- The descendants of a node that have a tag, by the index that is lent (document 02, §4): what the chain meets, for every index,
-- right or wrong.
use Rattle.std.specs.Prelude.{ℕ, zero, suc, ◌≡◌, Bool, true, false, not, ◌&&◌, ◌||◌, cond, List, [], ◌∷◌, ◌++◌, length, get_or, ltb, eqb}
use Rattle.model.specs.Sets.{tab, ones}
use Rattle.model.specs.Tree.{Tree, tree_of, size_of}
use Rattle.model.specs.Axes.{descendant}
use Rattle.model.specs.Refusals.{Check, refuse, refuse_here, counting, verdict, written}
use Rattle.model.specs.Checks.{tree_checks, room_checks}
use Rattle.model.specs.declared.Reply.{Reply}
use Rattle.model.specs.declared.ImageReply.{ImageReply}
use Rattle.index.specs.Index.{has, first_from}

-- what following an index comes to
pub data Chain : Type 0 where
  -- it stops: at 65535, or at a node beyond the subtree
  stops : Chain
  -- the number read at this node is none that an index can have there
  breaks : ℕ → Chain
  -- it meets a node, and goes on
  meets : ℕ → Chain → Chain

-- the chain stops at y: 65535, or a node that is no descendant of start
abbrev pub ends : Tree → ℕ → ℕ → Bool
ends t start y = eqb y 65535 || not (descendant t start y)

-- 27: z, read at node y, is not 65535, and is not later than y, not below n, or of another tag
unfoldable pub wrong : Tree → ℕ → ℕ → ℕ → Bool
wrong t tag y z = not (eqb z 65535) && (not (ltb y z) || (not (ltb z t.size) || not (has t tag z)))

-- the chain from y on, over at most k nodes
unfoldable pub chain_from : Tree → List ℕ → ℕ → ℕ → ℕ → ℕ → Chain
chain_from t next start tag zero y = stops
chain_from t next start tag (suc k) y =
    cond (ends t start y) stops
    (cond (wrong t tag y (get_or next y 0)) (breaks y) (meets y (chain_from t next start tag k (get_or next y 0))))

-- the chain of a start and a tag: it begins at the tree's first node after start that has the tag. It goes from lower to higher
-- numbers, so that it meets at most n nodes
unfoldable pub chain_of : Tree → List ℕ → ℕ → ℕ → Chain
chain_of t next start tag = chain_from t next start tag t.size (first_from t tag (suc start))

-- the chain breaks
unfoldable pub is_broken : Chain → Bool
is_broken stops = false
is_broken (breaks y) = true
is_broken (meets y c) = is_broken c

-- the node at which it breaks (document 02: the node left); 0 where it does not
unfoldable pub broken_at : Chain → ℕ
broken_at stops = 0
broken_at (breaks y) = y
broken_at (meets y c) = broken_at c

-- it meets node x
unfoldable pub is_met : Chain → ℕ → Bool
is_met stops x = false
is_met (breaks y) x = false
is_met (meets y c) x = eqb x y || is_met c x

-- the answer, as bytes
unfoldable pub met_bytes : List ℕ → List ℕ → ℕ → ℕ → List ℕ
met_bytes t next start tag = tab (size_of t) (is_met (chain_of (tree_of t) next start tag))

-- The service.

-- 36: the start is no node; 27: the index is not n long, or the chain breaks
unfoldable pub chain_checks : List ℕ → List ℕ → ℕ → ℕ → List Check
chain_checks t next start tag =
    refuse 36 (not (ltb start (size_of t)))
    ∷ refuse 27 (not (eqb (length next) (size_of t)))
    ∷ refuse_here 27 (broken_at (chain_of (tree_of t) next start tag)) (is_broken (chain_of (tree_of t) next start tag))
    ∷ []

-- 5 to 7, 36, 27 and 20, for a buffer of so many bytes
unfoldable pub lookup_checks : List ℕ → List ℕ → ℕ → ℕ → ℕ → List Check
lookup_checks t next start tag room = tree_checks t ++ (chain_checks t next start tag ++ room_checks room (size_of t))

-- the verdict on a tree, an index, a start, a tag and a buffer
abbrev pub lookup_verdict : List ℕ → List ℕ → ℕ → ℕ → List ℕ → Reply
lookup_verdict t next start tag to = verdict (lookup_checks t next start tag (length to))

-- the reply of the call: the verdict, and how many nodes the chain met, 0 at a refusal
abbrev pub lookup_reply : List ℕ → List ℕ → ℕ → ℕ → List ℕ → ImageReply
lookup_reply t next start tag to =
    counting (lookup_verdict t next start tag to)
    (cond (eqb (lookup_verdict t next start tag to).number 0) (ones (met_bytes t next start tag)) 0)

-- the buffer after it: their set
abbrev pub lookup_buffer : List ℕ → List ℕ → ℕ → ℕ → List ℕ → List ℕ
lookup_buffer t next start tag to = written (lookup_verdict t next start tag to) (met_bytes t next start tag) to

-- a reply, and a buffer as it was left, are those of the call
abbrev pub LookupLeaves : List ℕ → List ℕ → ℕ → ℕ → List ℕ → ImageReply → List ℕ → Type 0
LookupLeaves t next start tag to r after = (r ≡ lookup_reply t next start tag to) × (after ≡ lookup_buffer t next start tag to)
