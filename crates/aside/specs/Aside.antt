-- How many tables are kept aside while a query is evaluated over bits. An operation on two tables evaluates one operand, keeps its
-- table aside, and evaluates the other.
use Rattle.std.specs.Prelude.{ℕ, suc, ◌≤◌, ◌<◌, min, max, ◌≡◌, Bool, true, false, ◌&&◌, cond, List, length, get_or}
use Rattle.model.specs.Syntax.{Path}
use Rattle.model.specs.Kinds.{is_path, left_path, right_path, has_left, has_right}
use Rattle.model.specs.Encoding.{Term, path_term, expr_term, size}
use Rattle.model.specs.QueryTable.{entries_of, kind, left, right, path_at, expr_at}
use Rattle.model.specs.Accepted.{Formed}
use Rattle.aside.specs.declared.Operands.{Operands}

-- two operands in turn, which need a and b: the one that needs more first, then the other with one table more aside; so it is the
-- larger of the two, or one more where they are equal (proofs/Turns.antt: turn_less, turn_same)
abbrev pub in_turn : ℕ → ℕ → ℕ
in_turn a b = max (max a b) (suc (min a b))

-- an operation on two tables: a kind whose operands are both paths
abbrev pub two_tables : ℕ → Bool
two_tables k = left_path k && right_path k

-- for a path or a node expression: where one of two operands is a node expression, that comes to a set of nodes, so that there is no
-- table to keep
unfoldable pub aside_in : Term → ℕ
aside_in (Term.leaf k l g) = 0
aside_in (Term.unary k a) = aside_in a
aside_in (Term.binary k a b) = cond (two_tables k) (in_turn (aside_in a) (aside_in b)) (max (aside_in a) (aside_in b))

-- for a path
abbrev pub aside : Path → ℕ
aside p = aside_in (path_term p)

-- how many entries a path has as a table
abbrev pub entries_in : Path → ℕ
entries_in p = size (path_term p)

-- entry e of a query table, a path or a node expression, by the kinds of the entries that it is made of
unfoldable pub term_at : List ℕ → ℕ → Term
term_at q e = cond (is_path (kind q e)) (path_term (path_at q e)) (expr_term (expr_at q e))

-- for entry e of a query table
abbrev pub aside_at : List ℕ → ℕ → ℕ
aside_at q e = aside_in (term_at q e)

-- 66 bytes, the first n of them a number for each entry: a query of 64 entries has two more where it is opened
pub record NumbersTo (f : ℕ → ℕ) (n : ℕ) (r : List ℕ) : Type 0 where
  pub size : length r ≡ 66
  pub at : (e : ℕ) → e < n → get_or r e 0 ≡ f e

-- a pass over the entries of a table has come to entry e, with the numbers of those before it
abbrev pub PassedTo : (ℕ → ℕ) → List ℕ → ℕ → List ℕ → Type 0
PassedTo f q e kept = Formed q × ((entries_of q ≤ 66) × (NumbersTo f e kept × (e < entries_of q)))

-- what a pass asks of what it calls for each entry with the numbers of those before it: that it can be called, and gives the entry's number
pub record Numbering (f : ℕ → ℕ) (q : List ℕ) (pre : ℕ → List ℕ → Type 0) (post : ℕ → List ℕ → ℕ → Type 0) : Type 0 where
  pub called : (e : ℕ) (kept : List ℕ) → PassedTo f q e kept → pre e kept
  pub given : (e : ℕ) (kept : List ℕ) (k : ℕ) → PassedTo f q e kept → post e kept k → k ≡ f e

-- the operands of entry e of a query table: none, or one, or two entries before it
abbrev pub OperandsOf : List ℕ → ℕ → Operands → Type 0
OperandsOf q e Operands.None = has_left (kind q e) ≡ false
OperandsOf q e (Operands.One i) = (has_left (kind q e) ≡ true) × ((has_right (kind q e) ≡ false) × ((i ≡ left q e) × (i < e)))
OperandsOf q e (Operands.Two i j) = (has_right (kind q e) ≡ true) × ((i ≡ left q e) × ((j ≡ right q e) × ((i < e) × (j < e))))

-- the first n of them how many tables are kept aside for each entry
abbrev pub CountsTo : List ℕ → ℕ → List ℕ → Type 0
CountsTo q n r = NumbersTo (aside_at q) n r

-- the same for every entry of the table
abbrev pub Counts : List ℕ → List ℕ → Type 0
Counts q r = CountsTo q (entries_of q) r
