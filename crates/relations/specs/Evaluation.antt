-- What the evaluator over tables of bits asks for, and what it gives. The table that is being made stands at the front of `acc`.
use Rattle.std.specs.Prelude.{ℕ, ◌+◌, ◌-◌, ◌*◌, ◌≤◌, ◌<◌, ◌≡◌, Bool, true, false, cond, List, length, get_or, ltb, eqb}
use Rattle.model.specs.Sets.{upto}
use Rattle.model.specs.Tree.{size_of}
use Rattle.model.specs.QueryTable.{entries_of, kind, left, right}
use Rattle.model.specs.Kinds.{is_path}
use Rattle.model.specs.Results.{related}
use Rattle.eval.specs.Evaluation.{Ready, Sorted, passing}
use Rattle.aside.specs.Aside.{two_tables, aside_at, Counts}
use Rattle.bits.specs.Words.{words}
use Rattle.bits.specs.BitTables.{bit_relation}
use Rattle.bits.specs.Rows.{within, combined, composed}
use Rattle.relations.specs.declared.table.Evaluation.{Evaluation}

-- an entry, a path where the flag is set and else a node expression, that can be evaluated, with words for its table, and with room for
-- the tables that it keeps aside and for so many more; there are no more entries than counts
pub record Asks (t prev q nodes counts : List ℕ) (room e : ℕ) (path : Bool) (more : ℕ) (acc : List ℕ) : Type 0 where
  pub ready : Ready t prev q nodes
  pub few : entries_of q ≤ 66
  pub counted : Counts q counts
  pub kinds : Sorted q e path
  pub table : 4 * size_of t ≤ length acc
  pub fits : aside_at q e + more ≤ room

-- the pairs of the path at entry e
unfoldable pub table_at : List ℕ → List ℕ → List ℕ → ℕ → ℕ → ℕ → Bool
table_at t q nodes e = within (size_of t) (related t q nodes e false)

-- how the tables of two operands are combined, by the kind, as in `combine`: those of `same` are intersected
abbrev pub operation : ℕ → ℕ
operation k = cond (eqb k 14) 1 (k - 2)

-- the table of the operation on two tables at entry e: of a path its pairs, of `same` those that both of its operands have
unfoldable pub joined_at : List ℕ → List ℕ → List ℕ → ℕ → ℕ → ℕ → Bool
joined_at t q nodes e =
    cond (is_path (kind q e)) (table_at t q nodes e) (combined 1 (table_at t q nodes (left q e)) (table_at t q nodes (right q e)))

-- the path at entry e composed with the table that stands in w
unfoldable pub applied_at : List ℕ → List ℕ → List ℕ → ℕ → List ℕ → ℕ → ℕ → Bool
applied_at t q nodes e w = composed (size_of t) (related t q nodes e false) (bit_relation w)

-- the nodes where the node expression at entry e holds, as a row of bits
unfoldable pub passed_bits : List ℕ → List ℕ → List ℕ → ℕ → List ℕ
passed_bits t q nodes e = words 4 (upto (size_of t) (passing t q nodes e))

-- words of which a table of n rows may have changed
pub record Leaves (n : ℕ) (w o : List ℕ) : Type 0 where
  pub size : length o ≡ length w
  pub rest : (i : ℕ) → 4 * n ≤ i → get_or o i 0 ≡ get_or w i 0

-- an operation on two tables at entry e, a path or `same`; of a composition, the left operand leaves no room for one more table
pub record Joins (t prev q nodes counts : List ℕ) (room e : ℕ) (acc : List ℕ) : Type 0 where
  pub asks : Asks t prev q nodes counts room e (is_path (kind q e)) 0 acc
  pub both : two_tables (kind q e) ≡ true
  pub narrow : kind q e ≡ 1 → room ≤ aside_at q (left q e)

-- the same with the table of one operand made: of the left one, or of the right one where the flag is set, which it is where that keeps
-- more tables aside
pub record Waits (t prev q nodes counts : List ℕ) (room e : ℕ) (turned : Bool) (acc : List ℕ) : Type 0 where
  pub joins : Joins t prev q nodes counts room e acc
  pub order : turned ≡ ltb (aside_at q (left q e)) (aside_at q (right q e))
  pub holds : (x y : ℕ) → x < size_of t → y < 256 → bit_relation acc x y ≡ table_at t q nodes (cond turned (right q e) (left q e)) x y

-- The same of an evaluation: what it is lent, and how many tables each entry keeps aside.

-- Asks, of what an evaluation is lent
abbrev pub Asked : Evaluation → ℕ → ℕ → Bool → ℕ → List ℕ → Type 0
Asked s room e path more acc = Asks s.call.now.tree.now s.call.now.prev.now s.call.now.query.now s.call.now.nodes.now s.counts room e path more acc

-- Joins
abbrev pub Joined : Evaluation → ℕ → ℕ → List ℕ → Type 0
Joined s room e acc = Joins s.call.now.tree.now s.call.now.prev.now s.call.now.query.now s.call.now.nodes.now s.counts room e acc

-- Waits
abbrev pub Waiting : Evaluation → ℕ → ℕ → Bool → List ℕ → Type 0
Waiting s room e turned acc = Waits s.call.now.tree.now s.call.now.prev.now s.call.now.query.now s.call.now.nodes.now s.counts room e turned acc

-- what the definitions above come to of it
abbrev pub table_in : Evaluation → ℕ → ℕ → ℕ → Bool
table_in s e = table_at s.call.now.tree.now s.call.now.query.now s.call.now.nodes.now e

abbrev pub joined_in : Evaluation → ℕ → ℕ → ℕ → Bool
joined_in s e = joined_at s.call.now.tree.now s.call.now.query.now s.call.now.nodes.now e

abbrev pub applied_in : Evaluation → ℕ → List ℕ → ℕ → ℕ → Bool
applied_in s e w = applied_at s.call.now.tree.now s.call.now.query.now s.call.now.nodes.now e w

abbrev pub passing_in : Evaluation → ℕ → ℕ → Bool
passing_in s e = passing s.call.now.tree.now s.call.now.query.now s.call.now.nodes.now e

abbrev pub passed_in : Evaluation → ℕ → List ℕ
passed_in s e = passed_bits s.call.now.tree.now s.call.now.query.now s.call.now.nodes.now e
