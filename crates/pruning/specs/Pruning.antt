-- Which variables of a query its parts depend on, and how many of them must be bound before rows can be left out.
use Rattle.std.specs.Prelude.{ℕ, ◌<◌, max, ◌≡◌, true, cond, List, eqb}
use Rattle.model.specs.Encoding.{Term, columns}
use Rattle.model.specs.Kinds.{names_variable}
use Rattle.model.specs.QueryTable.{entries_of, kind, left}
use Rattle.aside.specs.Aside.{term_at}

-- the variables that stand in a path or a node expression: one more than the highest of them, 0 if there is none
abbrev pub reach_in : Term → ℕ
reach_in a = columns a

-- the same of those at a negative place: under a `not`, or right of an `except` (what it takes to leave out rows: proofs/Filled.antt)
unfoldable pub bound_in : Term → ℕ
bound_in (Term.leaf k l g) = 0
bound_in (Term.unary k a) = cond (eqb k 9) (reach_in a) (bound_in a)
bound_in (Term.binary k a b) = max (bound_in a) (cond (eqb k 4) (reach_in b) (bound_in b))

-- for entry e of a query table, all variables
abbrev pub reach_at : List ℕ → ℕ → ℕ
reach_at q e = reach_in (term_at q e)

-- those at a negative place
abbrev pub bound_at : List ℕ → ℕ → ℕ
bound_at q e = bound_in (term_at q e)

-- no variable past the third is named in the table
abbrev pub Named : List ℕ → Type 0
Named q = (e : ℕ) → e < entries_of q → names_variable (kind q e) ≡ true → left q e < 3
