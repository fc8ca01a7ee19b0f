-- The part of a query that its variables decide: what is left of it where all else is evaluated once, for every row.
use Rattle.std.specs.Prelude.{ℕ, ◌≤◌, ◌<◌, ◌≡◌, Bool, true, false, ◌&&◌, cond, List, ltb, eqb, length, Option, Some, None}
use Rattle.model.specs.Sets.{any, tab, memb, upto}
use Rattle.model.specs.Tree.{size_of}
use Rattle.model.specs.QueryTable.{entries_of, kind}
use Rattle.model.specs.Kinds.{is_path}
use Rattle.model.specs.Results.{related}
use Rattle.model.specs.Answers.{Row, satisfied}
use Rattle.model.specs.Accepted.{Below}
use Rattle.sets.specs.NodeSets.{always}
use Rattle.eval.specs.Evaluation.{Sorted, passed, reached}
use Rattle.aside.specs.Aside.{NumbersTo, aside_at}
use Rattle.pruning.specs.Pruning.{reach_at}
use Rattle.engines.specs.Engines.{Searchable}
use Rattle.narrowing.specs.declared.Narrowed.{Narrowed}
use Rattle.narrowing.specs.declared.Search.{Search}

-- a search is one of a query that can be searched
abbrev pub Searches : Search → Type 0
Searches s = Searchable s.tree.now s.prev.now s.query.now s.k

-- a pair of the path at entry e, or each node with itself where e is past the entries: nothing is left
unfoldable pub linked : List ℕ → List ℕ → Row → ℕ → ℕ → ℕ → Bool
linked t q row e x y = cond (ltb e (entries_of q)) (related t q row e false x y) (eqb x y)

-- some pair leads from the one set to the other
unfoldable pub between : List ℕ → List ℕ → Row → ℕ → List ℕ → List ℕ → Bool
between t q row e from to = any (size_of t) (λ x. memb from x && any (size_of t) (λ y. memb to y && linked t q row e x y))

-- under every row of k nodes the query is satisfied exactly if a pair of entry e leads from the one set to the other; `cut` says whether
-- the second is not all nodes
pub record Core (t q : List ℕ) (k e : ℕ) (cut : Bool) (from to : List ℕ) : Type 0 where
  pub holds : (row : Row) → length row ≡ k → Below (size_of t) row → satisfied t q row ≡ between t q row e from to
  pub within : e ≤ entries_of q
  pub path : e < entries_of q → is_path (kind q e) ≡ true
  pub five : e < entries_of q → aside_at q e ≤ 5
  pub uncut : cut ≡ false → to ≡ tab 256 (upto (size_of t) (always true))
  pub from_size : length from ≡ 256
  pub to_size : length to ≡ 256

-- the entry that is left, or the number of entries where nothing is
abbrev pub entry_of : List ℕ → Option ℕ → ℕ
entry_of q None = entries_of q
entry_of q (Some e) = e

-- an entry that is left is one of the query
abbrev pub Within : List ℕ → Option ℕ → Type 0
Within q None = Unit
Within q (Some e) = e < entries_of q

-- the same of a result of the code
abbrev pub CoreOf : List ℕ → List ℕ → ℕ → Narrowed → Type 0
CoreOf t q k r = Core t q k (entry_of q r.entry) r.cut r.from r.to × Within q r.entry

-- What the code goes through.

-- entry e of the query is left
pub record Left (t prev q : List ℕ) (k e : ℕ) (at : Narrowed) : Type 0 where
  pub searchable : Searchable t prev q k
  pub core : Core t q k e at.cut at.from at.to
  pub some : e < entries_of q

-- the same, with the variables of each entry
pub record Going (t prev q : List ℕ) (k : ℕ) (reaches : List ℕ) (e : ℕ) (at : Narrowed) : Type 0 where
  pub left : Left t prev q k e at
  pub variables : NumbersTo (reach_at q) (entries_of q) reaches

-- what is left of entry e one entry inwards, which is a lower entry; nothing is said where it cannot be narrowed
abbrev pub Inward : List ℕ → List ℕ → ℕ → ℕ → Option Narrowed → Type 0
Inward t q k e None = Unit
Inward t q k e (Some next) = CoreOf t q k next × (entry_of q next.entry < e)

-- entry e, a path where the flag is set and else a node expression, can be evaluated, and no variable decides it
pub record Decided (t prev q : List ℕ) (k e : ℕ) (path : Bool) : Type 0 where
  pub searchable : Searchable t prev q k
  pub kinds : Sorted q e path
  pub five : aside_at q e ≤ 5
  pub fixed : reach_at q e ≡ 0

-- under every row, r is what a set reaches by the path at entry e, or what reaches it where back is set
abbrev pub AlwaysReached : List ℕ → List ℕ → ℕ → Bool → List ℕ → List ℕ → Type 0
AlwaysReached t q e back from r = (row : Row) → r ≡ reached t q row e back from

-- under every row, r is where the node expression at entry e holds
abbrev pub AlwaysPassed : List ℕ → List ℕ → ℕ → List ℕ → Type 0
AlwaysPassed t q e r = (row : Row) → r ≡ passed t q row e

-- a node below n is in both sets
unfoldable pub common : ℕ → List ℕ → List ℕ → Bool
common n a b = any n (λ x. memb a x && memb b x)
