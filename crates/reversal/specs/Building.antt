-- What the builder's functions write, as terms in postfix order (entries: Postfix).
use Rattle.std.specs.Prelude.{ℕ, ◌*◌, ◌≤◌, ◌<◌, ◌≡◌, true, List, [], ◌∷◌, ◌++◌, take}
use Rattle.model.specs.Syntax.{Path}
use Rattle.model.specs.QueryTable.{entries_of, kind, left, tag, path_at}
use Rattle.model.specs.Kinds.{names_variable}
use Rattle.model.specs.Encoding.{Term, path_term, size, encode}
use Rattle.model.specs.Accepted.{Formed}
use Rattle.aside.specs.Aside.{term_at}
use Rattle.entries.specs.Postfix.{Item, Made, postfix, Wrote}
use Rattle.entries.specs.Size.{counted}
use Rattle.reversal.specs.Reversed.{self_at_root, reversed}

-- a query table that can be reversed, as the checks secure it: formed, its steps along axes, and no tag where a variable is named
pub record Reversible (q : List ℕ) : Type 0 where
  pub formed : Formed q
  pub axis : (e : ℕ) → e < entries_of q → kind q e ≡ 0 → left q e ≤ 12
  pub untagged : (e : ℕ) → e < entries_of q → names_variable (kind q e) ≡ true → tag q e ≡ 0

-- the entries of a term were written behind those before
abbrev pub Builds : Term → Made → Made → Type 0
Builds t before after = Wrote (postfix t) before after

-- of a path
abbrev pub BuildsPath : Path → Made → Made → Type 0
BuildsPath p before after = Builds (path_term p) before after

-- what composes the path before with a step to any node
abbrev pub step_items : ℕ → List Item
step_items axis = Item.leaf 0 axis 65534 ∷ Item.binary 1 ∷ []

-- what composes the path before with the root, and then with every node
abbrev pub root_items : List Item
root_items = postfix (path_term self_at_root) ++ (Item.binary 1 ∷ step_items 11)

-- self::node() under entry e of q
abbrev pub where_term : List ℕ → ℕ → Term
where_term q e = Term.binary 5 (Term.leaf 0 0 65534) (term_at q e)

-- the path at entry e of q, reversed
abbrev pub reversed_at : List ℕ → ℕ → Path
reversed_at q e = reversed (path_at q e)

-- a path was made as a table of at most 64 entries: how many it has, more than 64 counted as 65, and the table at the front
pub record Makes (p : Path) (entries : ℕ) (table : List ℕ) : Type 0 where
  pub counted : entries ≡ counted (size (path_term p))
  pub front : size (path_term p) ≤ 64 → take (4 * size (path_term p)) table ≡ encode 0 (path_term p)
