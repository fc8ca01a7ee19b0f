-- A query table made entry by entry, in postfix order: operands stand before the entry that names them, and a stack holds the
-- numbers of the entries that no entry names yet.
use Rattle.std.specs.Prelude.{ℕ, suc, ◌+◌, ◌-◌, ◌*◌, ◌≤◌, max, ◌≡◌, cond, List, [], ◌∷◌, ◌++◌, get_or, set, take, drop, length, ltb}
use Rattle.model.specs.Kinds.{names_variable}
use Rattle.model.specs.Encoding.{Term, entry4}
use Rattle.entries.specs.declared.Draft.{Draft}

-- what an entry is made from: kind, left and tag of one without operands; the kind alone of one with one or two
pub data Item : Type 0 where
  leaf : ℕ → ℕ → ℕ → Item
  unary : ℕ → Item
  binary : ℕ → Item

-- a term in postfix order
unfoldable pub postfix : Term → List Item
postfix (Term.leaf k l g) = Item.leaf k l g ∷ []
postfix (Term.unary k a) = postfix a ++ (Item.unary k ∷ [])
postfix (Term.binary k a b) = postfix a ++ (postfix b ++ (Item.binary k ∷ []))

-- a table in the making: how many entries it has, more than 64 counted as 65; how many numbers stand on the stack; the number of
-- variables so far; the table's numbers, and the stack's
pub record Made : Type 0 where
  pub draft : Draft
  pub table : List ℕ
  pub operands : List ℕ

-- the numbers of a list from place i on replaced by others
abbrev pub put : ℕ → List ℕ → List ℕ → List ℕ
put i new old = take i old ++ (new ++ drop (i + length new) old)

-- the entry k, l, r, g is written as the next one, and its number stands at place d of the stack, which then has d + 1
abbrev pub entered : ℕ → ℕ → ℕ → ℕ → ℕ → Made → Made
entered k l r g d m =
    record {
      draft = record { entries = m.draft.entries + 1; depth = d + 1; columns = m.draft.columns };
      table = put (4 * m.draft.entries) (entry4 k l r g) m.table;
      operands = set m.operands d m.draft.entries;
    }

-- number i of the stack, from its top
abbrev pub operand : ℕ → Made → ℕ
operand i m = get_or m.operands (m.draft.depth - suc i) 0

-- a draft that can have no entry more
abbrev pub past : Draft → Draft
past d = record { entries = 65; depth = d.depth; columns = d.columns }

-- nothing more is written: there are 64 entries already
abbrev pub full : Made → Made
full m = record { draft = past m.draft; table = m.table; operands = m.operands }

-- the variables that a leaf needs
abbrev pub needing : ℕ → ℕ → Made → Made
needing k l m =
    record {
      draft = record { entries = m.draft.entries; depth = m.draft.depth; columns = max m.draft.columns (cond (names_variable k) (suc l) 0) };
      table = m.table;
      operands = m.operands;
    }

-- one entry more
unfoldable pub append : Item → Made → Made
append (Item.leaf k l g) m =
    cond (ltb m.draft.entries 64) (entered k l 0 g m.draft.depth (needing k l m)) (full (needing k l m))
append (Item.unary k) m =
    cond (ltb m.draft.entries 64) (entered k (operand 0 m) 0 0 (m.draft.depth - 1) m) (full m)
append (Item.binary k) m =
    cond (ltb m.draft.entries 64) (entered k (operand 1 m) (operand 0 m) 0 (m.draft.depth - 2) m) (full m)

-- one after the other
unfoldable pub append_all : List Item → Made → Made
append_all [] m = m
append_all (i ∷ is) m = append_all is (append i m)

-- a draft beside the numbers of its table and its stack
abbrev pub made : Draft → List ℕ → List ℕ → Made
made d table operands = record { draft = d; table = table; operands = operands }

-- no entries yet
abbrev pub blank : Draft
blank = record { entries = 0; depth = 0; columns = 0 }

-- what every call needs and keeps: a table of 64 entries, a stack with as many places, and no more numbers on it than entries
pub record Sound (m : Made) : Type 0 where
  pub room : length m.table ≡ 256
  pub places : length m.operands ≡ 64
  pub stacked : m.draft.depth ≤ m.draft.entries
  pub counted : m.draft.entries ≤ 65

-- a call appended these items
pub record Wrote (items : List Item) (before after : Made) : Type 0 where
  pub whole : after ≡ append_all items before
  pub sound : Sound after
