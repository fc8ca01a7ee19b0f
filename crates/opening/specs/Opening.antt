-- A query as a table whose variables from one on stand for any node (model: opened): two entries in front, which reach every node,
-- and behind them the entries of the query.
use Rattle.std.specs.Prelude.{ℕ, ◌+◌, ◌*◌, ◌<◌, ◌≡◌, Bool, not, ◌&&◌, cond, List, length, take, ltb, eqb}
use Rattle.model.specs.declared.Entry.{Entry}
use Rattle.model.specs.QueryTable.{entries_of, entry}
use Rattle.model.specs.Kinds.{names_variable, has_left, has_right}

-- the step on an axis to every node (document 02, §5: the test `node()`)
abbrev pub node_step : ℕ → Entry
node_step axis = record { kind = 0; left = axis; right = 0; tag = 65534 }

-- what stands for an entry that names a variable not filled: for kind 6 entry 1 from the root, `/descendant-or-self::node()`; for
-- kind 12 the test that entry 0 reaches a node, `self::node()`
unfoldable pub stand_in : ℕ → Entry
stand_in k = cond (eqb k 6) (record { kind = 7; left = 1; right = 0; tag = 0 }) (record { kind = 8; left = 0; right = 0; tag = 0 })

-- an operand's number, which goes up by the two entries in front; a number that is no operand stays
abbrev pub moved : Bool → ℕ → ℕ
moved operand x = cond operand (2 + x) x

-- an entry of the query, behind the two
unfoldable pub moved_entry : Entry → Entry
moved_entry f = record { kind = f.kind; left = moved (has_left f.kind) f.left; right = moved (has_right f.kind) f.right; tag = f.tag }

-- the same where the variables below i are filled
unfoldable pub opened_entry : ℕ → Entry → Entry
opened_entry i f = cond (names_variable f.kind && not (ltb f.left i)) (stand_in f.kind) (moved_entry f)

-- the numbers of an entry fit 16 bits
pub record Narrow (f : Entry) : Type 0 where
  pub kind : f.kind < 65536
  pub left : f.left < 65536
  pub right : f.right < 65536
  pub tag : f.tag < 65536

-- a table with entry n made f; its length and other entries stay
pub record Stored (n : ℕ) (f : Entry) (before after : List ℕ) : Type 0 where
  pub size : length after ≡ length before
  pub here : entry after n ≡ f
  pub other : (e : ℕ) → (e ≡ n → ⊥) → entry after e ≡ entry before e

-- 264 numbers, room for 66 entries, of which the first two are `self::node()` and `descendant-or-self::node()`
pub record Front (r : List ℕ) : Type 0 where
  pub size : length r ≡ 264
  pub first : entry r 0 ≡ node_step 0
  pub second : entry r 1 ≡ node_step 11

-- behind these the first n entries of q, where the variables below i are filled
pub record OpensTo (q : List ℕ) (i n : ℕ) (r : List ℕ) : Type 0 where
  pub front : Front r
  pub at : (e : ℕ) → e < n → entry r (2 + e) ≡ opened_entry i (entry q e)

-- the same with every entry of q
abbrev pub Opens : List ℕ → ℕ → List ℕ → Type 0
Opens q i r = OpensTo q i (entries_of q) r

-- the part of it that is the table, which the evaluator is lent
abbrev pub opened_table : List ℕ → List ℕ → List ℕ
opened_table q r = take (4 * (entries_of q + 2)) r
