-- The refusals 5 to 20 of document 01, and the place of 29 among them, in checking order. Each check runs over its whole object before
-- the next begins.
use Rattle.std.specs.Prelude.{ℕ, zero, suc, ◌+◌, ◌-◌, ◌*◌, ◌/◌, ◌%◌, Bool, not, ◌&&◌, ◌||◌, cond, List, [], ◌∷◌, ◌++◌, length, get_or, ltb, eqb}
use Rattle.model.specs.declared.Entry.{Entry}
use Rattle.model.specs.declared.Cursor.{Cursor}
use Rattle.model.specs.Sets.{bit}
use Rattle.model.specs.Tree.{Tree, size_of, tree_at}
use Rattle.model.specs.Axes.{is_document, descendant_or_self}
use Rattle.model.specs.QueryTable.{entries_of, kind, left, right, entry, last_of}
use Rattle.model.specs.Kinds.{is_path, left_path, left_expr, right_path, right_expr, names_variable, has_left, has_right}
use Rattle.model.specs.Pages.{row_of, has_begun}
use Rattle.model.specs.Refusals.{Check, refuse, refuse_here, refuse_at}
use Rattle.model.specs.Sharing.{sharing_checks}

-- The tree table.

-- 5, of k numbers a node: empty, no multiple of k, or more than 256 nodes
abbrev pub bad_tree_length : ℕ → ℕ → Bool
bad_tree_length k l = eqb l 0 || (not (eqb (l % k) 0) || ltb (256 * k) l)

-- 6: node 0's parent is not 65535; a later node's is neither the node before it nor an ancestor of that node
unfoldable pub bad_parent : Tree → ℕ → Bool
bad_parent t x = cond (eqb x 0) (not (eqb (t.parent x) 65535)) (not (descendant_or_self t (t.parent x) (x - 1)))

-- 7: a tag is above 65533, save that node 0 may be a document node
abbrev pub bad_tag : Tree → ℕ → Bool
bad_tag t x = ltb 65533 (t.tag x) && (ltb 0 x || not (is_document t x))

-- 5 to 7 of a table of k numbers a node
unfoldable pub tree_checks_at : ℕ → List ℕ → List Check
tree_checks_at k t =
    refuse 5 (bad_tree_length k (length t))
    ∷ refuse_at 6 (length t / k) (bad_parent (tree_at k t))
    ∷ refuse_at 7 (length t / k) (bad_tag (tree_at k t))
    ∷ []

-- of a table of two numbers a node
abbrev pub tree_checks : List ℕ → List Check
tree_checks t = tree_checks_at 2 t

-- The query table.

-- 8: empty, no multiple of four, or longer than 256 numbers
abbrev pub bad_query_length : ℕ → Bool
bad_query_length l = eqb l 0 || (not (eqb (l % 4) 0) || ltb 256 l)

-- 9: the number of variables (document 01: the column count) is above 3, or below the least that the service takes: 1 for
-- answers, else 0
abbrev pub bad_variable_count : ℕ → ℕ → Bool
bad_variable_count least columns = ltb columns least || ltb 3 columns

-- 10: a kind above 14
abbrev pub bad_kind : Entry → Bool
bad_kind f = ltb 14 f.kind

-- of 11: an axis above 12; a step may have every tag (document 02, §5)
abbrev pub bad_step : Entry → Bool
bad_step f = eqb f.kind 0 && ltb 12 f.left

-- of 11: a variable not below the count
abbrev pub bad_variable : ℕ → Entry → Bool
bad_variable columns f = names_variable f.kind && not (ltb f.left columns)

-- of 11: right is unnamed where there is no right operand, tag where the entry is no step; left is always named
abbrev pub bad_unnamed : Entry → Bool
bad_unnamed f = (not (has_right f.kind) && not (eqb f.right 0)) || (not (eqb f.kind 0) && not (eqb f.tag 0))

-- 11: an axis above 12, a variable not below the count, or an unnamed field that is not 0
abbrev pub bad_field : ℕ → Entry → Bool
bad_field columns f = bad_step f || (bad_variable columns f || bad_unnamed f)

-- 12: an operand of entry e is not below e
abbrev pub bad_operand : ℕ → Entry → Bool
bad_operand e f = (has_left f.kind && not (ltb f.left e)) || (has_right f.kind && not (ltb f.right e))

-- 13: with l and r the operands' kinds, a path stands where a node expression is due or the reverse
abbrev pub bad_sort : ℕ → ℕ → ℕ → Bool
bad_sort k l r =
    ((left_path k && not (is_path l)) || (left_expr k && is_path l))
    || ((right_path k && not (is_path r)) || (right_expr k && is_path r))

-- entry e fails check k, for the checks 10 to 13
unfoldable pub bad_entry : List ℕ → ℕ → ℕ → ℕ → Bool
bad_entry q columns k e =
    get_or
    (bad_kind (entry q e)
    ∷ bad_field columns (entry q e)
    ∷ bad_operand e (entry q e)
    ∷ [])
    (k - 10)
    (bad_sort (kind q e) (kind q (left q e)) (kind q (right q e)))

-- how often an entry has i for an operand
abbrev pub naming : ℕ → Entry → ℕ
naming i f = bit (has_left f.kind && eqb f.left i) + bit (has_right f.kind && eqb f.right i)

-- how often the first n entries have i for an operand
unfoldable pub uses : List ℕ → ℕ → ℕ → ℕ
uses q i zero = zero
uses q i (suc n) = uses q i n + naming i (entry q n)

-- 14: an operand never or more than once
abbrev pub misused : List ℕ → ℕ → Bool
misused q i = not (eqb (uses q i (entries_of q)) 1)

-- 15: the last entry is a node expression
abbrev pub bad_last : List ℕ → Bool
bad_last q = not (is_path (kind q (last_of q)))

-- 14 and 15
abbrev pub use_checks : List ℕ → List Check
use_checks q =
    refuse_at 14 (last_of q) (misused q)
    ∷ refuse_here 15 (last_of q) (bad_last q)
    ∷ []

-- 10 to 15
abbrev pub entry_checks : List ℕ → ℕ → List Check
entry_checks q columns =
    refuse_at 10 (entries_of q) (bad_entry q columns 10)
    ∷ refuse_at 11 (entries_of q) (bad_entry q columns 11)
    ∷ refuse_at 12 (entries_of q) (bad_entry q columns 12)
    ∷ refuse_at 13 (entries_of q) (bad_entry q columns 13)
    ∷ use_checks q

-- 8 to 15, for a service that takes no fewer variables than least
unfoldable pub query_checks : List ℕ → ℕ → ℕ → List Check
query_checks q least columns =
    refuse 8 (bad_query_length (length q))
    ∷ refuse 9 (bad_variable_count least columns)
    ∷ entry_checks q columns

-- What an evaluation or a page is lent beside them.

-- 17: number k of the list is no node of the tree
abbrev pub bad_node : List ℕ → List ℕ → ℕ → Bool
bad_node t nodes k = not (ltb (get_or nodes k 0) (size_of t))

-- 16: there are not as many nodes as variables; 17 for each
unfoldable pub node_checks : List ℕ → ℕ → List ℕ → List Check
node_checks t columns nodes =
    refuse 16 (not (eqb (length nodes) columns))
    ∷ refuse_at 17 (length nodes) (bad_node t nodes)
    ∷ []

-- 17 for the used numbers of a begun cursor
unfoldable pub cursor_checks : List ℕ → ℕ → Cursor → List Check
cursor_checks t columns c = refuse_at 17 (cond (has_begun c) columns 0) (bad_node t (row_of columns c)) ∷ []

-- 19: a byte is above 1
abbrev pub bad_byte : List ℕ → ℕ → Bool
bad_byte s i = ltb 1 (get_or s i 0)

-- 18: the set is not n long; 19 for each byte
unfoldable pub set_checks : List ℕ → List ℕ → List Check
set_checks t from =
    refuse 18 (not (eqb (length from) (size_of t)))
    ∷ refuse_at 19 (length from) (bad_byte from)
    ∷ []

-- 20: the buffer has room for less than is needed
unfoldable pub room_checks : ℕ → ℕ → List Check
room_checks room needed = refuse 20 (ltb room needed) ∷ []

-- The services, each with what it is lent.

-- an evaluation's tables and assignment: 5 to 17
unfoldable pub table_checks : List ℕ → List ℕ → ℕ → List ℕ → List Check
table_checks t q columns nodes = tree_checks t ++ (query_checks q 0 columns ++ node_checks t columns nodes)

-- forwards and backwards: 5 to 20, for a buffer of so many bytes
unfoldable pub image_checks : List ℕ → List ℕ → ℕ → List ℕ → List ℕ → ℕ → List Check
image_checks t q columns nodes from room = table_checks t q columns nodes ++ (set_checks t from ++ room_checks room (size_of t))

-- pairs: 5 to 17 and 20
unfoldable pub pairs_checks : List ℕ → List ℕ → ℕ → List ℕ → ℕ → List Check
pairs_checks t q columns nodes room = table_checks t q columns nodes ++ room_checks room (size_of t * size_of t)

-- a page: 5 to 15, 17 and 20, for a buffer of so many numbers
unfoldable pub page_checks : List ℕ → List ℕ → ℕ → Cursor → ℕ → List Check
page_checks t q columns c room = tree_checks t ++ (query_checks q 1 columns ++ (cursor_checks t columns c ++ room_checks room columns))

-- a quick page (document 02, §7): the same, and 29 between 15 and 17
unfoldable pub quick_checks : List ℕ → List ℕ → ℕ → Cursor → ℕ → List Check
quick_checks t q columns c room =
    tree_checks t ++ (query_checks q 1 columns ++ (sharing_checks q ++ (cursor_checks t columns c ++ room_checks room columns)))
