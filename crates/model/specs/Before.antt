-- What services replied before a document node could be stored (document 02, §5) and before the kinds star and `same` (§9), for one theorem
-- alone: without such a node, the test node() and those kinds, every service that is lent a query replies as before (proofs/Unchanged.antt:
-- replies_as_before). What is said here of services is the text of their definitions, over what they take from a tree and a query.
use Rattle.std.specs.Prelude.{ℕ, ◌*◌, ◌≡◌, Bool, false, ◌&&◌, ◌||◌, cond, List, [], ◌∷◌, ◌++◌, ltb, eqb, length}
use Rattle.model.specs.declared.Cursor.{Cursor}
use Rattle.model.specs.declared.Entry.{Entry}
use Rattle.model.specs.declared.Reply.{Reply}
use Rattle.model.specs.declared.ImageReply.{ImageReply}
use Rattle.model.specs.Sets.{any, tab, ones, memb, turn, image}
use Rattle.model.specs.Tree.{Tree, size_of, tree_of}
use Rattle.model.specs.Axes.{axis}
use Rattle.model.specs.Meaning.{pairs_over}
use Rattle.model.specs.QueryTable.{entries_of, kind, tag, entry, path_at, last_of}
use Rattle.model.specs.Results.{assigned, related, cell}
use Rattle.model.specs.Answers.{Row, keep, all_rows, answers}
use Rattle.model.specs.Pages.{Outcome}
use Rattle.model.specs.Refusals.{Check, refuse_at, counting, verdict, written}
use Rattle.model.specs.Checks.{bad_variable, bad_unnamed, tree_checks, query_checks, node_checks, cursor_checks, set_checks, room_checks}
use Rattle.model.specs.Services.{image_reply, image_buffer, pairs_reply, pairs_buffer, judged, page_outcome}

-- The rules that moved, as they were.

-- the name test: 65535 was the star, and matched every node
abbrev pub passes_before : Tree → ℕ → ℕ → Bool
passes_before t name y = eqb name 65535 || eqb (t.tag y) name

-- the pairs of a step
abbrev pub steps_before : Tree → ℕ → ℕ → ℕ → ℕ → Bool
steps_before t a name x y = axis t a x y && passes_before t name y

-- 7: a tag is 65534 or 65535
abbrev pub bad_tag_before : Tree → ℕ → Bool
bad_tag_before t x = ltb 65533 (t.tag x)

-- 10: a kind above 12
abbrev pub bad_kind_before : Entry → Bool
bad_kind_before f = ltb 12 f.kind

-- 11: an axis above 12, a step's tag 65534, a variable not below the count, or an unnamed field that is not 0
abbrev pub bad_field_before : ℕ → Entry → Bool
bad_field_before columns f =
    (eqb f.kind 0 && (ltb 12 f.left || eqb f.tag 65534)) || (bad_variable columns f || bad_unnamed f)

-- a list of checks, with one in the place of that with its number
unfoldable pub instead : Check → List Check → List Check
instead c [] = []
instead c (d ∷ ds) = cond (eqb d.number c.number) c d ∷ instead c ds

-- What a service takes from a tree table and a query table.

-- the tree table, whose length is that of the sets; its checks; the query's checks, for a least number of variables and theirs; and
-- the query's relation under an assignment, its converse where the flag is set
pub record Inputs : Type 0 where
  pub table : List ℕ
  pub tree : List Check
  pub query : ℕ → ℕ → List Check
  pub relation : List ℕ → Bool → ℕ → ℕ → Bool

-- by today's rules
abbrev pub inputs_of : List ℕ → List ℕ → Inputs
inputs_of t q = record { table = t; tree = tree_checks t; query = query_checks q; relation = λ nodes back. related t q nodes (last_of q) back }

-- by those before
abbrev pub inputs_before : List ℕ → List ℕ → Inputs
inputs_before t q =
    record {
      table = t;
      tree = instead (refuse_at 7 (size_of t) (bad_tag_before (tree_of t))) (tree_checks t);
      query = λ least columns.
          instead (refuse_at 10 (entries_of q) (λ e. bad_kind_before (entry q e)))
          (instead (refuse_at 11 (entries_of q) (λ e. bad_field_before columns (entry q e))) (query_checks q least columns));
      relation = λ nodes back. turn back (pairs_over (size_of t) (steps_before (tree_of t)) (assigned nodes) (path_at q (last_of q)));
    }

-- Every service that is lent a query: what it replies and leaves, for all else that it is lent.
pub record Replies : Type 0 where
  -- check_query, for a least number of variables and theirs
  pub check : ℕ → ℕ → Reply
  -- forwards and backwards: the number of variables, their nodes, the direction, the set and the buffer
  pub image : ℕ → List ℕ → Bool → List ℕ → List ℕ → ImageReply
  pub image_left : ℕ → List ℕ → Bool → List ℕ → List ℕ → List ℕ
  -- pairs: the number of variables, their nodes and the buffer
  pub pairs : ℕ → List ℕ → List ℕ → Reply
  pub pairs_left : ℕ → List ℕ → List ℕ → List ℕ
  -- page: the number of variables, the cursor and the buffer
  pub page : ℕ → Cursor → List ℕ → Outcome
  -- of a job, what its output is made of (output: job_checks, answers_in): its tables' checks and the answers, for a number of variables
  pub job : ℕ → List Check
  pub listed : ℕ → List Row

-- as the contracts have them
abbrev pub replies_of : List ℕ → List ℕ → Replies
replies_of t q =
    record {
      check = λ least columns. verdict (query_checks q least columns);
      image = image_reply t q;
      image_left = image_buffer t q;
      pairs = pairs_reply t q;
      pairs_left = pairs_buffer t q;
      page = page_outcome t q;
      job = λ columns. tree_checks t ++ query_checks q 1 columns;
      listed = answers t q;
    }

-- The same over all that a service takes from its tables; each comment names the definition whose text this is.

module _ (i : Inputs) where
  -- the number of nodes
  abbrev nodes_in : ℕ
  nodes_in = size_of i.table

  -- table_checks: the checks of the tables and of the assignment
  abbrev tables_over : ℕ → List ℕ → List Check
  tables_over columns nodes = i.tree ++ (i.query 0 columns ++ node_checks i.table columns nodes)

  -- image_verdict
  abbrev image_verdict_over : ℕ → List ℕ → List ℕ → List ℕ → Reply
  image_verdict_over columns nodes from to = verdict (tables_over columns nodes ++ (set_checks i.table from ++ room_checks (length to) nodes_in))

  -- image_bytes
  abbrev image_over : List ℕ → Bool → List ℕ → List ℕ
  image_over nodes back from = tab nodes_in (image nodes_in (i.relation nodes back) (memb from))

  -- pairs_reply
  abbrev pairs_verdict_over : ℕ → List ℕ → List ℕ → Reply
  pairs_verdict_over columns nodes table = verdict (tables_over columns nodes ++ room_checks (length table) (nodes_in * nodes_in))

  -- answers
  abbrev answers_over : ℕ → List Row
  answers_over k = keep (λ row. any nodes_in (λ x. any nodes_in (λ y. i.relation row false x y))) (all_rows nodes_in k)

  -- the verdict of a page
  abbrev page_verdict_over : ℕ → Cursor → List ℕ → Reply
  page_verdict_over columns c buffer = verdict (i.tree ++ (i.query 1 columns ++ (cursor_checks i.table columns c ++ room_checks (length buffer) columns)))

  -- what services make of it, each in the words of its definition
  abbrev pub replies_over : Replies
  replies_over =
      record {
        check = λ least columns. verdict (i.query least columns);
        image = λ columns nodes back from to.
            counting (image_verdict_over columns nodes from to)
            (cond (eqb (image_verdict_over columns nodes from to).number 0) (ones (image_over nodes back from)) 0);
        image_left = λ columns nodes back from to. written (image_verdict_over columns nodes from to) (image_over nodes back from) to;
        pairs = pairs_verdict_over;
        pairs_left = λ columns nodes table. written (pairs_verdict_over columns nodes table) (tab (nodes_in * nodes_in) (cell nodes_in (i.relation nodes false))) table;
        page = λ columns c buffer. judged (page_verdict_over columns c buffer) columns (answers_over columns) c buffer;
        job = λ columns. i.tree ++ i.query 1 columns;
        listed = answers_over;
      }

-- The cases in which nothing has changed.

-- no node is a document node; past the table's end all numbers read as 0
abbrev pub NoDocument : Tree → Type 0
NoDocument t = (x : ℕ) → t.tag x ≡ 65534 → ⊥

-- no step of the query has the test node()
abbrev pub NoNodeTest : List ℕ → Type 0
NoNodeTest q = (e : ℕ) → kind q e ≡ 0 → tag q e ≡ 65534 → ⊥

-- no entry of the query is a star or `same`
abbrev pub OldKinds : List ℕ → Type 0
OldKinds q = (e : ℕ) → (kind q e ≡ 13 → ⊥) × (kind q e ≡ 14 → ⊥)
