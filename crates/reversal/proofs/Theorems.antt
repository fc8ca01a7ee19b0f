-- What the reversed query gives beside the query: pairs, images, pair tables and answers, and what the services leave.
use Prim.Native.Nat.{ℕ, ◌+◌, ◌*◌, ◌≤◌, ◌<◌}
use native.Mathlib.Omega.{arith}
use mathlib.Core.Path.{◌≡◌, refl, sym, ap, ◌∙◌, fun_ext}
use mathlib.Core.Bool.{Bool, true, false, not, ◌&&◌, cond, not-not}
use mathlib.Core.List.{List, ◌++◌, append_assoc}
use lib.Dec.{ltb, eqb}
use lib.ListN.{length, get_or}
use borrow.Author.Tests.{eqb-true}
use Rattle.model.specs.declared.Reply.{Reply}
use Rattle.model.specs.declared.ImageReply.{ImageReply}
use Rattle.model.specs.Sets.{bit, any, ones, memb, upto, image}
use Rattle.model.specs.Tree.{size_of, tree_of}
use Rattle.model.specs.Accepted.{Sound}
use Rattle.model.specs.Syntax.{Path}
use Rattle.model.specs.Meaning.{pairs}
use Rattle.model.specs.QueryTable.{path_at, last_of}
use Rattle.model.specs.Results.{assigned, related, image_bytes, cell, pairs_bytes}
use Rattle.model.specs.Answers.{Row, all_rows, keep, satisfied, answers}
use Rattle.model.specs.Refusals.{Check, counting, verdict, written}
use Rattle.model.specs.Checks.{tree_checks, query_checks, node_checks, set_checks, room_checks, table_checks, image_checks}
use Rattle.model.specs.Parties.{seen_table, shared_verdict, over_seen}
use Rattle.model.specs.Services.{image_verdict, seen_image}
use Rattle.model.proofs.Booleans.{Seen, seen}
use Rattle.model.proofs.Booleans.Seen.{yes!, no! }
use Rattle.model.proofs.Exists.{any_cong, any_swap}
use Rattle.model.proofs.Bytes.{tab_cong, get_or_tab, row_fits, cell_at}
use Rattle.model.proofs.Refusals.{Passes-front, none_refused, by_front, same_front}
use Rattle.model.proofs.Encoding.{table_back}
use Rattle.model.proofs.Accepted.{tree_ordered, tree_numbered, query_numbered}
use Rattle.reversal.specs.Reversed.{reversed}
use Rattle.reversal.specs.Service.{reversed_query, reversed_table, reverse_checks}
use Rattle.reversal.proofs.Swapped.{reversed_pairs}
use Rattle.reversal.proofs.Passing.{query_passes, reversed_passes}

-- Over a tree whose nodes' parents come before them, of any query table.

module _ (t : List ℕ) (s : Sound (tree_of t)) (q nodes : List ℕ) where
  -- the query of the table that is made
  swapped : (x y : ℕ) → x < size_of t → y < size_of t
      → pairs (tree_of t) (assigned nodes) (path_at (reversed_table q) (last_of (reversed_table q))) x y
      ≡ pairs (tree_of t) (assigned nodes) (path_at q (last_of q)) y x
  unfolding reversed_query
  swapped x y lx ly =
      let p = path_at q (last_of q) in
      ap (λ (r : Path). pairs (tree_of t) (assigned nodes) r x y) (table_back (reversed p))
      ∙ reversed_pairs (tree_of t) s (assigned nodes) p x y lx ly

  -- for the reader: the table of the reversed query, read as a query, has the pairs of the query, swapped: one way what the query has
  -- the other way
  pub reversed_related : (back : Bool) (x y : ℕ) → x < size_of t → y < size_of t
      → related t (reversed_table q) nodes (last_of (reversed_table q)) back x y ≡ related t q nodes (last_of q) (not back) x y
  unfolding related
  reversed_related false x y lx ly = swapped x y lx ly
  reversed_related true x y lx ly = swapped y x ly lx

  -- for the reader: the nodes that a set reaches by it one way are those that it reaches by the query the other way
  pub reversed_image : (back : Bool) (from : List ℕ) → image_bytes t (reversed_table q) nodes back from ≡ image_bytes t q nodes (not back) from
  unfolding image_bytes image upto
  reversed_image back from =
      let R = related t (reversed_table q) nodes (last_of (reversed_table q)) back in
      let S = related t q nodes (last_of q) (not back) in
      tab_cong (size_of t) _ _
      (λ y ly. ap (λ (b : Bool). ltb y (size_of t) && b)
      (any_cong (size_of t) (λ x. memb from x && R x y) (λ x. memb from x && S x y)
      (λ x lx. ap (λ (b : Bool). memb from x && b) (reversed_related back x y lx ly))))

  -- a byte of a pair table
  pair_byte : (r : List ℕ) (x y : ℕ) → x < size_of t → y < size_of t
      → get_or (pairs_bytes t r nodes) (x * size_of t + y) 0 ≡ bit (related t r nodes (last_of r) false x y)
  unfolding pairs_bytes
  pair_byte r x y lx ly =
      let n = size_of t in
      let R = related t r nodes (last_of r) false in
      let f : x * n + n ≤ n * n = row_fits n x (x * n) refl lx in
      get_or_tab (n * n) (cell n R) (x * n + y) (omega arith) ∙ ap bit (cell_at n x (x * n) refl R y ly)

  -- for the reader: the pairs of the reversed query are the query's pairs swapped, as tables of bytes
  pub reversed_pair_table : (x y : ℕ) → x < size_of t → y < size_of t
      → get_or (pairs_bytes t (reversed_table q) nodes) (x * size_of t + y) 0 ≡ get_or (pairs_bytes t q nodes) (y * size_of t + x) 0
  unfolding related
  reversed_pair_table x y lx ly = pair_byte (reversed_table q) x y lx ly ∙ ap bit (swapped x y lx ly) ∙ sym (pair_byte q y x ly lx)

-- for the reader: reversed twice, a query has the pairs that it had
pub twice_related : (t : List ℕ) → Sound (tree_of t) → (q nodes : List ℕ) (back : Bool) (x y : ℕ) → x < size_of t → y < size_of t
    → related t (reversed_table (reversed_table q)) nodes (last_of (reversed_table (reversed_table q))) back x y ≡ related t q nodes (last_of q) back x y
twice_related t s q nodes back x y lx ly =
    reversed_related t s (reversed_table q) nodes back x y lx ly
    ∙ reversed_related t s q nodes (not back) x y lx ly
    ∙ ap (λ (b : Bool). related t q nodes (last_of q) b x y) (not-not back)

-- for the reader: the reversed query has some pair under a row exactly if the query has
pub reversed_satisfied : (t : List ℕ) → Sound (tree_of t) → (q : List ℕ) (row : Row) → satisfied t (reversed_table q) row ≡ satisfied t q row
unfolding satisfied related
reversed_satisfied t s q row =
    let n = size_of t in
    let R = related t (reversed_table q) row (last_of (reversed_table q)) false in
    let S = related t q row (last_of q) false in
    any_cong n (λ x. any n (λ y. R x y)) (λ x. any n (λ y. S y x))
    (λ x lx. any_cong n (λ y. R x y) (λ y. S y x) (λ y ly. swapped t s q row x y lx ly))
    ∙ any_swap n n (λ x y. S y x)

-- for the reader: the answers of the reversed query are the query's
pub reversed_answers : (t : List ℕ) → Sound (tree_of t) → (q : List ℕ) (columns : ℕ) → answers t (reversed_table q) columns ≡ answers t q columns
unfolding answers
reversed_answers t s q columns =
    ap (λ (f : Row → Bool). keep f (all_rows (size_of t) columns)) (fun_ext (λ row. reversed_satisfied t s q row))

-- What the services leave, where the query was reversed.

-- a reply that counts and a buffer, from bytes that are only written where the verdict accepts
abbrev leave : Reply → List ℕ → List ℕ → ImageReply × List ℕ
leave v bytes to = (counting v (cond (eqb v.number 0) (ones bytes) 0), written v bytes to)

leave_same : (v : Reply) (a b to : List ℕ) → (v.number ≡ 0 → a ≡ b) → leave v a to ≡ leave v b to
unfolding written
leave_same v a b to h = go (seen (eqb v.number 0))
  where
    go : Seen (eqb v.number 0) → leave v a to ≡ leave v b to
    go (yes! p) = ap (λ (l : List ℕ). leave v l to) (h (eqb-true v.number 0 p))
    go (no! p) = rw p

module _ (q : List ℕ) (columns room : ℕ) (ok : (verdict (reverse_checks q columns room)).number ≡ 0) where
  -- the checks behind those of the query decide, as they do behind those of the reversed one
  behind_query : (rest : List Check) → verdict (query_checks (reversed_table q) 0 columns ++ rest) ≡ verdict (query_checks q 0 columns ++ rest)
  behind_query rest =
      same_front (query_checks (reversed_table q) 0 columns) (query_checks q 0 columns) rest (query_numbered (reversed_table q) 0 columns) (query_numbered q 0 columns)
      (reversed_passes q columns room ok ∙ sym (none_refused (query_checks q 0 columns) (query_passes q columns room ok)))

  module _ (t nodes from to : List ℕ) where
    -- what is judged behind the query, and behind the tree
    abbrev rest : List Check
    rest = node_checks t columns nodes ++ (set_checks t from ++ room_checks (length to) (size_of t))

    abbrev behind : List ℕ → List Check
    behind r = query_checks r 0 columns ++ rest

    by_tree : (r : List ℕ) → image_checks t r columns nodes from (length to) ≡ tree_checks t ++ behind r
    unfolding image_checks table_checks
    by_tree r =
        let last = set_checks t from ++ room_checks (length to) (size_of t) in
        append_assoc (tree_checks t) (query_checks r 0 columns ++ node_checks t columns nodes) last
        ∙ ap (λ (cs : List Check). tree_checks t ++ cs) (append_assoc (query_checks r 0 columns) (node_checks t columns nodes) last)

    -- the verdicts are the same
    reversed_verdict : image_verdict t (reversed_table q) columns nodes from to ≡ image_verdict t q columns nodes from to
    reversed_verdict =
        ap verdict (by_tree (reversed_table q))
        ∙ by_front (tree_checks t) (behind (reversed_table q)) (behind q) (tree_numbered t) (λ z. behind_query rest)
        ∙ sym (ap verdict (by_tree q))

    -- what is accepted has an accepted tree
    tree_sound : (image_verdict t q columns nodes from to).number ≡ 0 → Sound (tree_of t)
    tree_sound h =
        let z : (verdict (tree_checks t ++ behind q)).number ≡ 0 = ap (λ (cs : List Check). (verdict cs).number) (sym (by_tree q)) ∙ h in
        (tree_ordered t (Passes-front (tree_checks t) (behind q) (tree_numbered t) z).0).sound

    -- the bytes of an accepted call are the same; a refused one writes none, and counts 0
    reversed_leaves : (back : Bool)
        → leave (image_verdict t (reversed_table q) columns nodes from to) (image_bytes t (reversed_table q) nodes back from) to
        ≡ leave (image_verdict t q columns nodes from to) (image_bytes t q nodes (not back) from) to
    reversed_leaves back =
        ap (λ (v : Reply). leave v (image_bytes t (reversed_table q) nodes back from) to) reversed_verdict
        ∙ leave_same (image_verdict t q columns nodes from to) (image_bytes t (reversed_table q) nodes back from) (image_bytes t q nodes (not back) from) to
        (λ h. reversed_image t (tree_sound h) q nodes back from)

  -- for the reader: with that number of variables, forwards over the reversed query is backwards over the query, and the reverse, whatever
  -- else the calls are lent: reply, count and buffer
  pub reversed_outcome : (t : List ℕ) (party : ℕ) (nodes : List ℕ) (back : Bool) (from to : List ℕ)
      → seen_image t party (reversed_table q) columns nodes back from to ≡ seen_image t party q columns nodes (not back) from to
  unfolding seen_image over_seen
  reversed_outcome t party nodes back from to =
      ap (λ (o : ImageReply × List ℕ). cond (eqb (shared_verdict t party).number 0) o (counting (shared_verdict t party) 0, to))
      (reversed_leaves (seen_table t party) nodes from to back)
