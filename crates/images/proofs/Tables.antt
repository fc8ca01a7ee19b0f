-- From what the engines make to what a service writes: the front of a buffer, and a relation's table, from its table of bits and row after
-- row.
use Prim.Native.Nat.{ℕ, ◌+◌, ◌-◌, ◌*◌, ◌<◌, ◌≤◌}
use native.Mathlib.Nat.{mul-le-mul_right}
use native.Mathlib.Omega.{arith}
use mathlib.Core.Path.{◌≡◌, refl, sym, ap, ◌∙◌}
use mathlib.Core.Bool.{Bool, true, false}
use mathlib.Core.List.{List, ◌++◌, append_assoc, append-nil}
use lib.ListN.{length, take, drop, length-drop, drop_of_length-le}
use lib.Seq.{take_at, take_all, drop_at, drop-drop}
use borrow.Author.Tests.{lt-ltb}
use Rattle.model.specs.declared.refusal.Refusal.{Refusal}
use Rattle.model.specs.Sets.{tab, ones, memb, upto, image}
use Rattle.model.specs.Tree.{tree_of, size_of}
use Rattle.model.specs.QueryTable.{last_of}
use Rattle.model.specs.Results.{related, image_bytes, cell, pairs_bytes}
use Rattle.model.specs.Refusals.{reply, refused, counting, verdict}
use Rattle.model.specs.Checks.{image_checks, pairs_checks}
use Rattle.model.specs.Services.{ImageLeaves, PairsLeave}
use Rattle.model.proofs.Bytes.{tab_append, tab_cong, length_tab, length_over, tab_front, row_fits, cell_at}
use Rattle.model.proofs.Counts.{ones_front}
use Rattle.model.proofs.Refusals.{counts_none, counts_some, written_not, written_over, refused_some}
use Rattle.sets.specs.NodeSets.{only}
use Rattle.sets.proofs.Images.{memb_upto, image_one, image_from}
use Rattle.eval.specs.Evaluation.{reached}
use Rattle.tree.specs.Links.{PreviousSiblings}
use Rattle.checks.specs.Tables.{Tables}
use Rattle.bits.specs.BitTables.{bit_cell, bit_table, byte_table, bit_relation, unpacked}
use Rattle.bits.specs.Rows.{Becomes}
use Rattle.bits.proofs.Rows.{of_words}
use Rattle.packing.proofs.Rows.{cell_row}
use Rattle.packing.proofs.RoundTrip.{byte_cong}
use Rattle.relations.specs.Services.{pairs_words}
use Rattle.relations.proofs.Services.{tables_five}
use Rattle.engines.specs.Engines.{Suits}

-- either engine can evaluate an accepted query
pub suits : (t prev q nodes : List ℕ) → Tables t q nodes → PreviousSiblings (tree_of t) (size_of t) prev → Suits t prev q nodes (last_of q) true
suits t prev q nodes a p = record {
  ready = record { linked = record { tree = a.tree; siblings = p }; query = a.query };
  kinds = record { within = a.last; sort = a.path };
  few = omega (arith, a.shaped.few);
  five = tables_five t q nodes a;
}

-- the table of bits at the front of the words, unpacked
pub pairs_unpacked : (t q nodes o words to after : List ℕ) → after ≡ unpacked (size_of t) words ++ drop (size_of t * size_of t) to
    → words ≡ pairs_words t q nodes ++ drop (4 * size_of t) o → 4 * size_of t ≤ length o → size_of t ≤ 256 → after ≡ pairs_bytes t q nodes ++ drop (size_of t * size_of t) to
unfolding pairs_words bit_table byte_table pairs_bytes upto
pairs_unpacked t q nodes o words to after p w room fits = p ∙ ap (λ (l : List ℕ). l ++ drop (n * n) to) (byte_cong n fits (bit_relation words) R (λ x y a b. table.bits x y a (omega arith) ∙ rw (lt-ltb y n b)))
  where
    n : ℕ
    n = size_of t

    R : ℕ → ℕ → Bool
    R = related t q nodes (last_of q) false

    table : Becomes n (λ x. upto n (R x)) o words
    table = of_words n (λ x. upto n (R x)) (bit_cell n R) o words w room (λ x y a b. cell_row n R x y b)

-- the front of a buffer

front : (t q nodes : List ℕ) (back : Bool) (from s r : List ℕ) → r ≡ reached t q nodes (last_of q) back s → s ≡ tab 256 (upto (length from) (memb from)) → length from ≡ size_of t → size_of t ≤ 256
    → tab (size_of t) (memb r) ≡ image_bytes t q nodes back from
unfolding reached image_bytes
front t q nodes back from s r a c l fits =
    rw (a, c, l, image_from (size_of t) fits (related t q nodes (last_of q) back) (memb (tab 256 (upto (size_of t) (memb from)))) (memb from) (λ x k. memb_upto (size_of t) fits (memb from) x k))
    (tab_front (size_of t) _ fits)

pub image_front : (t q nodes : List ℕ) (back : Bool) (from s r to after : List ℕ) → after ≡ tab (size_of t) (memb r) ++ drop (size_of t) to
    → r ≡ reached t q nodes (last_of q) back s → s ≡ tab 256 (upto (length from) (memb from)) → length from ≡ size_of t → size_of t ≤ 256
    → after ≡ image_bytes t q nodes back from ++ drop (size_of t) to
image_front t q nodes back from s r to after p a c l fits = p ∙ ap (λ (x : List ℕ). x ++ drop (size_of t) to) (front t q nodes back from s r a c l fits)

-- the count of the 256 bytes is that of the front
pub image_counted : (t q nodes : List ℕ) (back : Bool) (from s r : List ℕ) (k : ℕ) → k ≡ ones r
    → r ≡ reached t q nodes (last_of q) back s → s ≡ tab 256 (upto (length from) (memb from)) → length from ≡ size_of t → size_of t ≤ 256
    → k ≡ ones (image_bytes t q nodes back from)
unfolding reached image
image_counted t q nodes back from s r k p a c l fits = p ∙ ones_front (size_of t) _ r a fits ∙ ap ones (front t q nodes back from s r a c l fits)

-- what a service leaves: refused, or with its set or table at the front

module _ (t q : List ℕ) (columns : ℕ) (nodes : List ℕ) where
  pub image_refused : (e : Refusal) (back : Bool) (from to : List ℕ) → refused e ≡ verdict (image_checks t q columns nodes from (length to))
      → ImageLeaves t q columns nodes back from to (counting (refused e) 0) to
  image_refused e back from to p = (counts_none _ (refused e) _ p _ refl (refused_some e), written_not (refused e) _ _ _ p (refused_some e))

  pub image_made : (back : Bool) (from to after : List ℕ) (k : ℕ) → reply 0 0 ≡ verdict (image_checks t q columns nodes from (length to))
      → k ≡ ones (image_bytes t q nodes back from) → after ≡ image_bytes t q nodes back from ++ drop (size_of t) to
      → ImageLeaves t q columns nodes back from to (counting (reply 0 0) k) after
  unfolding image_bytes
  image_made back from to after k p e a =
      (counts_some _ (reply 0 0) _ p _ _ refl e refl, written_over (reply 0 0) _ (image_bytes t q nodes back from) to after (size_of t) a p refl (length_tab (size_of t) _))

  pub pairs_refused : (e : Refusal) (to : List ℕ) → refused e ≡ verdict (pairs_checks t q columns nodes (length to)) → PairsLeave t q columns nodes to (refused e) to
  pairs_refused e to p = (p, written_not (refused e) _ _ _ p (refused_some e))

  pub pairs_made : (to after : List ℕ) → reply 0 0 ≡ verdict (pairs_checks t q columns nodes (length to))
      → after ≡ pairs_bytes t q nodes ++ drop (size_of t * size_of t) to → PairsLeave t q columns nodes to (reply 0 0) after
  unfolding pairs_bytes
  pairs_made to after p a =
      (p, written_over (reply 0 0) _ (pairs_bytes t q nodes) to after (size_of t * size_of t) a p refl (length_tab (size_of t * size_of t) _))

-- the part of a slice from a place to its end, put back
pub put_back : (a n : ℕ) (xs ys r : List ℕ) → ys ≡ tab n (memb r) ++ drop n (take (length xs - a) (drop a xs))
    → take a xs ++ (ys ++ drop (length xs - a) (drop a xs)) ≡ take a xs ++ (tab n (memb r) ++ drop n (drop a xs))
put_back a n xs ys r p =
    let h : length (drop a xs) ≤ length xs - a = omega (arith, length-drop a xs) in
    let u : ys ≡ tab n (memb r) ++ drop n (drop a xs) = p ∙ ap (λ (l : List ℕ). tab n (memb r) ++ drop n l) (take_all (length xs - a) (drop a xs) h) in
    ap (λ (l : List ℕ). take a xs ++ (ys ++ l)) (drop_of_length-le (drop a xs) h) ∙ ap (λ (l : List ℕ). take a xs ++ l) (append-nil ys ∙ u)

-- the rows of a table

module _ (n x at : ℕ) (e : at ≡ x * n) where
  module _ (R : ℕ → ℕ → Bool) (o l r l' : List ℕ) where
    -- one row more is written behind those of the nodes before x
    pub row_over : l' ≡ take at l ++ (tab n (memb r) ++ drop n (drop at l)) → l ≡ tab at (cell n R) ++ drop at o → r ≡ tab 256 (upto n (R x)) → n ≤ 256
        → l' ≡ tab (at + n) (cell n R) ++ drop (at + n) o
    row_over p q g h =
        p ∙ rw (q, take_at (tab at (cell n R)) (drop at o) at (length_tab at (cell n R)), drop_at (tab at (cell n R)) (drop at o) at (length_tab at (cell n R)), drop-drop n at o, tab_append at n (cell n R))
        (ap (λ (m : List ℕ). tab at (cell n R) ++ (m ++ drop (at + n) o)) rows ∙ sym (append_assoc (tab at (cell n R)) (tab n (λ k. cell n R (at + k))) (drop (at + n) o)))
      where
        rows : tab n (memb r) ≡ tab n (λ k. cell n R (at + k))
        rows = tab_cong n (memb r) (λ k. cell n R (at + k)) (λ k m. rw g (memb_upto n h (R x) k m) ∙ sym (cell_at n x at e R k m))

-- there is room for one row more
pub row_room : (n x at : ℕ) (S : ℕ → Bool) (o l : List ℕ) → l ≡ tab at S ++ drop at o → at ≡ x * n → x < n → n * n ≤ length o → at + n ≤ length l
row_room n x at S o l p e h g =
    let f = row_fits n x at e h in
    let k : length l ≡ length o = length_over S o l at p (omega arith) in
    omega arith

pub rows_length : (n x at : ℕ) (S : ℕ → Bool) (o l : List ℕ) → l ≡ tab at S ++ drop at o → at ≡ x * n → x ≤ n → n * n ≤ length o → length l ≡ length o
rows_length n x at S o l p e h g =
    let f : x * n ≤ n * n = mul-le-mul_right n h in
    length_over S o l at p (omega arith)

pub row_of : (t q nodes : List ℕ) (x : ℕ) (s r : List ℕ) → r ≡ reached t q nodes (last_of q) false s → s ≡ tab 256 (only x) → x < size_of t → size_of t ≤ 256
    → r ≡ tab 256 (upto (size_of t) (related t q nodes (last_of q) false x))
unfolding reached
row_of t q nodes x s r p g l h = p ∙ rw g (image_one (size_of t) h (related t q nodes (last_of q) false) x l)

-- all rows are written
pub rows_end : (t q nodes : List ℕ) (x at : ℕ) (o l : List ℕ) → l ≡ tab at (cell (size_of t) (related t q nodes (last_of q) false)) ++ drop at o → at ≡ x * size_of t → x ≤ size_of t → size_of t ≤ x
    → l ≡ pairs_bytes t q nodes ++ drop (size_of t * size_of t) o
unfolding pairs_bytes
rows_end t q nodes x at o l p e a b =
    let g : x ≡ size_of t = omega arith in
    let f : at ≡ size_of t * size_of t = e ∙ ap (λ (k : ℕ). k * size_of t) g in
    p ∙ ap (λ (k : ℕ). tab k (cell (size_of t) (related t q nodes (last_of q) false)) ++ drop k o) f
