-- Laws of the way through the rows from answer to answer.
use Prim.Native.Nat.{ℕ, ◌<◌, ◌≤◌}
use native.Mathlib.Omega.{arith}
use mathlib.Core.Path.{◌≡◌, refl, sym, ap, ap₂, ◌∙◌, subst}
use mathlib.Core.Logic.{◌⊎◌}
use mathlib.Core.Bool.{Bool, true, false, not, ◌&&◌, and_comm}
use mathlib.Core.List.{List, [], ◌∷◌}
use lib.Dec.{ltb, eqb}
use lib.ListN.{length, take}
use borrow.Author.Tests.{lt-ltb}
use Rattle.model.specs.declared.Cursor.{Cursor}
use Rattle.model.specs.Sets.{any, tab, ones, memb, upto, image}
use Rattle.model.specs.Tree.{size_of}
use Rattle.model.specs.QueryTable.{last_of}
use Rattle.model.specs.Results.{related}
use Rattle.model.specs.Accepted.{Below}
use Rattle.model.specs.Answers.{Row, less, keep, cons_if, all_rows, satisfied, answers}
use Rattle.model.specs.Pages.{row_of, has_begun, after}
use Rattle.model.proofs.Exists.{any_cong, any_swap}
use Rattle.model.proofs.Bytes.{memb_tab}
use Rattle.model.proofs.Counts.{ones_front, ones_any}
use Rattle.model.proofs.Answers.{In, kept_in, all_below}
use Rattle.sets.specs.NodeSets.{always}
use Rattle.eval.specs.Evaluation.{reached}
use Rattle.std.specs.Prelude.{Some, None}
use Rattle.answers.specs.Search.{Spot, row_at, ahead, Stands, Heads, EmptyBlock}
use Rattle.narrowing.proofs.Calls.{zeros}
use Rattle.answers.proofs.Odometer.{zeros_first}
use Rattle.answers.proofs.EmptyBlocks.{block_left_out, block_fewer}
use Rattle.answers.proofs.Paging.{in_after}

-- one evaluation: the image of all nodes has a node exactly if the query has a pair
pub has_pair_lem : (t q row full bytes : List ℕ) (k : ℕ) → k ≡ ones bytes → bytes ≡ reached t q row (last_of q) false full
    → full ≡ tab 256 (upto (size_of t) (always true)) → size_of t ≤ 256 → not (eqb k 0) ≡ satisfied t q row
unfolding satisfied reached image upto
has_pair_lem t q row full bytes k p r f h =
    ap (λ (j : ℕ). not (eqb j 0)) (p ∙ ones_front (size_of t) _ bytes r h)
    ∙ ones_any (memb bytes) (size_of t)
    ∙ ap (λ (z : List ℕ). any n (memb z)) (r ∙ ap (λ (z : List ℕ). tab 256 (λ y. ltb y n && any n (λ x. memb z x && R x y))) f)
    ∙ any_cong n (memb (tab 256 I)) (λ y. any n (λ x. R x y)) at
    ∙ any_swap n n (λ y x. R x y)
  where
    n : ℕ
    n = size_of t

    R : ℕ → ℕ → Bool
    R = related t q row (last_of q) false

    all : List ℕ
    all = tab 256 (λ k. ltb k n && true)

    I : ℕ → Bool
    I y = ltb y n && any n (λ x. memb all x && R x y)

    at : (y : ℕ) → y < n → memb (tab 256 I) y ≡ any n (λ x. R x y)
    at y l =
        memb_tab 256 I y (omega arith)
        ∙ rw (lt-ltb y n l)
        (any_cong n (λ x. memb all x && R x y) (λ x. R x y) (λ x k. rw (memb_tab 256 (λ k. ltb k n && true) x (omega arith), lt-ltb x n k)))

-- a row is the first of those that begin with all its numbers
pub heads_itself : {n k : ℕ} {row : List ℕ} → k ≤ 3 → Below n (take k row) → Heads n k k row
heads_itself few nodes = record { few = few; within = omega arith; nodes = nodes; zeros = λ j l h. absurd (omega arith) }

-- where a cursor goes on

module _ (n k : ℕ) (c : Cursor) where
  pub start_begun : (o : List Row) → o ≡ keep (less (row_of k c)) (all_rows n k) → has_begun c ≡ true → o ≡ after k (all_rows n k) c
  start_begun o e t = rw t e

  pub start_fresh : has_begun c ≡ false → 1 ≤ n → k ≤ 3
      → (take {A = ℕ} k (0 ∷ 0 ∷ 0 ∷ []) ∷ keep (less (take {A = ℕ} k (0 ∷ 0 ∷ 0 ∷ []))) (all_rows n k)) ≡ after k (all_rows n k) c
  start_fresh t l h = rw (t, zeros k h) (sym (zeros_first n k l))

-- a spot from which some of all rows go on is at a row of nodes
module _ (n k : ℕ) where
  stands_in : (s : Spot) (rows : List Row) → ahead k (all_rows n k) s ≡ rows → ((r : Row) → In r rows → In r (all_rows n k)) → Stands n k s
  stands_in None rows e f = tt
  stands_in (Some row) rows e f = all_below n k (row_at k row) (f (row_at k row) (subst (λ (z : List Row). In (row_at k row) z) e (◌⊎◌.inl refl)))

  pub stands_next : (s : Spot) (row : Row) → ahead k (all_rows n k) s ≡ keep (less row) (all_rows n k) → Stands n k s
  stands_next s row e = stands_in s (keep (less row) (all_rows n k)) e (λ r. kept_in (less row) r (all_rows n k))

  pub stands_first : (s : Spot) (c : Cursor) → ahead k (all_rows n k) s ≡ after k (all_rows n k) c → Stands n k s
  stands_first s c e = stands_in s (after k (all_rows n k) c) e (λ r. in_after r (all_rows n k) k c)

-- two tests, in either order

keep_cons : (f : Row → Bool) (b : Bool) (x : Row) (xs : List Row) → keep f (cons_if b x xs) ≡ cons_if (b && f x) x (keep f xs)
keep_cons f true x xs = refl
keep_cons f false x xs = refl

keep_swap : (f g : Row → Bool) (xs : List Row) → keep f (keep g xs) ≡ keep g (keep f xs)
keep_swap f g [] = refl
keep_swap f g (x ∷ xs) =
    keep_cons f (g x) x (keep g xs)
    ∙ ap₂ (λ (b : Bool) (l : List Row). cons_if b x l) (and_comm (g x) (f x)) (keep_swap f g xs)
    ∙ sym (keep_cons g (f x) x (keep f xs))

module _ (t q : List ℕ) (k : ℕ) where
  -- the answers among the rows that pass a test
  answers_kept : (f : Row → Bool) → keep (satisfied t q) (keep f (all_rows (size_of t) k)) ≡ keep f (answers t q k)
  unfolding answers
  answers_kept f = keep_swap (satisfied t q) f (all_rows (size_of t) k)

  pub answer_next : (s r : Spot) (row : Row) → ahead k (answers t q k) r ≡ keep (satisfied t q) (ahead k (all_rows (size_of t) k) s)
      → ahead k (all_rows (size_of t) k) s ≡ keep (less row) (all_rows (size_of t) k) → ahead k (answers t q k) r ≡ keep (less row) (answers t q k)
  answer_next s r row p e = p ∙ ap (keep (satisfied t q)) e ∙ answers_kept (less row)

  pub answer_first : (s r : Spot) (c : Cursor) → ahead k (answers t q k) r ≡ keep (satisfied t q) (ahead k (all_rows (size_of t) k) s)
      → ahead k (all_rows (size_of t) k) s ≡ after k (all_rows (size_of t) k) c → ahead k (answers t q k) r ≡ after k (answers t q k) c
  unfolding answers
  answer_first s r c p e = p ∙ ap (keep (satisfied t q)) e ∙ go (has_begun c) refl
    where
      go : (b : Bool) → has_begun c ≡ b → keep (satisfied t q) (after k (all_rows (size_of t) k) c) ≡ after k (keep (satisfied t q) (all_rows (size_of t) k)) c
      go true e = rw e (keep_swap (satisfied t q) (less (row_of k c)) (all_rows (size_of t) k))
      go false e = rw e

  -- the search: the answers from where it stands are those from where it began
  module _ (at s : Spot) (inv : keep (satisfied t q) (ahead k (all_rows (size_of t) k) at) ≡ keep (satisfied t q) (ahead k (all_rows (size_of t) k) s)) where
    module _ (row : List ℕ) (is : at ≡ Some row) where
      pub seek_hit : (b : Bool) → b ≡ satisfied t q (row_at k row) → b ≡ true → ahead k (answers t q k) (Some row) ≡ keep (satisfied t q) (ahead k (all_rows (size_of t) k) s)
      seek_hit b e y = ap {B = List Row} (λ l. row_at k row ∷ l) (sym (answers_kept (less (row_at k row)))) ∙ let w = rw (is, sym e ∙ y) at inv in w

      -- behind an empty block that begins with the row
      module _ (i : ℕ) (w : EmptyBlock t q k i row) (r : Spot) (e : ahead k (all_rows (size_of t) k) r ≡ keep (less (take i row)) (all_rows (size_of t) k)) where
        pub seek_on : (b : Bool) → b ≡ satisfied t q (row_at k row) → b ≡ false
            → keep (satisfied t q) (ahead k (all_rows (size_of t) k) r) ≡ keep (satisfied t q) (ahead k (all_rows (size_of t) k) s)
        seek_on b p f =
            ap (keep (satisfied t q)) e
            ∙ answers_kept (less (take i row)) ∙ block_left_out w ∙ sym (answers_kept (less (row_at k row)))
            ∙ (let w = rw (is, sym p ∙ f) at inv in w)

        pub seek_less : length (ahead k (all_rows (size_of t) k) r) < length (ahead k (all_rows (size_of t) k) at)
        seek_less = rw (e, is) (omega (arith, block_fewer w (all_rows (size_of t) k)))
