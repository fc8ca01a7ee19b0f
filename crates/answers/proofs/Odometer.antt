-- Laws of the row after a row, and of the loop that finds it.
use Prim.Native.Nat.{ℕ, zero, suc, ◌+◌, ◌-◌, ◌<◌, ◌≤◌}
use native.Mathlib.Nat.{zero-add}
use native.Mathlib.Numerals.{add-one}
use native.Mathlib.Decide.{dec_lt}
use native.Mathlib.Omega.{arith}
use mathlib.Core.Path.{◌≡◌, refl, sym, ap, ap₂, ◌∙◌, subst}
use mathlib.Core.Logic.{◌⊎◌}
use mathlib.Core.Bool.{Bool, true, false}
use mathlib.Core.List.{List, [], ◌∷◌, ◌++◌, map}
use lib.ListN.{length, take, drop, get_or, set, replicate, drop_of_length-le, length-drop, length-set, length-replicate, get_or-replicate, take-append-drop, get_or-append}
use lib.Seq.{length-take-le, take-take, take-suc, drop-cons, get_or-take, get_or-drop, ext_get_or, take-set-lt, set_at, append_snoc}
use Rattle.model.specs.Answers.{Row, less, blocks, all_rows, cons_if, keep}
use Rattle.model.specs.Accepted.{Below}
use Rattle.model.proofs.Answers.{In, below_rest, less_later, less_not, before_blocks}
use Rattle.answers.specs.Search.{Heads}

-- What stands after a row, among rows that begin with m numbers from b on.

keep_append : (f : Row → Bool) (xs ys : List Row) → keep f (xs ++ ys) ≡ keep f xs ++ keep f ys
keep_append f [] ys = refl
keep_append f (x ∷ xs) ys = rw (keep_append f xs ys) (go (f x))
  where
    go : (b : Bool) → cons_if b x (keep f xs ++ keep f ys) ≡ cons_if b x (keep f xs) ++ keep f ys
    go true = refl
    go false = refl

pub keep_all : (f : Row → Bool) (xs : List Row) → ((s : Row) → In s xs → f s ≡ true) → keep f xs ≡ xs
keep_all f [] h = refl
keep_all f (x ∷ xs) h = rw (h x (◌⊎◌.inl refl)) (ap {B = List Row} (λ l. x ∷ l) (keep_all f xs (λ s i. h s (◌⊎◌.inr i))))

module _ (a : ℕ) (r : Row) where
  keep_same : (xs : List Row) → keep (less (a ∷ r)) (map (λ s. a ∷ s) xs) ≡ map (λ s. a ∷ s) (keep (less r) xs)
  keep_same [] = refl
  keep_same (x ∷ xs) = rw (less_later a r x, keep_same xs) (go (less r x))
    where
      go : (b : Bool) → cons_if b (a ∷ x) (map (λ s. a ∷ s) (keep (less r) xs)) ≡ map (λ s. a ∷ s) (cons_if b x (keep (less r) xs))
      go true = refl
      go false = refl

  keep_none : (b : ℕ) (xs : List Row) → b < a → keep (less (a ∷ r)) (map (λ s. b ∷ s) xs) ≡ []
  keep_none b [] h = refl
  keep_none b (x ∷ xs) h = rw (less_not a r b x h) (keep_none b xs h)

  keep_blocks : (m b : ℕ) (rs : List Row) → b ≤ a → a < b + m
      → keep (less (a ∷ r)) (blocks m b rs) ≡ map (λ s. a ∷ s) (keep (less r) rs) ++ blocks (b + m - suc a) (suc a) rs
  keep_blocks zero b rs l h = absurd (omega arith)
  keep_blocks (suc m) b rs l h =
      keep_append (less (a ∷ r)) (map (λ s. b ∷ s) rs) (blocks m (suc b) rs)
      ∙ go (dec_lt b a) (keep_blocks m (suc b) rs)
    where
      go : Dec (b < a)
          → (suc b ≤ a → a < suc b + m → keep (less (a ∷ r)) (blocks m (suc b) rs) ≡ map (λ s. a ∷ s) (keep (less r) rs) ++ blocks (suc b + m - suc a) (suc a) rs)
          → keep (less (a ∷ r)) (map (λ s. b ∷ s) rs) ++ keep (less (a ∷ r)) (blocks m (suc b) rs)
          ≡ map (λ s. a ∷ s) (keep (less r) rs) ++ blocks (b + suc m - suc a) (suc a) rs
      go (yes i) f =
          let e : suc b + m - suc a ≡ b + suc m - suc a = omega arith in
          rw (keep_none b rs i) (f i (omega arith) ∙ rw e)
      go (no i) f =
          let e : b ≡ a = omega arith in
          let e₂ : m ≡ a + suc m - suc a = omega arith in
          rw (e, keep_same rs, keep_all (less (a ∷ r)) (blocks m (suc a) rs) (before_blocks a r m (suc a) rs (omega arith)))
          (ap (λ (z : ℕ). map (λ s. a ∷ s) (keep (less r) rs) ++ blocks z (suc a) rs) e₂)

-- the rows after one that begins with a: those that begin with a too, and then those that begin with more
after_first : (n a : ℕ) (r : Row) (rs : List Row) → a < n → keep (less (a ∷ r)) (blocks n 0 rs) ≡ map (λ s. a ∷ s) (keep (less r) rs) ++ blocks (n - suc a) (suc a) rs
after_first n a r rs h = keep_blocks a r n 0 rs (omega arith) (omega arith) ∙ rw zero-add

-- the first of all rows is the one of zeros
pub zeros_first : (n k : ℕ) → 1 ≤ n → all_rows n k ≡ replicate k 0 ∷ keep (less (replicate k 0)) (all_rows n k)
zeros_first n zero h = refl
zeros_first n (suc k) h =
    let e : n ≡ suc (n - 1) = omega arith in
    ap (λ (m : ℕ). blocks m 0 (all_rows n k)) e
    ∙ ap (λ (z : List Row). map (λ s. 0 ∷ s) z ++ blocks (n - 1) 1 (all_rows n k)) (zeros_first n k h)
    ∙ ap {B = List Row} (λ z. (0 ∷ replicate k 0) ∷ z) (sym (after_first n 0 (replicate k 0) (all_rows n k) h))

-- among all rows of m numbers s is the first after r, and after those that begin with r; there is none
abbrev Follows : ℕ → ℕ → Row → Row → Type 0
Follows n m r s = keep (less r) (all_rows n m) ≡ s ∷ keep (less s) (all_rows n m)

abbrev Final : ℕ → ℕ → Row → Type 0
Final n m r = keep (less r) (all_rows n m) ≡ []

-- every row begins with no number
all_begin : (n m : ℕ) → Final n m []
all_begin n m = go (all_rows n m)
  where
    go : (xs : List Row) → keep (less []) xs ≡ []
    go [] = refl
    go (x ∷ xs) = go xs

-- where no row is after r, a row that begins with a and goes on as r is followed by one that begins with the next number
counted_up : (n m a : ℕ) (r : Row) → suc a < n → Final n m r → Follows n (suc m) (a ∷ r) (suc a ∷ replicate m 0)
counted_up n m a r h f =
    let e : n - suc a ≡ suc (n - suc (suc a)) = omega arith in
    after_first n a r (all_rows n m) (omega arith)
    ∙ ap₂ (λ (z : List Row) (m₁ : ℕ). map (λ s. a ∷ s) z ++ blocks m₁ (suc a) (all_rows n m)) f e
    ∙ ap (λ (z : List Row). map (λ s. suc a ∷ s) z ++ blocks (n - suc (suc a)) (suc (suc a)) (all_rows n m)) (zeros_first n m (omega arith))
    ∙ ap {B = List Row} (λ z. (suc a ∷ replicate m 0) ∷ z) (sym (after_first n (suc a) (replicate m 0) (all_rows n m) h))

-- and by none where a is the last number
counted_out : (n m a : ℕ) (r : Row) → a < n → n ≤ suc a → Final n m r → Final n (suc m) (a ∷ r)
counted_out n m a r h l f =
    let e : n - suc a ≡ 0 = omega arith in
    after_first n a r (all_rows n m) h
    ∙ ap₂ (λ (z : List Row) (m₁ : ℕ). map (λ s. a ∷ s) z ++ blocks m₁ (suc a) (all_rows n m)) f e

-- what follows the end of a row decides what follows the row
follows_behind : (n m k : ℕ) (p r s : Row) → m + length p ≡ k → Below n p → Follows n m r s → Follows n k (p ++ r) (p ++ s)
follows_behind n m k [] r s e b h = subst (λ (z : ℕ). Follows n z r s) (let z : m ≡ k = omega arith in z) h
follows_behind n m zero (a ∷ p) r s e b h = absurd (omega arith)
follows_behind n m (suc k) (a ∷ p) r s e b h =
    after_first n a (p ++ r) (all_rows n k) (b 0 (omega arith))
    ∙ ap (λ (z : List Row). map (λ s. a ∷ s) z ++ blocks (n - suc a) (suc a) (all_rows n k)) (follows_behind n m k p r s (omega arith) (below_rest n a p b) h)
    ∙ ap {B = List Row} (λ z. (a ∷ (p ++ s)) ∷ z) (sym (after_first n a (p ++ s) (all_rows n k) (b 0 (omega arith))))

-- The loop that counts up the first m of k numbers: before it looks at number i - 1, the numbers from i on are 0, and those of them below
-- m have been the last.

pub record Counting (n k m : ℕ) (row next : List ℕ) (i : ℕ) : Type 0 where
  pub within : i ≤ m
  pub long : length next ≡ 3
  pub same : take k next ≡ take i row ++ replicate (k - i) 0
  pub final : Final n (k - i) (drop i (take m row))

module _ (n k m : ℕ) (row : List ℕ) (head : Heads n k m row) (three : length row ≡ 3) where
  -- no more than the three numbers of the row are looked at
  few : m ≤ 3
  few = omega (arith, head.within, head.few)

  wide : length (take k row) ≡ k
  wide = length-take-le k row (omega (arith, head.few))

  -- its numbers from m on
  zeros_behind : drop m (take k row) ≡ replicate (k - m) 0
  zeros_behind =
      ext_get_or 0 (drop m (take k row)) (replicate (k - m) 0) (omega (arith, long, length-replicate {A = ℕ} (k - m) 0))
      (λ i l. get_or-drop m (take k row) i 0 ∙ get_or-take k row (m + i) 0 (omega (arith, long, head.within)) ∙ head.zeros (m + i) (omega arith) (omega (arith, long, head.within))
      ∙ sym (get_or-replicate {A = ℕ} (k - m) i 0 0 (omega (arith, long))))
    where
      long : length (drop m (take k row)) ≡ k - m
      long = length-drop m (take k row) ∙ ap (λ (z : ℕ). z - m) wide

  pub counting_start : Counting n k m row row m
  counting_start =
      record {
        within = omega arith;
        long = three;
        same = sym (take-append-drop m (take k row)) ∙ ap₂ (λ (x y : List ℕ). x ++ y) (take-take m k row head.within) zeros_behind;
        final = rw (drop_of_length-le (take m row) {i = m} (omega (arith, length-take-le m row (omega (arith, few))))) (all_begin n (k - m));
      }

  module _ (next : List ℕ) (i : ℕ) (w : Counting n k m row next (suc i)) where
    inner : i < k
    inner = omega (arith, w.within, head.within)

    -- number i is still the row's
    counting_read : get_or next i 0 ≡ get_or row i 0
    counting_read =
        sym (get_or-take k next i 0 inner)
        ∙ ap (λ (l : List ℕ). get_or l i 0) w.same
        ∙ get_or-append (take (suc i) row) (replicate (k - suc i) 0) 0 i (omega (arith, length-take-le (suc i) row (omega (arith, few, w.within))))
        ∙ get_or-take (suc i) row i 0 (omega arith)

    counting_put : (v : ℕ) → take k (set next i v) ≡ take i row ++ (v ∷ replicate (k - suc i) 0)
    counting_put v =
        take-set-lt k next i v inner
        ∙ ap (λ (l : List ℕ). set l i v)
        (w.same ∙ ap (λ (l : List ℕ). l ++ replicate (k - suc i) 0) (take-suc row i 0 (omega (arith, few, w.within))) ∙ append_snoc (take i row) (get_or row i 0) (replicate (k - suc i) 0))
        ∙ set_at (take i row) (get_or row i 0) (replicate (k - suc i) 0) v i (length-take-le i row (omega (arith, few, w.within)))

    end : drop i (take m row) ≡ get_or row i 0 ∷ drop (suc i) (take m row)
    end = drop-cons (take m row) i 0 (omega (arith, length-take-le m row (omega (arith, few)), w.within)) ∙ rw (get_or-take m row i 0 w.within)

    -- a number of the row is a node
    node : (j : ℕ) → j < k → get_or row j 0 < n
    node j l = rw (get_or-take k row j 0 l) at (head.nodes j (omega (arith, wide)))

    -- number i is below the last: the row that is left is the first after the block
    counted : suc (get_or next i 0) < n
        → (take k (set next i (get_or next i 0 + 1)) ∷ keep (less (take k (set next i (get_or next i 0 + 1)))) (all_rows n k)) ≡ keep (less (take m row)) (all_rows n k)
    counted h = rw (counting_put (get_or next i 0 + 1), add-one, counting_read) (sym behind)
      where
        s : Row
        s = take i row ++ (suc (get_or row i 0) ∷ replicate (k - suc i) 0)

        up : Follows n (suc (k - suc i)) (drop i (take m row)) (suc (get_or row i 0) ∷ replicate (k - suc i) 0)
        up = rw end (counted_up n (k - suc i) (get_or row i 0) (drop (suc i) (take m row)) (rw counting_read at h) w.final)

        long : length (take i row) ≡ i
        long = length-take-le i row (omega (arith, few, w.within))

        front : take i row ++ drop i (take m row) ≡ take m row
        front = rw (← take-take i m row (omega (arith, w.within))) (take-append-drop i (take m row))

        behind : Follows n k (take m row) s
        behind =
            subst (λ (z : Row). Follows n k z s) front
            (follows_behind n (suc (k - suc i)) k (take i row) (drop i (take m row)) (suc (get_or row i 0) ∷ replicate (k - suc i) 0) (omega (arith, long, inner))
            (λ j l. rw (get_or-take i row j 0 (omega (arith, long))) (node j (omega (arith, long, inner)))) up)

    -- number i is the last: it starts anew
    counting_more : n ≤ suc (get_or next i 0) → Counting n k m row (set next i 0) i
    counting_more h =
        let e : suc (k - suc i) ≡ k - i = omega (arith, inner) in
        record {
          within = omega (arith, w.within);
          long = length-set next i 0 ∙ w.long;
          same = counting_put 0 ∙ ap (λ (m : ℕ). take i row ++ replicate m 0) e;
          final =
              subst (λ (z : ℕ). Final n z (drop i (take m row))) e
              (rw end (counted_out n (k - suc i) (get_or row i 0) (drop (suc i) (take m row)) (node i inner) (rw counting_read at h) w.final));
        }

  -- the same for the loop, which counts i down, and has read the number at i - 1
  module _ (next : List ℕ) (i v : ℕ) (w : Counting n k m row next i) (p : 0 < i) (e : v ≡ get_or next (i - 1) 0) where
    down : Counting n k m row next (suc (i - 1))
    down = subst (λ (z : ℕ). Counting n k m row next z) (let s : i ≡ suc (i - 1) = omega arith in s) w

    pub counting_again : n ≤ v + 1 → Counting n k m row (set next (i - 1) 0) (i - 1)
    counting_again h = counting_more next (i - 1) down (omega arith)

    pub counting_found : v + 1 < n
        → (take k (set next (i - 1) (get_or next (i - 1) 0 + 1)) ∷ keep (less (take k (set next (i - 1) (get_or next (i - 1) 0 + 1)))) (all_rows n k)) ≡ keep (less (take m row)) (all_rows n k)
    counting_found h = counted next (i - 1) down (omega arith)
