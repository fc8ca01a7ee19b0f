-- Laws of the answers: they stand strictly in order, so each of them once, and a row is among them exactly if it has one
-- node for each variable and the query has a pair under it.
use Prim.Native.Nat.{ℕ, zero, suc, ◌+◌, ◌<◌, ◌≤◌}
use native.Mathlib.Nat.{not-suc-le-zero, le_of_suc-le-suc, eq-or-lt_of_le}
use native.Mathlib.Omega.{arith}
use mathlib.Core.Path.{◌≡◌, refl, sym, ap, ◌∙◌}
use mathlib.Core.Logic.{◌⊎◌, ◌↔◌}
use mathlib.Core.Bool.{Bool, true, false, ◌&&◌}
use mathlib.Core.List.{List, [], ◌∷◌, ◌++◌, map}
use lib.Dec.{ltb, eqb}
use lib.ListN.{length}
use borrow.Author.Tests.{ltb-true, eqb-true, lt-ltb, le-ltb, eq-eqb, ne_eqb}
use Rattle.model.specs.Sets.{any}
use Rattle.model.specs.Tree.{size_of, tree_of}
use Rattle.model.specs.Meaning.{pairs}
use Rattle.model.specs.QueryTable.{path_at, last_of}
use Rattle.model.specs.Results.{assigned, related}
use Rattle.model.specs.Accepted.{Below}
use Rattle.model.specs.Answers.{Row, less, blocks, all_rows, cons_if, keep, satisfied, answers}
use Rattle.model.proofs.Booleans.{no_yes, or_cases, yes_left, yes_right}
use Rattle.model.proofs.Exists.{any_intro, any_elim}

-- What the statements speak of.

-- the row is one of the rows
abbrev pub In : Row → List Row → Type 0
In r [] = ⊥
In r (x ∷ xs) = (r ≡ x) ⊎ In r xs

-- each row has k numbers
abbrev pub Wide : ℕ → List Row → Type 0
Wide k rows = (r : Row) → In r rows → length r ≡ k

-- each row stands strictly before every later one
abbrev pub Rising : List Row → Type 0
Rising [] = Unit
Rising (x ∷ xs) = ((s : Row) → In s xs → less x s ≡ true) × Rising xs

-- The order of rows.

-- why a row stands before another: its first number is smaller, or the same and the rest stands before the rest
pub data Lexed (a : ℕ) (r : Row) (b : ℕ) (s : Row) : Type 0 where
  first : a < b → Lexed a r b s
  later : a ≡ b → less r s ≡ true → Lexed a r b s

pub lexed : (a : ℕ) (r : Row) (b : ℕ) (s : Row) → less (a ∷ r) (b ∷ s) ≡ true → Lexed a r b s
lexed a r b s h = go (or_cases (ltb a b) (eqb a b && less r s) h)
  where
    go : (ltb a b ≡ true) ⊎ ((eqb a b && less r s) ≡ true) → Lexed a r b s
    go (◌⊎◌.inl p) = first (ltb-true a b p)
    go (◌⊎◌.inr q) = later (eqb-true a b (yes_left (eqb a b) (less r s) q)) (yes_right (eqb a b) (less r s) q)

pub less_first : (a : ℕ) (r : Row) (b : ℕ) (s : Row) → a < b → less (a ∷ r) (b ∷ s) ≡ true
less_first a r b s h = rw (lt-ltb a b h)

pub less_later : (a : ℕ) (r s : Row) → less (a ∷ r) (a ∷ s) ≡ less r s
less_later a r s = rw (le-ltb a a (omega arith), eq-eqb a a refl)

pub less_not : (a : ℕ) (r : Row) (b : ℕ) (s : Row) → b < a → less (a ∷ r) (b ∷ s) ≡ false
less_not a r b s h = rw (le-ltb a b (omega arith), ne_eqb a b (omega arith))

pub less_self : (r : Row) → less r r ≡ false
less_self [] = refl
less_self (a ∷ r) = less_later a r r ∙ less_self r

pub less_back : (r s : Row) → less r s ≡ true → less s r ≡ false
less_back [] [] h = refl
less_back [] (b ∷ s) h = refl
less_back (a ∷ r) [] h = refl
less_back (a ∷ r) (b ∷ s) h = go (lexed a r b s h) (less_back r s)
  where
    go : Lexed a r b s → (less r s ≡ true → less s r ≡ false) → less (b ∷ s) (a ∷ r) ≡ false
    go (first l) back = less_not b s a r l
    go (later e l) back = rw e (less_later b s r ∙ back l)

-- The numbers of a row.

pub below_more : (n a : ℕ) (r : Row) → a < n → Below n r → Below n (a ∷ r)
below_more n a r l h zero i = l
below_more n a r l h (suc k) i = h k (le_of_suc-le-suc i)

pub below_rest : (n a : ℕ) (r : Row) → Below n (a ∷ r) → Below n r
below_rest n a r h i l = h (suc i) (omega arith)

-- The rows that pass a test.

cons_from : (b : Bool) (r x : Row) (xs ys : List Row) → (In r xs → In r ys) → In r (cons_if b x xs) → In r (x ∷ ys)
cons_from true r x xs ys g (◌⊎◌.inl h) = ◌⊎◌.inl h
cons_from true r x xs ys g (◌⊎◌.inr h) = ◌⊎◌.inr (g h)
cons_from false r x xs ys g h = ◌⊎◌.inr (g h)

cons_same : (b : Bool) (r x : Row) (xs : List Row) → b ≡ true → r ≡ x → In r (cons_if b x xs)
cons_same true r x xs e h = ◌⊎◌.inl h
cons_same false r x xs e h = no_yes refl e

cons_more : (b : Bool) (r x : Row) (xs : List Row) → In r xs → In r (cons_if b x xs)
cons_more true r x xs h = ◌⊎◌.inr h
cons_more false r x xs h = h

cons_rising : (b : Bool) (x : Row) (xs : List Row) → Rising (x ∷ xs) → Rising (cons_if b x xs)
cons_rising true x xs h = h
cons_rising false x xs h = h.1

module _ (f : Row → Bool) where
  cons_holds : (b : Bool) (r x : Row) (xs : List Row) → f x ≡ b → (In r xs → f r ≡ true) → In r (cons_if b x xs) → f r ≡ true
  cons_holds true r x xs e g (◌⊎◌.inl h) = rw h e
  cons_holds true r x xs e g (◌⊎◌.inr h) = g h
  cons_holds false r x xs e g h = g h

  kept_holds : (r : Row) (xs : List Row) → In r (keep f xs) → f r ≡ true
  kept_holds r [] h = absurd h
  kept_holds r (x ∷ xs) h = cons_holds (f x) r x (keep f xs) refl (kept_holds r xs) h

  pub kept_in : (r : Row) (xs : List Row) → In r (keep f xs) → In r xs
  kept_in r [] h = h
  kept_in r (x ∷ xs) h = cons_from (f x) r x (keep f xs) xs (kept_in r xs) h

  keeps : (r : Row) (xs : List Row) → In r xs → f r ≡ true → In r (keep f xs)
  keeps r [] h e = h
  keeps r (x ∷ xs) (◌⊎◌.inl h) e = cons_same (f x) r x (keep f xs) (rw h at e) h
  keeps r (x ∷ xs) (◌⊎◌.inr h) e = cons_more (f x) r x (keep f xs) (keeps r xs h e)

  rising_keep : (xs : List Row) → Rising xs → Rising (keep f xs)
  rising_keep [] h = h
  rising_keep (x ∷ xs) h = cons_rising (f x) x (keep f xs) (λ s i. h.0 s (kept_in s xs i), rising_keep xs h.1)

-- All rows.

-- r is a number from a up to, not including, a + m, and then a row of rs
record Split (m a : ℕ) (rs : List Row) (r : Row) : Type 0 where
  num : ℕ
  rest : Row
  same : r ≡ num ∷ rest
  low : a ≤ num
  high : num < a + m
  there : In rest rs

split_head : (m a : ℕ) (r : Row) (all rs ys : List Row) → ((s : Row) → In s rs → In s all) → (In r ys → Split (suc m) a all r)
    → In r (map (λ s. a ∷ s) rs ++ ys) → Split (suc m) a all r
split_head m a r all [] ys f g h = g h
split_head m a r all (x ∷ xs) ys f g (◌⊎◌.inl h) =
    record { num = a; rest = x; same = h; low = omega arith; high = omega arith; there = f x (◌⊎◌.inl refl) }
split_head m a r all (x ∷ xs) ys f g (◌⊎◌.inr h) = split_head m a r all xs ys (λ s i. f s (◌⊎◌.inr i)) g h

wider : (m a : ℕ) (rs : List Row) (r : Row) → Split m (suc a) rs r → Split (suc m) a rs r
wider m a rs r s =
    record {
      num = s.num;
      rest = s.rest;
      same = s.same;
      low = omega (arith, s.low);
      high = omega (arith, s.high);
      there = s.there;
    }

split : (m a : ℕ) (rs : List Row) (r : Row) → In r (blocks m a rs) → Split m a rs r
split zero a rs r h = absurd h
split (suc m) a rs r h =
    split_head m a r rs rs (blocks m (suc a) rs) (λ s i. i) (λ i. wider m a rs r (split m (suc a) rs r i)) h

in_left : (a : ℕ) (s : Row) (rs ys : List Row) → In s rs → In (a ∷ s) (map (λ t. a ∷ t) rs ++ ys)
in_left a s [] ys h = absurd h
in_left a s (x ∷ xs) ys (◌⊎◌.inl h) = ◌⊎◌.inl (ap {B = Row} (λ t. a ∷ t) h)
in_left a s (x ∷ xs) ys (◌⊎◌.inr h) = ◌⊎◌.inr (in_left a s xs ys h)

in_right : (r : Row) (xs ys : List Row) → In r ys → In r (xs ++ ys)
in_right r [] ys h = h
in_right r (x ∷ xs) ys h = ◌⊎◌.inr (in_right r xs ys h)

joins : (m a b : ℕ) (s : Row) (rs : List Row) → a ≤ b → b < a + m → In s rs → In (b ∷ s) (blocks m a rs)
joins zero a b s rs l h i = absurd (omega arith)
joins (suc m) a b s rs l h i = go (joins m (suc a) b s rs) (eq-or-lt_of_le l)
  where
    go : (suc a ≤ b → b < suc a + m → In s rs → In (b ∷ s) (blocks m (suc a) rs)) → (a ≡ b) ⊎ (a < b)
        → In (b ∷ s) (blocks (suc m) a rs)
    go f (◌⊎◌.inl e) = rw (sym e) (in_left a s rs (blocks m (suc a) rs) i)
    go f (◌⊎◌.inr e) = in_right (b ∷ s) (map (λ t. a ∷ t) rs) (blocks m (suc a) rs) (f e (omega arith) i)

long_out : (n k : ℕ) → Wide k (all_rows n k)
long_out n zero r (◌⊎◌.inl h) = ap length h
long_out n zero r (◌⊎◌.inr h) = absurd h
long_out n (suc k) r h =
    let s = split n 0 (all_rows n k) r h in
    ap length s.same ∙ ap suc (long_out n k s.rest s.there)

pub all_below : (n k : ℕ) (r : Row) → In r (all_rows n k) → Below n r
all_below n zero r (◌⊎◌.inl h) = rw h (λ i l. absurd (not-suc-le-zero l))
all_below n zero r (◌⊎◌.inr h) = absurd h
all_below n (suc k) r h =
    let s = split n 0 (all_rows n k) r h in
    rw s.same (below_more n s.num s.rest (omega (arith, s.high)) (all_below n k s.rest s.there))

all_in : (n k : ℕ) (r : Row) → length r ≡ k → Below n r → In r (all_rows n k)
all_in n zero [] e h = ◌⊎◌.inl refl
all_in n zero (a ∷ r) e h = absurd (omega arith)
all_in n (suc k) [] e h = absurd (omega arith)
all_in n (suc k) (a ∷ r) e h =
    joins n 0 a r (all_rows n k) (omega arith) (omega (arith, h 0 (omega arith))) (all_in n k r (omega arith) (below_rest n a r h))

-- a row that begins with a stands before the rows that begin with b or more
pub before_blocks : (a : ℕ) (r : Row) (m b : ℕ) (rs : List Row) → a < b → (s : Row) → In s (blocks m b rs) → less (a ∷ r) s ≡ true
before_blocks a r m b rs l s i = let w = split m b rs s i in rw w.same (less_first a r w.num w.rest (omega (arith, w.low)))

before_block : (a : ℕ) (r : Row) (xs ys : List Row) → ((s : Row) → In s xs → less r s ≡ true)
    → ((s : Row) → In s ys → less (a ∷ r) s ≡ true) → (s : Row) → In s (map (λ t. a ∷ t) xs ++ ys) → less (a ∷ r) s ≡ true
before_block a r [] ys f g s h = g s h
before_block a r (x ∷ xs) ys f g s (◌⊎◌.inl h) = rw h (less_later a r x ∙ f x (◌⊎◌.inl refl))
before_block a r (x ∷ xs) ys f g s (◌⊎◌.inr h) = before_block a r xs ys (λ s i. f s (◌⊎◌.inr i)) g s h

rising_block : (a : ℕ) (xs ys : List Row) → Rising xs → Rising ys → ((r s : Row) → In s ys → less (a ∷ r) s ≡ true) → Rising (map (λ s. a ∷ s) xs ++ ys)
rising_block a [] ys h t f = t
rising_block a (x ∷ xs) ys h t f = (before_block a x xs ys h.0 (f x), rising_block a xs ys h.1 t f)

rising_blocks : (m a : ℕ) (rs : List Row) → Rising rs → Rising (blocks m a rs)
rising_blocks zero a rs h = tt
rising_blocks (suc m) a rs h =
    rising_block a rs (blocks m (suc a) rs) h (rising_blocks m (suc a) rs h) (λ r. before_blocks a r m (suc a) rs (omega arith))

rising_rows : (n k : ℕ) → Rising (all_rows n k)
rising_rows n zero = (λ s i. absurd i, tt)
rising_rows n (suc k) = rising_blocks n 0 (all_rows n k) (rising_rows n k)

-- The answers.

module _ (t q : List ℕ) (k : ℕ) where
  -- each answer stands strictly before every later one: the answers are in order, and each is there once
  pub answers_rising : Rising (answers t q k)
  unfolding answers
  answers_rising = rising_keep (satisfied t q) (all_rows (size_of t) k) (rising_rows (size_of t) k)

  -- each answer has a number for each variable
  pub answers_wide : Wide k (answers t q k)
  unfolding answers
  answers_wide r h = long_out (size_of t) k r (kept_in (satisfied t q) r (all_rows (size_of t) k) h)

  -- the query has a pair (x, y) under the row
  pub satisfied_pair : (r : Row) → (satisfied t q r ≡ true)
      ↔ ((x : ℕ) × (x < size_of t) × (y : ℕ) × (y < size_of t) × (pairs (tree_of t) (assigned r) (path_at q (last_of q)) x y ≡ true))
  unfolding satisfied related
  satisfied_pair r = (
    λ h.
        let (x, l, g) = any_elim (size_of t) (λ x. any (size_of t) (λ y. pairs (tree_of t) (assigned r) (path_at q (last_of q)) x y)) h in
        let (y, m, p) = any_elim (size_of t) (λ y. pairs (tree_of t) (assigned r) (path_at q (last_of q)) x y) g in
        (x, l, y, m, p),
    λ w.
        any_intro (size_of t) (λ x. any (size_of t) (λ y. pairs (tree_of t) (assigned r) (path_at q (last_of q)) x y)) w.0 w.1
        (any_intro (size_of t) (λ y. pairs (tree_of t) (assigned r) (path_at q (last_of q)) w.0 y) w.2 w.3 w.4),
  )

  -- a row is an answer exactly if it has k numbers, each a node, and the query has a pair (x, y) under it, from any start x
  pub answers_member : (r : Row) → In r (answers t q k)
      ↔ ((length r ≡ k)
      × Below (size_of t) r
      × ((x : ℕ) × (x < size_of t) × (y : ℕ) × (y < size_of t) × (pairs (tree_of t) (assigned r) (path_at q (last_of q)) x y ≡ true)))
  unfolding answers
  answers_member r = (
    λ h. (
      answers_wide r h,
      all_below (size_of t) k r (kept_in (satisfied t q) r (all_rows (size_of t) k) h),
      (satisfied_pair r).0 (kept_holds (satisfied t q) r (all_rows (size_of t) k) h),
    ),
    λ h. keeps (satisfied t q) r (all_rows (size_of t) k) (all_in (size_of t) k r h.0 h.1) ((satisfied_pair r).1 h.2),
  )
