-- Laws of rising lists of rows, and of one page from a place of the list on.
use Prim.Native.Nat.{ℕ, zero, suc, ◌+◌, ◌-◌, ◌<◌, ◌≤◌, min}
use native.Mathlib.Nat.{add-zero, add-suc, not-suc-le-zero, le_of_suc-le-suc}
use native.Mathlib.Decide.{dec_le, dec_lt}
use native.Mathlib.Omega.{arith}
use mathlib.Core.Path.{◌≡◌, refl, sym, ap, ◌∙◌, subst}
use mathlib.Core.Logic.{◌⊎◌}
use mathlib.Core.Bool.{Bool, true, false}
use mathlib.Core.List.{List, [], ◌∷◌, ◌++◌, append_assoc}
use lib.Dec.{ltb}
use lib.ListN.{length, take, drop, get_or, length-take, length-drop, drop_of_length-le}
use lib.Seq.{take_at, drop_at, get_or-take, get_or-drop, drop-drop}
use borrow.Author.Tests.{lt-ltb, le-ltb}
use Rattle.model.specs.declared.Cursor.{Cursor}
use Rattle.model.specs.Answers.{Row, keep, less}
use Rattle.model.specs.Pages.{row_of, has_begun, after, at_row, moved, flat, some}
use Rattle.model.proofs.Booleans.{Seen, yes!, no!, seen, no_yes}
use Rattle.model.proofs.Answers.{In, Wide, Rising, Lexed, first, later, lexed, less_first, less_later, less_self, less_back, kept_in}
use Rattle.answers.specs.Calls.{rows_in}
use Rattle.answers.proofs.Odometer.{keep_all}

-- what stands after a row of a rising list

pub in_at : (xs : List Row) (i : ℕ) (d : Row) → i < length xs → In (get_or xs i d) xs
in_at [] i d l = absurd (not-suc-le-zero l)
in_at (x ∷ xs) zero d l = ◌⊎◌.inl refl
in_at (x ∷ xs) (suc i) d l = ◌⊎◌.inr (in_at xs i d (le_of_suc-le-suc l))

-- to keep what is above element i is to drop i + 1
keep_after : (xs : List Row) (i : ℕ) (d : Row) → Rising xs → i < length xs → keep (less (get_or xs i d)) xs ≡ drop (suc i) xs
keep_after [] i d h l = absurd (not-suc-le-zero l)
keep_after (x ∷ xs) zero d h l = rw (less_self x) (keep_all (less x) xs h.0)
keep_after (x ∷ xs) (suc i) d h l =
    rw (less_back x (get_or xs i d) (h.0 (get_or xs i d) (in_at xs i d (le_of_suc-le-suc l))))
    (keep_after xs i d h.1 (le_of_suc-le-suc l))

-- the order of rows is transitive
less_on : (r s t : Row) → less r s ≡ true → less s t ≡ true → less r t ≡ true
less_on [] s t h g = h
less_on (a ∷ r) [] t h g = no_yes refl h
less_on (a ∷ r) (b ∷ s) [] h g = no_yes refl g
less_on (a ∷ r) (b ∷ s) (d ∷ t) h g = go (lexed a r b s h) (lexed b s d t g) (less_on r s t)
  where
    go : Lexed a r b s → Lexed b s d t → (less r s ≡ true → less s t ≡ true → less r t ≡ true) → less (a ∷ r) (d ∷ t) ≡ true
    go (first i) (first j) on = less_first a r d t (omega arith)
    go (first i) (later e y) on = less_first a r d t (omega arith)
    go (later e x) (first j) on = less_first a r d t (omega arith)
    go (later e x) (later f y) on = rw (e, f) (less_later d r t ∙ on x y)

-- what is above any row is the rest of the list from some place on
keep_part : (r : Row) (xs : List Row) → Rising xs → (m : ℕ) × (keep (less r) xs ≡ drop m xs)
keep_part r [] h = (0, refl)
keep_part r (x ∷ xs) h = go (seen (less r x)) (keep_part r xs h.1)
  where
    go : Seen (less r x) → (m : ℕ) × (keep (less r) xs ≡ drop m xs) → (m : ℕ) × (keep (less r) (x ∷ xs) ≡ drop m (x ∷ xs))
    go (yes! t) p = (0, rw t (ap {B = List Row} (λ l. x ∷ l) (keep_all (less r) xs (λ s i. less_on r x s t (h.0 s i)))))
    go (no! t) p = (suc p.0, rw t p.1)

pub after_part : (k : ℕ) (xs : List Row) → Rising xs → (c : Cursor) → (m : ℕ) × (after k xs c ≡ drop m xs)
after_part k xs h c = go (seen (has_begun c))
  where
    go : Seen (has_begun c) → (m : ℕ) × (after k xs c ≡ drop m xs)
    go (yes! t) = rw t (keep_part (row_of k c) xs h)
    go (no! t) = (0, rw t refl)

-- parts of a list

pub in_take : (n : ℕ) (r : Row) (xs : List Row) → In r (take n xs) → In r xs
in_take zero r xs h = absurd h
in_take (suc n) r [] h = h
in_take (suc n) r (x ∷ xs) (◌⊎◌.inl h) = ◌⊎◌.inl h
in_take (suc n) r (x ∷ xs) (◌⊎◌.inr h) = ◌⊎◌.inr (in_take n r xs h)

pub in_drop : (n : ℕ) (r : Row) (xs : List Row) → In r (drop n xs) → In r xs
in_drop zero r xs h = h
in_drop (suc n) r [] h = h
in_drop (suc n) r (x ∷ xs) h = ◌⊎◌.inr (in_drop n r xs h)

pub in_after : (r : Row) (xs : List Row) (k : ℕ) (c : Cursor) → In r (after k xs c) → In r xs
in_after r xs k c = go (has_begun c) refl
  where
    go : (b : Bool) → has_begun c ≡ b → In r (after k xs c) → In r xs
    go true e h = kept_in (less (row_of k c)) r xs (rw e at h)
    go false e h = rw e at h

some_yes : (xs : List Row) → 0 < length xs → some xs ≡ true
some_yes [] h = absurd (not-suc-le-zero h)
some_yes (x ∷ xs) h = refl

pub some_not : (xs : List Row) → length xs ≤ 0 → some xs ≡ false
some_not [] h = refl
some_not (x ∷ xs) h = absurd (not-suc-le-zero h)

-- whether rows are left after the first r
pub some_rest : (xs : List Row) (r : ℕ) → some (drop r xs) ≡ ltb (min (length xs) r) (length xs)
some_rest xs r = go (dec_lt r (length xs))
  where
    go : Dec (r < length xs) → some (drop r xs) ≡ ltb (min (length xs) r) (length xs)
    go (yes h) = some_yes (drop r xs) (omega (arith, length-drop r xs)) ∙ sym (lt-ltb (min (length xs) r) (length xs) (omega arith))
    go (no h) = some_not (drop r xs) (omega (arith, length-drop r xs)) ∙ sym (le-ltb (min (length xs) r) (length xs) (omega arith))

-- rows that were written are read back
pub rows_back : (k : ℕ) (rows : List Row) (rest : List ℕ) → Wide k rows → rows_in k (length rows) (flat rows ++ rest) ≡ rows
rows_back k [] rest h = refl
rows_back k (r ∷ rs) rest h =
    let l : length r ≡ k = h r (◌⊎◌.inl refl) in
    rw (append_assoc r (flat rs) rest, take_at r (flat rs ++ rest) k l, drop_at r (flat rs ++ rest) k l)
    (ap {B = List Row} (λ l. r ∷ l) (rows_back k rs rest (λ s i. h s (◌⊎◌.inr i))))

-- the cursor moved to the last of some rows

row_at : (k : ℕ) (c : Cursor) (r : Row) → length r ≡ k → k ≤ 3 → row_of k (at_row c r) ≡ r
row_at k c [] e h = rw (← e)
row_at k c (x ∷ []) e h = rw (← e)
row_at k c (x ∷ y ∷ []) e h = rw (← e)
row_at k c (x ∷ y ∷ z ∷ []) e h = rw (← e)
row_at k c (x ∷ y ∷ z ∷ u ∷ r) e h = absurd (omega arith)

moved_begun : (c : Cursor) (r : Row) (rs : List Row) → has_begun (moved c (r ∷ rs)) ≡ true
moved_begun c r [] = refl
moved_begun c r (s ∷ ss) = moved_begun (at_row c r) s ss

pub moved_row : (k : ℕ) (c : Cursor) (r : Row) (rs : List Row) → Wide k (r ∷ rs) → k ≤ 3
    → row_of k (moved c (r ∷ rs)) ≡ get_or (r ∷ rs) (length rs) []
moved_row k c r [] h l = row_at k c r (h r (◌⊎◌.inl refl)) l
moved_row k c r (s ∷ ss) h l = moved_row k (at_row c r) s ss (λ x i. h x (◌⊎◌.inr i)) l

-- one page, where the rows after the cursor are those of the list from m on

module _ (k : ℕ) (L : List Row) (rising : Rising L) (wide : Wide k L) (small : k ≤ 3) where
  wide_part : (m r : ℕ) → Wide k (take r (drop m L))
  wide_part m r x i = wide x (in_drop m x L (in_take r x (drop m L) i))

  past : (i : ℕ) → length L ≤ i → drop i L ≡ []
  past i h = drop_of_length-le L h

  pub drop_same : (m r : ℕ) → drop (m + length (take r (drop m L))) L ≡ drop (m + r) L
  drop_same m r = go (dec_le (m + r) (length L))
    where
      long : length (take r (drop m L)) ≡ min r (length L - m)
      long = length-take r (drop m L) ∙ ap (min r) (length-drop m L)

      go : Dec (m + r ≤ length L) → drop (m + length (take r (drop m L))) L ≡ drop (m + r) L
      go (yes h) = let e : length (take r (drop m L)) ≡ r = omega (arith, long) in rw e
      go (no h) = past (m + length (take r (drop m L))) (omega (arith, long)) ∙ sym (past (m + r) (omega arith))

  -- the cursor at the last of some rows, as many as r where there are so many: the rows after it are the others
  pub after_rows : (c : Cursor) (m r : ℕ) (rows : List Row) → take r (drop m L) ≡ rows → after k L c ≡ drop m L
      → after k L (moved c rows) ≡ drop (m + length rows) L
  after_rows c m r [] e h = h ∙ ap (λ (i : ℕ). drop i L) (sym (add-zero m))
  after_rows c m r (x ∷ xs) e h =
      rw (moved_begun c x xs, moved_row k c x xs (subst (λ (z : List Row). Wide k z) e (wide_part m r)) small, here)
      (keep_after L (m + length xs) [] rising (omega (arith, long)) ∙ ap (λ (i : ℕ). drop i L) (sym (add-suc m (length xs))))
    where
      long : suc (length xs) ≡ min r (length L - m)
      long = ap length (sym e) ∙ length-take r (drop m L) ∙ ap (min r) (length-drop m L)

      here : get_or (x ∷ xs) (length xs) [] ≡ get_or L (m + length xs) []
      here =
          ap (λ (z : List Row). get_or z (length xs) []) (sym e)
          ∙ get_or-take r (drop m L) (length xs) [] (omega (arith, long))
          ∙ get_or-drop m L (length xs) []

  -- the page moves the cursor by the rows that there is room for
  pub after_page_lem : (c : Cursor) (m r : ℕ) → after k L c ≡ drop m L → after k L (moved c (take r (after k L c))) ≡ drop (m + r) L
  after_page_lem c m r h =
      ap (λ (z : List Row). after k L (moved c (take r z))) h
      ∙ after_rows c m r (take r (drop m L)) refl h
      ∙ drop_same m r

  -- and says whether any are left
  pub some_after : (m r : ℕ) → some (drop r (drop m L)) ≡ ltb (min (length L) (m + r)) (length L)
  some_after m r = ap some (drop-drop r m L) ∙ some_rest L (m + r)
