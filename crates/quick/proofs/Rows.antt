-- Laws of the order of rows, number by number, and of the first of the rows after a row.
use Prim.Native.Nat.{ℕ, zero, suc, ◌+◌, ◌<◌}
use native.Mathlib.Nat.{le_of_suc-le-suc}
use native.Mathlib.Decide.{dec_lt}
use native.Mathlib.Omega.{arith}
use mathlib.Core.Path.{◌≡◌, refl, sym, ap, ap₂, ◌∙◌, subst}
use mathlib.Core.Logic.{◌⊎◌}
use mathlib.Core.Bool.{Bool, true, false}
use mathlib.Core.List.{List, [], ◌∷◌}
use lib.ListN.{length, get_or}
use Rattle.model.specs.Answers.{Row, less, keep}
use Rattle.model.proofs.Booleans.{Seen, yes!, no!, seen, no_yes}
use Rattle.model.proofs.Answers.{In, Rising, Lexed, first, later, lexed, less_first, less_later, less_self, less_back}
use Rattle.answers.proofs.Odometer.{keep_all}
use Rattle.quick.specs.Search.{Same, Before}

-- The order of rows, number by number.

same_more : (i a : ℕ) (r s : Row) → Same i r s → Same (suc i) (a ∷ r) (a ∷ s)
same_more i a r s h zero l = refl
same_more i a r s h (suc j) l = h j (le_of_suc-le-suc l)

pub less_before : (k : ℕ) (r s : Row) → length r ≡ k → length s ≡ k → less r s ≡ true → Before k r s
less_before k [] s er es h = no_yes refl h
less_before k (a ∷ r) [] er es h = no_yes refl h
less_before zero (a ∷ r) (b ∷ s) er es h = absurd (omega arith)
less_before (suc k) (a ∷ r) (b ∷ s) er es h = go (lexed a r b s h) (less_before k r s (omega arith) (omega arith))
  where
    go : Lexed a r b s → (less r s ≡ true → Before k r s) → Before (suc k) (a ∷ r) (b ∷ s)
    go (first l) f = (0, omega arith, λ j m. absurd (omega arith), l)
    go (later e l) f = let (c, m, q, g) = f l in (suc c, omega arith, rw e (same_more c b r s q), g)

pub before_less : (k : ℕ) (r s : Row) → length r ≡ k → length s ≡ k → Before k r s → less r s ≡ true
before_less zero r s er es (c, l, q, g) = absurd (omega arith)
before_less (suc k) [] s er es b = absurd (omega arith)
before_less (suc k) (a ∷ r) [] er es b = absurd (omega arith)
before_less (suc k) (a ∷ r) (b ∷ s) er es (zero, l, q, g) = less_first a r b s g
before_less (suc k) (a ∷ r) (b ∷ s) er es (suc c, l, q, g) =
    let e : a ≡ b = q 0 (omega arith) in
    rw e (less_later b r s ∙ before_less k r s (omega arith) (omega arith) (c, le_of_suc-le-suc l, λ j m. q (suc j) (omega arith), g))

pub less_trans : (r s x : Row) → less r s ≡ true → less s x ≡ true → less r x ≡ true
less_trans [] s x h g = no_yes refl h
less_trans (a ∷ r) [] x h g = no_yes refl h
less_trans (a ∷ r) (b ∷ s) [] h g = no_yes refl g
less_trans (a ∷ r) (b ∷ s) (c ∷ x) h g = go (lexed a r b s h) (lexed b s c x g) (less_trans r s x)
  where
    go : Lexed a r b s → Lexed b s c x → (less r s ≡ true → less s x ≡ true → less r x ≡ true) → less (a ∷ r) (c ∷ x) ≡ true
    go (first l) (first m) f = less_first a r c x (omega arith)
    go (first l) (later e m) f = less_first a r c x (omega arith)
    go (later d l) (first m) f = less_first a r c x (omega arith)
    go (later d l) (later e m) f = rw (d ∙ e) (less_later c r x ∙ f l m)

-- Before, as far as one number more
pub before_step : (i : ℕ) (r s : List ℕ) → Before (i + 1) r s → Before i r s ⊎ (Same i r s × (get_or r i 0 < get_or s i 0))
before_step i r s (c, l, q, g) = go (dec_lt c i)
  where
    go : Dec (c < i) → Before i r s ⊎ (Same i r s × (get_or r i 0 < get_or s i 0))
    go (yes m) = ◌⊎◌.inl (c, m, q, g)
    go (no m) = let e : c ≡ i = omega arith in ◌⊎◌.inr (λ j n. q j (omega arith), (rw e at g))

-- the first rows of a rising list

pub none_kept : (f : Row → Bool) (L : List Row) → ((x : Row) → In x L → f x ≡ false) → keep f L ≡ []
none_kept f [] h = refl
none_kept f (y ∷ ys) h = rw (h y (◌⊎◌.inl refl)) (none_kept f ys (λ x i. h x (◌⊎◌.inr i)))

-- the first of all
pub first_kept : (L : List Row) (s : Row) → Rising L → In s L → ((x : Row) → In x L → less x s ≡ false) → L ≡ s ∷ keep (less s) L
first_kept [] s g i h = absurd i
first_kept (y ∷ ys) s g (◌⊎◌.inl e) h =
    subst (λ (z : Row). y ∷ ys ≡ z ∷ keep (less z) (y ∷ ys)) (sym e) (rw (less_self y) (ap {B = List Row} (λ l. y ∷ l) (sym (keep_all (less y) ys g.0))))
first_kept (y ∷ ys) s g (◌⊎◌.inr i) h = no_yes (h y (◌⊎◌.inl refl)) (g.0 s i)

-- the first of those after r
module _ (r s : Row) (after : less r s ≡ true) where
  pub next_kept : (L : List Row) → Rising L → In s L → ((x : Row) → In x L → less r x ≡ true → less x s ≡ false) → keep (less r) L ≡ s ∷ keep (less s) L
  next_kept [] g i h = absurd i
  next_kept (y ∷ ys) g (◌⊎◌.inl e) h =
      let a : less r y ≡ true = ap (less r) (sym e) ∙ after in
      let b : less s y ≡ false = ap (less s) (sym e) ∙ less_self s in
      rw (a, b) (ap₂ (λ (x : Row) (l : List Row). x ∷ l) (sym e) (keep_all (less r) ys (λ x i. less_trans r s x after (rw e (g.0 x i))) ∙ sym (keep_all (less s) ys (λ x i. rw e (g.0 x i)))))
  next_kept (y ∷ ys) g (◌⊎◌.inr i) h = go (seen (less r y)) (next_kept ys g.1 i (λ x j. h x (◌⊎◌.inr j)))
    where
      go : Seen (less r y) → keep (less r) ys ≡ s ∷ keep (less s) ys → keep (less r) (y ∷ ys) ≡ s ∷ keep (less s) (y ∷ ys)
      go (yes! p) f = no_yes (h y (◌⊎◌.inl refl) p) (g.0 s i)
      go (no! p) f = rw (p, less_back y s (g.0 s i)) f
