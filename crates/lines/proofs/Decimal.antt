-- Laws of numbers in decimal.
use Prim.Native.Nat.{ℕ, zero, suc, ◌+◌, ◌/◌, ◌%◌, ◌^◌, ◌≤◌, ◌<◌}
use native.Mathlib.Nat.{not-suc-le-zero}
use native.Mathlib.Omega.{arith}
use mathlib.Core.Path.{◌≡◌, ap}
use mathlib.Core.Bool.{cond}
use mathlib.Core.List.{List, [], ◌∷◌, ◌++◌}
use lib.ListN.{length, length-append}
use lib.Dec.{ltb}
use borrow.Author.Tests.{lt-ltb, le-ltb, ltb-true, ltb-false}
use Rattle.model.proofs.Booleans.{Seen, yes!, no!, seen}
use Rattle.lines.specs.Lines.{digits, decimal, Wrote}
use Rattle.lines.proofs.Writing.{Writing, first, last_fits, last}

-- as many steps as a number is large are enough
enough : (k m n : ℕ) → n < k → n < m → digits k n ≡ digits m n
unfolding digits
enough zero m n p q = absurd (not-suc-le-zero p)
enough (suc k) zero n p q = absurd (not-suc-le-zero q)
enough (suc k) (suc m) n p q = go (seen (ltb n 10)) (enough k m (n / 10))
  where
    go : Seen (ltb n 10) → (n / 10 < k → n / 10 < m → digits k (n / 10) ≡ digits m (n / 10))
        → cond (ltb n 10) ((48 + n) ∷ []) (digits k (n / 10) ++ ((48 + n % 10) ∷ [])) ≡ cond (ltb n 10) ((48 + n) ∷ []) (digits m (n / 10) ++ ((48 + n % 10) ∷ []))
    go (yes! e) ih = rw e
    go (no! e) ih = let t : 10 ≤ n = ltb-false n 10 e in rw (ih (omega arith) (omega arith))

pub one_digit : (n : ℕ) → n < 10 → decimal n ≡ (48 + n) ∷ []
unfolding decimal digits
one_digit n h = rw (lt-ltb n 10 h)

pub last_digit : (n : ℕ) → 10 ≤ n → decimal n ≡ decimal (n / 10) ++ ((48 + n % 10) ∷ [])
unfolding decimal digits
last_digit n h = rw (le-ltb n 10 h, enough n (suc (n / 10)) (n / 10) (omega arith) (omega arith))

-- a number below 10 to the k has at most k digits
fewer : (k n : ℕ) → n < 10 ^ suc k → length (decimal n) ≤ suc k
fewer zero n h = rw (one_digit n h) (omega arith)
fewer (suc k) n h = go (seen (ltb n 10)) (fewer k (n / 10))
  where
    go : Seen (ltb n 10) → (n / 10 < 10 ^ suc k → length (decimal (n / 10)) ≤ suc k) → length (decimal n) ≤ suc (suc k)
    go (yes! e) ih = rw (one_digit n (ltb-true n 10 e)) (omega arith)
    go (no! e) ih =
        let l : length (decimal (n / 10)) ≤ suc k = ih (omega arith) in
        rw (last_digit n (ltb-false n 10 e), length-append (decimal (n / 10)) ((48 + n % 10) ∷ [])) (omega arith)

pub five_digits : (n : ℕ) → n < 65536 → length (decimal n) ≤ 5
five_digits n h = fewer 4 n (omega arith)

pub twenty_digits : (n : ℕ) → n < 2 ^ 64 → length (decimal n) ≤ 20
twenty_digits n h = fewer 19 n (omega arith)

-- a number that is written digit by digit, the last one behind the rest

module _ (n at : ℕ) (a : List ℕ) where
  pub digit_fits : n < 10 → at + length (decimal n) ≤ length a → at < length a
  digit_fits h r = let e : at + 1 ≤ length a = rw (one_digit n h) at r in omega arith

  pub rest_fits : 10 ≤ n → at + length (decimal n) ≤ length a → at + length (decimal (n / 10)) ≤ length a
  rest_fits h r = omega (arith, r, ap length (last_digit n h), length-append (decimal (n / 10)) ((48 + n % 10) ∷ []))

  module _ (b : List ℕ) (m : ℕ) where
    pub wrote_digit : n < 10 → Wrote ((48 + n) ∷ []) at a b m → Wrote (decimal n) at a b m
    wrote_digit h w = rw (one_digit n h) w

    rest_written : 10 ≤ n → at + length (decimal n) ≤ length a → Wrote (decimal (n / 10)) at a b m → Writing (decimal n) at a ((48 + n % 10) ∷ []) m b
    rest_written h r w = first (decimal n) at a (decimal (n / 10)) ((48 + n % 10) ∷ []) m b r (last_digit n h) w

    pub digit_fits_last : 10 ≤ n → at + length (decimal n) ≤ length a → Wrote (decimal (n / 10)) at a b m → m < length b
    digit_fits_last h r w = omega (arith, last_fits (decimal n) at a m b ((48 + n % 10) ∷ []) (rest_written h r w))

    pub wrote_last : (c : List ℕ) (k : ℕ) → 10 ≤ n → at + length (decimal n) ≤ length a → Wrote (decimal (n / 10)) at a b m → Wrote ((48 + n % 10) ∷ []) m b c k → Wrote (decimal n) at a c k
    wrote_last c k h r w v = last (decimal n) at a m b ((48 + n % 10) ∷ []) (rest_written h r w) k c v
