-- Laws of reading a table's names from the front. What stands from position `at` on is malformed_from `at` and names_from `at` of
-- the whole table: `at` bytes of it are passed.
use Prim.Native.Nat.{ℕ, zero, suc, ◌+◌, ◌-◌, ◌≤◌, ◌<◌}
use native.Mathlib.Nat.{not-suc-le-zero, le_of_suc-le-suc}
use native.Mathlib.Omega.{arith}
use mathlib.Core.Path.{◌≡◌, refl, sym, ap, ◌∙◌}
use mathlib.Core.Bool.{Bool, true, false, not}
use mathlib.Core.List.{List, [], ◌∷◌}
use lib.ListN.{length, get_or}
use lib.Dec.{eqb, eqb-suc-suc}
use borrow.Author.Tests.{eqb-true, not-false}
use Rattle.names.specs.declared.Table.{Table}
use Rattle.std.specs.Prelude.{Ok, Err}
use Rattle.names.specs.Names.{bad_length, malformed_from, malformed, names_from, part, found}

-- the position after a name whose length byte is first, or further on
after_first : (l : ℕ) → 0 + 1 + l ≡ suc l
after_first l = omega arith

after_later : (a l : ℕ) → suc a + 1 + l ≡ suc (a + 1 + l)
after_later a l = omega arith

-- the table from a length byte on

bad_there : (t : List ℕ) (at : ℕ) → at < length t → bad_length (get_or t at 0) ≡ true → malformed_from at t ≡ true
unfolding malformed_from
bad_there [] at l p = absurd (not-suc-le-zero l)
bad_there (b ∷ bs) zero l p = rw p
bad_there (b ∷ bs) (suc at) l p = bad_there bs at (le_of_suc-le-suc l) p

next_there : (t : List ℕ) (at : ℕ) → at < length t → bad_length (get_or t at 0) ≡ false → malformed_from at t ≡ malformed_from (at + 1 + get_or t at 0) t
unfolding malformed_from
next_there [] at l p = absurd (not-suc-le-zero l)
next_there (b ∷ bs) zero l p = rw (p, after_first b)
next_there (b ∷ bs) (suc at) l p = rw (after_later at (get_or bs at 0)) (next_there bs at (le_of_suc-le-suc l) p)

at_end : (t : List ℕ) (at : ℕ) → length t ≤ at → malformed_from at t ≡ not (eqb at (length t))
unfolding malformed_from
at_end [] at l = refl
at_end (b ∷ bs) zero l = absurd (not-suc-le-zero l)
at_end (b ∷ bs) (suc at) l = rw (eqb-suc-suc at (length bs)) (at_end bs at (le_of_suc-le-suc l))

-- the loop that looks for a fault: nothing is wrong before `at`, so the whole table is what stands from there on
module _ (t : List ℕ) (at len : ℕ) (b : Bool) where
  pub fault : malformed_from at t ≡ malformed t → at < length t → len ≡ get_or t at 0 → b ≡ bad_length len → b ≡ true → true ≡ malformed t
  fault i l e p q = sym (bad_there t at l (ap bad_length (sym e) ∙ sym p ∙ q)) ∙ i

  pub no_fault : malformed_from at t ≡ malformed t → at < length t → len ≡ get_or t at 0 → b ≡ bad_length len → b ≡ false → malformed_from (at + 1 + len) t ≡ malformed t
  no_fault i l e p q =
      ap (λ (k : ℕ). malformed_from (at + 1 + k) t) e ∙ sym (next_there t at l (ap bad_length (sym e) ∙ sym p ∙ q)) ∙ i

pub no_more : (t : List ℕ) (at : ℕ) → malformed_from at t ≡ malformed t → length t ≤ at → not (eqb at (length t)) ≡ malformed t
no_more t at i l = sym (at_end t at l) ∙ i

-- a name that has begun ends by the end of the table
pub fits_rest : (rest : ℕ) (t : List ℕ) → malformed_from rest t ≡ false → rest ≤ length t
unfolding malformed_from
fits_rest rest [] h = omega (arith, eqb-true rest 0 (not-false (eqb rest 0) h))
fits_rest zero (b ∷ bs) h = omega arith
fits_rest (suc rest) (b ∷ bs) h = let l : rest ≤ length bs = fits_rest rest bs h in omega arith

-- names

pub name_there : (w : Table) (t : List ℕ) (from at : ℕ) → at < length t → names_from w from at t ≡ part w (from + at + 1) (get_or t at 0) ∷ names_from w from (at + 1 + get_or t at 0) t
unfolding names_from
name_there w [] from at l = absurd (not-suc-le-zero l)
name_there w (b ∷ bs) from zero l = rw (start from, after_first b)
  where
    start : (n : ℕ) → n + 0 + 1 ≡ suc n
    start n = omega arith
name_there w (b ∷ bs) from (suc at) l = rw (after_later at (get_or bs at 0), start from at) (name_there w bs (suc from) at (le_of_suc-le-suc l))
  where
    start : (n a : ℕ) → n + suc a + 1 ≡ suc n + a + 1
    start n a = omega arith

pub no_names : (w : Table) (t : List ℕ) (from at : ℕ) → length t ≤ at → names_from w from at t ≡ []
unfolding names_from
no_names w [] from at l = refl
no_names w (b ∷ bs) from zero l = absurd (not-suc-le-zero l)
no_names w (b ∷ bs) from (suc at) l = no_names w bs (suc from) at (le_of_suc-le-suc l)

-- the loop that looks for a name: so many are left to pass in what stands from `at` on
module _ (w : Table) (t : List ℕ) (number at left : ℕ) where
  pub here : (len : ℕ) → found (names_from w 0 at t) left ≡ found (names_from w 0 0 t) number → at < length t → len ≡ get_or t at 0 → left ≡ 0
      → Ok (part w (at + 1) len) ≡ found (names_from w 0 0 t) number
  unfolding found
  here len i l e z = sym i' ∙ i
    where
      first : (x : ℕ) → 0 + x + 1 ≡ x + 1
      first x = omega arith

      i' : found (names_from w 0 at t) left ≡ Ok (part w (at + 1) len)
      i' = rw (z, name_there w t 0 at l, first at, e)

  pub later : (len : ℕ) → found (names_from w 0 at t) left ≡ found (names_from w 0 0 t) number → at < length t → len ≡ get_or t at 0 → (left ≡ 0 → ⊥)
      → found (names_from w 0 (at + 1 + len) t) (left - 1) ≡ found (names_from w 0 0 t) number
  unfolding found
  later len i l e z = sym (go left z) ∙ i
    where
      go : (k : ℕ) → (k ≡ 0 → ⊥) → found (names_from w 0 at t) k ≡ found (names_from w 0 (at + 1 + len) t) (k - 1)
      go zero z = absurd (z refl)
      go (suc k) z = rw (name_there w t 0 at l, e, less k)
        where
          less : (k : ℕ) → suc k - 1 ≡ k
          less k = omega arith

  pub ended : found (names_from w 0 at t) left ≡ found (names_from w 0 0 t) number → length t ≤ at → Err left ≡ found (names_from w 0 0 t) number
  unfolding found
  ended i l = sym (rw (no_names w t 0 at l)) ∙ i
