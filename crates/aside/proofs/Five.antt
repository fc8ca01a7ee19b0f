-- Five tables aside are enough for a query of 64 entries.
use Prim.Native.Nat.{ℕ, zero, suc, ◌+◌, ◌*◌, ◌^◌, ◌≤◌, ◌<◌}
use native.Mathlib.Nat.{pow-le-pow_right}
use native.Mathlib.Numerals.{add-one}
use native.Mathlib.Omega.{arith}
use mathlib.Core.Path.{◌≡◌, refl, sym, ap, ◌∙◌, subst}
use mathlib.Core.Logic.{⊎_elim}
use mathlib.Core.Bool.{true, ◌&&◌}
use mathlib.Core.List.{List}
use lib.Dec.{eqb}
use Rattle.model.specs.Sets.{bit}
use Rattle.model.specs.Syntax.{Path}
use Rattle.model.specs.Encoding.{Term, path_term, size}
use Rattle.model.specs.QueryTable.{entries_of, kind, left, right, entry, path_at, last_of}
use Rattle.model.specs.Kinds.{is_path, has_left, has_right}
use Rattle.model.specs.Checks.{naming, uses}
use Rattle.model.proofs.Booleans.{lt_or_le}
use Rattle.model.specs.Accepted.{Shaped}
use Rattle.aside.specs.Aside.{two_tables, aside_in, aside, entries_in, term_at, aside_at}
use Rattle.aside.proofs.Turns.{either_power}
use Rattle.aside.proofs.Terms.{term_path}
use Rattle.model.proofs.Formed.{left_lower, right_lower}
use Rattle.aside.proofs.Entries.{size_at}
use Rattle.aside.proofs.Sums.{sum, times, sum_never, sum_once, sum_more, sum_pick}

-- k tables aside take at least 2^(k + 1) - 1 entries, of a path or a node expression
pub powers : (a : Term) → 2 ^ suc (aside_in a) ≤ size a + 1
unfolding aside_in size
powers (Term.leaf k l g) = omega arith
powers (Term.unary k a) = let h : 2 ^ suc (aside_in a) ≤ size a + 1 = powers a in omega arith
powers (Term.binary k a b) =
    let h = either_power (two_tables k) (aside_in a) (aside_in b) (size a + 1) (size b + 1) (powers a) (powers b) in
    omega arith

-- for the reader: the same of a path
pub aside_small : (p : Path) → 2 ^ (aside p + 1) ≤ entries_in p + 1
aside_small p = rw (add-one (aside p)) (powers (path_term p))

pub five : (a : Term) → size a ≤ 64 → aside_in a ≤ 5
five a h = ⊎_elim (λ l. omega arith) (λ l. absurd (six l)) (lt_or_le (aside_in a) 6)
  where
    six : 6 ≤ aside_in a → ⊥
    six l =
        let p : 2 ^ 7 ≤ 2 ^ suc (aside_in a) = pow-le-pow_right {n = 2} (omega arith) {i = 7} {j = suc (aside_in a)} (omega arith) in
        let q : 2 ^ suc (aside_in a) ≤ size a + 1 = powers a in
        omega arith

-- Where each entry but the last is used once, the last is made of every entry once: the entries that the first k entries are made of
-- are those k, and what they use.

module _ (q : List ℕ) (ok : Shaped q) where
  -- how many entries the entry is made of
  abbrev made : ℕ → ℕ
  made e = size (term_at q e)

  -- what entry k uses
  operands : (n k : ℕ) → k < n → k < entries_of q → sum (times (λ j. naming j (entry q k)) made) n ≡ bit (has_left (kind q k)) * made (left q k) + bit (has_right (kind q k)) * made (right q k)
  operands n k l em =
      sum_more made (λ j. bit (has_left (kind q k) && eqb (left q k) j)) (λ j. bit (has_right (kind q k) && eqb (right q k) j)) n
      ∙ rw (
        sum_pick made (has_left (kind q k)) (left q k) n (λ h. let m : left q k < k = left_lower q ok.formed k em h in omega arith),
        sum_pick made (has_right (kind q k)) (right q k) n (λ h. let m : right q k < k = right_lower q ok.formed k em h in omega arith),
      )

  counted : (n k : ℕ) → k ≤ n → n ≤ entries_of q → sum made k ≡ k + sum (times (λ j. uses q j k) made) n
  unfolding sum uses
  counted n zero l em = sym (sum_never made (λ j. 0) n (λ j m. refl)) ∙ omega arith
  counted n (suc k) l em =
      let ih : sum made k ≡ k + sum (times (λ j. uses q j k) made) n = counted n k (omega arith) em in
      rw (sum_more made (λ j. uses q j k) (λ j. naming j (entry q k)) n)
      (omega (arith, operands n k (omega arith) (omega arith), size_at q ok.formed k (omega arith)))

  last : (m : ℕ) → suc m ≤ entries_of q → ((i : ℕ) → i < m → uses q i (suc m) ≡ 1) → made m ≡ suc m
  unfolding sum
  last m l once = go (uses q m (suc m)) (rw (sum_once made (λ j. uses q j (suc m)) m once) at (counted (suc m) (suc m) (omega arith) l))
    where
      -- the last entry is not used, since it would be made of itself
      go : (u : ℕ) → sum made m + made m ≡ suc m + (sum made m + u * made m) → made m ≡ suc m
      go zero h = omega arith
      go (suc u) h = omega arith

  module _ (some : 0 < entries_of q) (once : (i : ℕ) → i < last_of q → uses q i (entries_of q) ≡ 1) where
    made_last : made (last_of q) ≡ entries_of q
    made_last =
        let e : suc (last_of q) ≡ entries_of q = omega arith in
        last (last_of q) (omega arith) (λ i l. subst (λ (k : ℕ). uses q i k ≡ 1) (sym e) (once i l)) ∙ e

    -- for the reader: the query has as many entries as its table
    pub entries_once : is_path (kind q (last_of q)) ≡ true → entries_in (path_at q (last_of q)) ≡ entries_of q
    entries_once h = sym (ap size (term_path q (last_of q) h)) ∙ made_last

    pub five_aside : aside_at q (last_of q) ≤ 5
    five_aside = five (term_at q (last_of q)) (let h = made_last in let m = ok.few in omega arith)
