-- The tables that an entry keeps aside, from those of its operands.
use Prim.Native.Nat.{ℕ, zero, suc, ◌+◌, ◌*◌, ◌≤◌, ◌<◌, max}
use native.Mathlib.Nat.{not-suc-le-zero}
use native.Mathlib.Omega.{arith}
use mathlib.Core.Path.{◌≡◌, sym, ap, ◌∙◌}
use mathlib.Core.Bool.{true, false, cond}
use mathlib.Core.List.{List}
use lib.ListN.{get_or}
use Rattle.model.specs.declared.Entry.{Entry}
use Rattle.model.specs.Sets.{bit}
use Rattle.model.specs.Encoding.{size}
use Rattle.model.specs.QueryTable.{entries_of, kind, left, right, entry}
use Rattle.model.specs.Kinds.{left_path, right_path, right_expr, has_left, has_right}
use Rattle.model.proofs.Booleans.{no_yes, yes_right, or_left}
use Rattle.model.specs.Accepted.{Formed}
use Rattle.aside.specs.declared.Operands.TheVariants as Operands
use Rattle.aside.specs.Aside.{in_turn, two_tables, aside_in, term_at, aside_at, PassedTo, OperandsOf}
use Rattle.aside.proofs.Turns.{either_left, either_right, either_most}
use Rattle.aside.proofs.Numbers.{kept_for}
use Rattle.aside.proofs.Terms.{Form, form}
use Rattle.aside.proofs.Terms.Form.{none!, one!, two! }

module _ (q : List ℕ) (ok : Formed q) (e : ℕ) (em : e < entries_of q) where
  -- an entry with no operand: kinds 0, 6 and 12
  pub aside_none : has_left (kind q e) ≡ false → aside_at q e ≡ 0
  unfolding aside_in
  aside_none h = go (form q ok e em)
    where
      go : Form q e → aside_at q e ≡ 0
      go (none! a b g p) = rw p
      go (one! a b l p) = no_yes h a
      go (two! a b l r p) = no_yes h a

  -- with one: kinds 7, 8, 9 and 13
  pub aside_one : has_left (kind q e) ≡ true → has_right (kind q e) ≡ false → aside_at q e ≡ aside_at q (left q e)
  unfolding aside_in
  aside_one h k = go (form q ok e em)
    where
      go : Form q e → aside_at q e ≡ aside_at q (left q e)
      go (none! a b g p) = no_yes a h
      go (one! a b l p) = ap aside_in p
      go (two! a b l r p) = no_yes k b

  both_in : has_right (kind q e) ≡ true → aside_at q e ≡ cond (two_tables (kind q e)) (in_turn (aside_at q (left q e)) (aside_at q (right q e))) (max (aside_at q (left q e)) (aside_at q (right q e)))
  unfolding aside_in
  both_in h = go (form q ok e em)
    where
      go : Form q e → aside_at q e ≡ cond (two_tables (kind q e)) (in_turn (aside_at q (left q e)) (aside_at q (right q e))) (max (aside_at q (left q e)) (aside_at q (right q e)))
      go (none! a b g p) = no_yes b h
      go (one! a b l p) = no_yes b h
      go (two! a b l r p) = ap aside_in p

  -- with two that are tables: kinds 1 to 4 and 14
  pub aside_two : two_tables (kind q e) ≡ true → aside_at q e ≡ in_turn (aside_at q (left q e)) (aside_at q (right q e))
  aside_two h = both_in (or_left (right_path (kind q e)) (right_expr (kind q e)) (yes_right (left_path (kind q e)) (right_path (kind q e)) h)) ∙ rw h

  -- with two of which one is a node expression: kinds 5, 10 and 11
  pub aside_larger : has_right (kind q e) ≡ true → two_tables (kind q e) ≡ false → aside_at q e ≡ max (aside_at q (left q e)) (aside_at q (right q e))
  aside_larger h l = both_in h ∙ rw l

  -- an operand keeps no more aside than its entry

  pub aside_left : has_left (kind q e) ≡ true → aside_at q (left q e) ≤ aside_at q e
  unfolding aside_in
  aside_left h = go (form q ok e em)
    where
      go : Form q e → aside_at q (left q e) ≤ aside_at q e
      go (none! a b g p) = no_yes a h
      go (one! a b l p) = omega (arith, ap aside_in p)
      go (two! a b l r p) = omega (arith, ap aside_in p, either_left (two_tables (kind q e)) (aside_at q (left q e)) (aside_at q (right q e)))

  pub aside_right : has_right (kind q e) ≡ true → aside_at q (right q e) ≤ aside_at q e
  aside_right h = omega (arith, both_in h, either_right (two_tables (kind q e)) (aside_at q (left q e)) (aside_at q (right q e)))

  -- how many entries it has, from those of its operands
  pub size_at : size (term_at q e) ≡ 1 + (bit (has_left (kind q e)) * size (term_at q (left q e)) + bit (has_right (kind q e)) * size (term_at q (right q e)))
  unfolding size
  size_at = go (form q ok e em)
    where
      go : Form q e → size (term_at q e) ≡ 1 + (bit (has_left (kind q e)) * size (term_at q (left q e)) + bit (has_right (kind q e)) * size (term_at q (right q e)))
      go (none! a b g p) = rw (a, b) (ap size p ∙ omega arith)
      go (one! a b l p) = rw (a, b) (ap size p ∙ omega arith)
      go (two! a b l r p) = rw (a, b) (ap size p ∙ omega arith)

-- an entry keeps no more tables aside than there are entries before it
pub aside_within : (q : List ℕ) → Formed q → (e : ℕ) → e < entries_of q → aside_at q e ≤ e
aside_within q ok e em = go (suc e) e (omega arith) em
  where
    at : (e : ℕ) → e < entries_of q → ((i : ℕ) → i < e → aside_at q i ≤ i) → Form q e → aside_at q e ≤ e
    at e em ih (none! a b g p) = omega (arith, aside_none q ok e em a)
    at e em ih (one! a b l p) = omega (arith, aside_one q ok e em a b, ih (left q e) l)
    at e em ih (two! a b l r p) =
        let x : aside_at q (left q e) ≤ left q e = ih (left q e) l in
        let y : aside_at q (right q e) ≤ right q e = ih (right q e) r in
        omega (arith, both_in q ok e em b, either_most (two_tables (kind q e)) (aside_at q (left q e)) (aside_at q (right q e)) e (omega arith) (omega arith))

    go : (n e : ℕ) → e < n → e < entries_of q → aside_at q e ≤ e
    go zero e h em = absurd (not-suc-le-zero h)
    go (suc n) e h em = at e em (λ i l. go n i (omega arith) (omega arith)) (form q ok e em)

-- one entry, from the counts of those before it

module _ {q : List ℕ} {e : ℕ} {kept : List ℕ} (pass : PassedTo (aside_at q) q e kept) where
  pub did_none : OperandsOf q e Operands.None → 0 ≡ aside_at q e
  did_none a = sym (aside_none q pass.0 e pass.1.1.1 a)

  pub did_one : {i : ℕ} → OperandsOf q e (Operands.One i) → get_or kept i 0 ≡ aside_at q e
  did_one a = kept_for (aside_at q) pass.1.1.0 a.1.1.0 a.1.1.1 ∙ sym (aside_one q pass.0 e pass.1.1.1 a.0 a.1.0)

  module _ {i j : ℕ} (a : OperandsOf q e (Operands.Two i j)) where
    at_left : get_or kept i 0 ≡ aside_at q (left q e)
    at_left = kept_for (aside_at q) pass.1.1.0 a.1.0 a.1.1.1.0

    at_right : get_or kept j 0 ≡ aside_at q (right q e)
    at_right = kept_for (aside_at q) pass.1.1.0 a.1.1.0 a.1.1.1.1

    pub left_small : get_or kept i 0 < 66
    left_small = let p = pass.1 in omega (arith, pass.1.1.0.at i a.1.1.1.0, aside_within q pass.0 i (omega arith))

    module _ {k : ℕ} {f : Entry} (p : k ≡ f.kind) (fe : f ≡ entry q e) where
      known : k ≡ kind q e
      known = p ∙ ap (λ (f : Entry). f.kind) fe

      pub did_two : (o : ℕ) → o ≡ in_turn (get_or kept i 0) (get_or kept j 0) → two_tables k ≡ true → o ≡ aside_at q e
      did_two o g h = g ∙ rw (at_left, at_right) (sym (aside_two q pass.0 e pass.1.1.1 (rw known at h)))

      pub did_larger : (o : ℕ) → o ≡ max (get_or kept i 0) (get_or kept j 0) → two_tables k ≡ false → o ≡ aside_at q e
      did_larger o g h = g ∙ rw (at_left, at_right) (sym (aside_larger q pass.0 e pass.1.1.1 a.0 (rw known at h)))
