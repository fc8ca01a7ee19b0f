-- The depth of an entry, from those of its operands.
use Prim.Native.Nat.{ℕ, ◌+◌, ◌≤◌, ◌<◌, min, max}
use native.Mathlib.Omega.{arith}
use mathlib.Core.Path.{◌≡◌, sym, ap, ◌∙◌}
use mathlib.Core.Bool.{true, false}
use mathlib.Core.List.{List}
use lib.Dec.{eqb}
use lib.ListN.{get_or}
use Rattle.model.specs.declared.Entry.{Entry}
use Rattle.model.specs.Encoding.{Term}
use Rattle.model.specs.QueryTable.{entries_of, kind, left, right, entry}
use Rattle.model.specs.Kinds.{has_left, has_right}
use Rattle.model.specs.Accepted.{Formed}
use Rattle.model.proofs.Booleans.{no_yes}
use Rattle.aside.specs.declared.Operands.TheVariants as Operands
use Rattle.aside.specs.Aside.{term_at, NumbersTo, PassedTo, OperandsOf}
use Rattle.aside.proofs.Numbers.{kept_for}
use Rattle.aside.proofs.Terms.{Form, form}
use Rattle.aside.proofs.Terms.Form.{none!, one!, two! }
use Rattle.nesting.specs.Nesting.{weight, depth_in, depth_at, deep}

-- none is deeper than two
pub depth_small : (a : Term) → depth_in a ≤ 2
unfolding depth_in
depth_small (Term.leaf k l g) = omega arith
depth_small (Term.unary k a) = omega arith
depth_small (Term.binary k a b) = omega arith

module _ (q : List ℕ) (ok : Formed q) (e : ℕ) (em : e < entries_of q) where
  -- an entry with no operand
  pub depth_none : has_left (kind q e) ≡ false → depth_at q e ≡ 0
  unfolding depth_in
  depth_none h = go (form q ok e em)
    where
      go : Form q e → depth_at q e ≡ 0
      go (none! a b g p) = rw p
      go (one! a b l p) = no_yes h a
      go (two! a b l r p) = no_yes h a

  -- with one
  pub depth_one : has_left (kind q e) ≡ true → has_right (kind q e) ≡ false → depth_at q e ≡ min 2 (weight (kind q e) + depth_at q (left q e))
  unfolding depth_in
  depth_one h k = go (form q ok e em)
    where
      go : Form q e → depth_at q e ≡ min 2 (weight (kind q e) + depth_at q (left q e))
      go (none! a b g p) = no_yes a h
      go (one! a b l p) = ap depth_in p
      go (two! a b l r p) = no_yes k b

  -- with two
  pub depth_two : has_right (kind q e) ≡ true → depth_at q e ≡ min 2 (weight (kind q e) + max (depth_at q (left q e)) (depth_at q (right q e)))
  unfolding depth_in
  depth_two h = go (form q ok e em)
    where
      go : Form q e → depth_at q e ≡ min 2 (weight (kind q e) + max (depth_at q (left q e)) (depth_at q (right q e)))
      go (none! a b g p) = no_yes b h
      go (one! a b l p) = no_yes b h
      go (two! a b l r p) = ap depth_in p

-- one entry, from the depths of those before it

module _ {q : List ℕ} {e : ℕ} {depths : List ℕ} (pass : PassedTo (depth_at q) q e depths) where
  pub deep_none : OperandsOf q e Operands.None → 0 ≡ depth_at q e
  deep_none a = sym (depth_none q pass.0 e pass.1.1.1 a)

  known : {k : ℕ} {f : Entry} → k ≡ f.kind → f ≡ entry q e → k ≡ kind q e
  known p fe = p ∙ ap (λ (f : Entry). f.kind) fe

  module _ {i : ℕ} (a : OperandsOf q e (Operands.One i)) where
    at_one : get_or depths i 0 ≡ depth_at q (left q e)
    at_one = kept_for (depth_at q) pass.1.1.0 a.1.1.0 a.1.1.1

    pub one_small : get_or depths i 0 ≤ 2
    one_small = rw at_one (depth_small (term_at q (left q e)))

    pub deep_one : {k : ℕ} {f : Entry} → k ≡ f.kind → f ≡ entry q e → (o : ℕ) → o ≡ min 2 (weight k + get_or depths i 0) → o ≡ depth_at q e
    deep_one p fe o g = g ∙ rw (at_one, known p fe) (sym (depth_one q pass.0 e pass.1.1.1 a.0 a.1.0))

  module _ {i j : ℕ} (a : OperandsOf q e (Operands.Two i j)) (m : ℕ) (l : m ≡ max (get_or depths i 0) (get_or depths j 0)) where
    at_both : m ≡ max (depth_at q (left q e)) (depth_at q (right q e))
    at_both = l ∙ rw (kept_for (depth_at q) pass.1.1.0 a.1.0 a.1.1.1.0, kept_for (depth_at q) pass.1.1.0 a.1.1.0 a.1.1.1.1)

    pub both_small : m ≤ 2
    both_small = rw at_both (omega (arith, depth_small (term_at q (left q e)), depth_small (term_at q (right q e))))

    pub deep_two : {k : ℕ} {f : Entry} → k ≡ f.kind → f ≡ entry q e → (o : ℕ) → o ≡ min 2 (weight k + m) → o ≡ depth_at q e
    deep_two p fe o g = g ∙ rw (at_both, known p fe) (sym (depth_two q pass.0 e pass.1.1.1 a.0))

-- what is told of an entry
pub deep_at : (q depths : List ℕ) (e n x : ℕ) → NumbersTo (depth_at q) e depths → n ≤ e → n ≡ entries_of q → x < entries_of q → eqb (get_or depths x 0) 2 ≡ deep q x
deep_at q depths e n x c h p l = rw (c.at x (omega arith))
