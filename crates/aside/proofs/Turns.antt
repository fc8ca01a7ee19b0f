-- Laws of the tables that two operands keep aside in turn, and the kinds that have two tables.
use Prim.Native.Nat.{ℕ, suc, ◌+◌, ◌^◌, ◌≤◌, ◌<◌, max}
use native.Mathlib.Omega.{arith}
use mathlib.Core.Path.{◌≡◌, refl, sym, ap, ◌∙◌}
use mathlib.Core.Logic.{◌⊎◌, ⊎_elim}
use mathlib.Core.Bool.{Bool, true, false, cond, ◌&&◌, ◌||◌}
use lib.Dec.{ltb, eqb}
use borrow.Author.Tests.{ltb-true, lt-ltb, eqb-true}
use Rattle.aside.specs.Aside.{in_turn, two_tables}
use Rattle.model.specs.declared.kind.Kind.{Kind}
use Rattle.model.specs.declared.kind.Kind.TheVariants.{Compose, Union, Intersect, Except, Same}
use Rattle.model.specs.Kinds.{left_path, right_path}
use Rattle.model.specs.Numbers.{kind_number}
use Rattle.model.proofs.Booleans.{lt_or_le, bool_ext, both_yes, yes_left, yes_right, or_left, or_cases}
use Rattle.model.proofs.KindTests.{left_path_by, right_path_by}

module _ (a b : ℕ) where
  -- for the reader: the larger, or one more where they are equal

  pub turn_less : a < b → in_turn a b ≡ b
  turn_less h = omega arith

  pub turn_more : b < a → in_turn a b ≡ a
  turn_more h = omega arith

  pub turn_same : a ≡ b → in_turn a b ≡ a + 1
  turn_same h = omega arith

  pub turn_left : a ≤ in_turn a b
  turn_left = omega arith

  pub turn_right : b ≤ in_turn a b
  turn_right = omega arith

  -- where there is room for both in turn: the one that needs no more than the other fits behind one more table
  module _ (room : ℕ) (fits : in_turn a b ≤ room) where
    pub right_behind : b ≤ a → 1 + b ≤ room
    right_behind h = omega arith

    pub left_behind : a ≤ b → 1 + a ≤ room
    left_behind h = omega arith

    -- the left one does not fit so, and then the right one does
    pub other_behind : room < 1 + a → 1 + b ≤ room
    other_behind h = omega arith

-- the tables of two operands, in turn or not
module _ (b : Bool) (x y : ℕ) where
  pub either_left : x ≤ cond b (in_turn x y) (max x y)
  either_left = go b
    where
      go : (b : Bool) → x ≤ cond b (in_turn x y) (max x y)
      go true = omega arith
      go false = omega arith

  pub either_right : y ≤ cond b (in_turn x y) (max x y)
  either_right = go b
    where
      go : (b : Bool) → y ≤ cond b (in_turn x y) (max x y)
      go true = omega arith
      go false = omega arith

  pub either_most : (e : ℕ) → x < e → y < e → cond b (in_turn x y) (max x y) ≤ e
  either_most e l r = go b
    where
      go : (b : Bool) → cond b (in_turn x y) (max x y) ≤ e
      go true = omega arith
      go false = omega arith

  -- a power of two for each, and one for both
  pub either_power : (m n : ℕ) → 2 ^ suc x ≤ m → 2 ^ suc y ≤ n → 2 ^ suc (cond b (in_turn x y) (max x y)) ≤ m + n
  either_power m n p q = go b (lt_or_le x y) (lt_or_le y x)
    where
      to : (k l : ℕ) → k ≡ l → 2 ^ suc l ≤ m + n → 2 ^ suc k ≤ m + n
      to k l e h = rw e h

      go : (b : Bool) → (x < y) ⊎ (y ≤ x) → (y < x) ⊎ (x ≤ y) → 2 ^ suc (cond b (in_turn x y) (max x y)) ≤ m + n
      go true (◌⊎◌.inl h) w = to (in_turn x y) y (omega arith) (omega arith)
      go true (◌⊎◌.inr h) (◌⊎◌.inl g) = to (in_turn x y) x (omega arith) (omega arith)
      go true (◌⊎◌.inr h) (◌⊎◌.inr g) = to (in_turn x y) (suc x) (omega arith) (let e : 2 ^ suc y ≡ 2 ^ suc x = ap (λ (k : ℕ). 2 ^ suc k) (let r : y ≡ x = omega arith in r) in omega arith)
      go false (◌⊎◌.inl h) w = to (max x y) y (omega arith) (omega arith)
      go false (◌⊎◌.inr h) w = to (max x y) x (omega arith) (omega arith)

-- the kinds with two tables
module _ (k : ℕ) where
  -- where the right operand is a path, so is the left one
  left_too : ((ltb 0 k && ltb k 5) || eqb k 14) ≡ true → left_path k ≡ true
  unfolding left_path
  left_too h = ⊎_elim (λ p. left_path_by k ∙ or_left (ltb 0 k && ltb k 6) _ (both_yes (yes_left (ltb 0 k) (ltb k 5) p) (lt-ltb k 6 (let l : k < 5 = ltb-true k 5 (yes_right (ltb 0 k) (ltb k 5) p) in omega arith)))) (λ p. rw (eqb-true k 14 p)) (or_cases (ltb 0 k && ltb k 5) (eqb k 14) h)

  pub two_tables_by : two_tables k ≡ ((ltb 0 k && ltb k 5) || eqb k 14)
  two_tables_by = bool_ext (two_tables k) ((ltb 0 k && ltb k 5) || eqb k 14)
      (λ h. sym (right_path_by k) ∙ yes_right (left_path k) (right_path k) h)
      (λ h. both_yes (left_too h) (right_path_by k ∙ h))

  -- for the reader: they are 1 to 4 and 14
  pub two_kinds : two_tables k ≡ true → ((0 < k) × (k < 5)) ⊎ (k ≡ 14)
  two_kinds h =
      ⊎_elim (λ p. ◌⊎◌.inl (ltb-true 0 k (yes_left (ltb 0 k) (ltb k 5) p), ltb-true k 5 (yes_right (ltb 0 k) (ltb k 5) p))) (λ p. ◌⊎◌.inr (eqb-true k 14 p))
      (or_cases (ltb 0 k && ltb k 5) (eqb k 14) (sym two_tables_by ∙ h))

-- the same of a kind by its name

pub tables_of : (k : Kind) → (k ≡ Compose) ⊎ ((k ≡ Union) ⊎ ((k ≡ Intersect) ⊎ ((k ≡ Except) ⊎ (k ≡ Same)))) → true ≡ two_tables (kind_number k)
unfolding left_path right_path
tables_of k (◌⊎◌.inl e) = rw e
tables_of k (◌⊎◌.inr (◌⊎◌.inl e)) = rw e
tables_of k (◌⊎◌.inr (◌⊎◌.inr (◌⊎◌.inl e))) = rw e
tables_of k (◌⊎◌.inr (◌⊎◌.inr (◌⊎◌.inr (◌⊎◌.inl e)))) = rw e
tables_of k (◌⊎◌.inr (◌⊎◌.inr (◌⊎◌.inr (◌⊎◌.inr e)))) = rw e

pub no_tables : (k : Kind) → (k ≡ Compose → ⊥) → (k ≡ Union → ⊥) → (k ≡ Intersect → ⊥) → (k ≡ Except → ⊥) → (k ≡ Same → ⊥) → false ≡ two_tables (kind_number k)
unfolding left_path right_path
no_tables Compose a b c d e = absurd (a refl)
no_tables Union a b c d e = absurd (b refl)
no_tables Intersect a b c d e = absurd (c refl)
no_tables Except a b c d e = absurd (d refl)
no_tables Same a b c d e = absurd (e refl)
no_tables k a b c d e = refl
