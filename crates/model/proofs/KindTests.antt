-- The table of kinds as tests of a kind's number, for kinds that are not known.
use Prim.Native.Nat.{ℕ, zero, suc, ◌<◌}
use native.Mathlib.Omega.{arith}
use mathlib.Core.Path.{◌≡◌, refl, ◌∙◌}
use mathlib.Core.Bool.{true, ◌&&◌, ◌||◌}
use lib.Dec.{ltb, eqb}
use borrow.Author.Tests.{lt-ltb, le-ltb, ne_eqb}
use Rattle.model.specs.Kinds.{is_path, left_path, left_expr, right_path, right_expr, names_variable}
use Rattle.model.proofs.Booleans.{both_yes, or_left}

-- a number that is no kind
abbrev beyond : ℕ → ℕ
beyond k = suc (suc (suc (suc (suc (suc (suc (suc (suc (suc (suc (suc (suc (suc (suc k))))))))))))))

-- a law holds of every number where it holds of each kind and of those that are none
each_kind : (P : ℕ → Type 0) → P 0 → P 1 → P 2 → P 3 → P 4 → P 5 → P 6 → P 7 → P 8 → P 9 → P 10 → P 11 → P 12 → P 13 → P 14 → ((k : ℕ) → P (beyond k)) → (k : ℕ) → P k
each_kind P p0 p1 p2 p3 p4 p5 p6 p7 p8 p9 pa pb pc pd pe r zero = p0
each_kind P p0 p1 p2 p3 p4 p5 p6 p7 p8 p9 pa pb pc pd pe r (suc zero) = p1
each_kind P p0 p1 p2 p3 p4 p5 p6 p7 p8 p9 pa pb pc pd pe r (suc (suc zero)) = p2
each_kind P p0 p1 p2 p3 p4 p5 p6 p7 p8 p9 pa pb pc pd pe r (suc (suc (suc zero))) = p3
each_kind P p0 p1 p2 p3 p4 p5 p6 p7 p8 p9 pa pb pc pd pe r (suc (suc (suc (suc zero)))) = p4
each_kind P p0 p1 p2 p3 p4 p5 p6 p7 p8 p9 pa pb pc pd pe r (suc (suc (suc (suc (suc zero))))) = p5
each_kind P p0 p1 p2 p3 p4 p5 p6 p7 p8 p9 pa pb pc pd pe r (suc (suc (suc (suc (suc (suc zero)))))) = p6
each_kind P p0 p1 p2 p3 p4 p5 p6 p7 p8 p9 pa pb pc pd pe r (suc (suc (suc (suc (suc (suc (suc zero))))))) = p7
each_kind P p0 p1 p2 p3 p4 p5 p6 p7 p8 p9 pa pb pc pd pe r (suc (suc (suc (suc (suc (suc (suc (suc zero)))))))) = p8
each_kind P p0 p1 p2 p3 p4 p5 p6 p7 p8 p9 pa pb pc pd pe r (suc (suc (suc (suc (suc (suc (suc (suc (suc zero))))))))) = p9
each_kind P p0 p1 p2 p3 p4 p5 p6 p7 p8 p9 pa pb pc pd pe r (suc (suc (suc (suc (suc (suc (suc (suc (suc (suc zero)))))))))) = pa
each_kind P p0 p1 p2 p3 p4 p5 p6 p7 p8 p9 pa pb pc pd pe r (suc (suc (suc (suc (suc (suc (suc (suc (suc (suc (suc zero))))))))))) = pb
each_kind P p0 p1 p2 p3 p4 p5 p6 p7 p8 p9 pa pb pc pd pe r (suc (suc (suc (suc (suc (suc (suc (suc (suc (suc (suc (suc zero)))))))))))) = pc
each_kind P p0 p1 p2 p3 p4 p5 p6 p7 p8 p9 pa pb pc pd pe r (suc (suc (suc (suc (suc (suc (suc (suc (suc (suc (suc (suc (suc zero))))))))))))) = pd
each_kind P p0 p1 p2 p3 p4 p5 p6 p7 p8 p9 pa pb pc pd pe r (suc (suc (suc (suc (suc (suc (suc (suc (suc (suc (suc (suc (suc (suc zero)))))))))))))) = pe
each_kind P p0 p1 p2 p3 p4 p5 p6 p7 p8 p9 pa pb pc pd pe r (suc (suc (suc (suc (suc (suc (suc (suc (suc (suc (suc (suc (suc (suc (suc k))))))))))))))) = r k

-- the kinds of paths
pub is_path_by : (k : ℕ) → is_path k ≡ (ltb k 8 || eqb k 13)
unfolding is_path
is_path_by = each_kind (λ k. is_path k ≡ (ltb k 8 || eqb k 13)) refl refl refl refl refl refl refl refl refl refl refl refl refl refl refl (λ k. rw (le-ltb (beyond k) 8 (omega arith), ne_eqb (beyond k) 13 (λ e. omega arith)) refl)

-- those whose left operand is a path
pub left_path_by : (k : ℕ) → left_path k ≡ ((ltb 0 k && ltb k 6) || (eqb k 7 || (eqb k 8 || (eqb k 13 || eqb k 14))))
unfolding left_path
left_path_by = each_kind (λ k. left_path k ≡ ((ltb 0 k && ltb k 6) || (eqb k 7 || (eqb k 8 || (eqb k 13 || eqb k 14))))) refl refl refl refl refl refl refl refl refl refl refl refl refl refl refl (λ k. rw (lt-ltb 0 (beyond k) (omega arith), le-ltb (beyond k) 6 (omega arith), ne_eqb (beyond k) 7 (λ e. omega arith), ne_eqb (beyond k) 8 (λ e. omega arith), ne_eqb (beyond k) 13 (λ e. omega arith), ne_eqb (beyond k) 14 (λ e. omega arith)) refl)

-- a node expression
pub left_expr_by : (k : ℕ) → left_expr k ≡ (ltb 8 k && ltb k 12)
unfolding left_expr
left_expr_by = each_kind (λ k. left_expr k ≡ (ltb 8 k && ltb k 12)) refl refl refl refl refl refl refl refl refl refl refl refl refl refl refl (λ k. rw (lt-ltb 8 (beyond k) (omega arith), le-ltb (beyond k) 12 (omega arith)) refl)

-- those whose right operand is a path
pub right_path_by : (k : ℕ) → right_path k ≡ ((ltb 0 k && ltb k 5) || eqb k 14)
unfolding right_path
right_path_by = each_kind (λ k. right_path k ≡ ((ltb 0 k && ltb k 5) || eqb k 14)) refl refl refl refl refl refl refl refl refl refl refl refl refl refl refl (λ k. rw (lt-ltb 0 (beyond k) (omega arith), le-ltb (beyond k) 5 (omega arith), ne_eqb (beyond k) 14 (λ e. omega arith)) refl)

-- a node expression
pub right_expr_by : (k : ℕ) → right_expr k ≡ (eqb k 5 || (eqb k 10 || eqb k 11))
unfolding right_expr
right_expr_by = each_kind (λ k. right_expr k ≡ (eqb k 5 || (eqb k 10 || eqb k 11))) refl refl refl refl refl refl refl refl refl refl refl refl refl refl refl (λ k. rw (ne_eqb (beyond k) 5 (λ e. omega arith), ne_eqb (beyond k) 10 (λ e. omega arith), ne_eqb (beyond k) 11 (λ e. omega arith)) refl)

-- those whose left is the number of a variable
pub names_variable_by : (k : ℕ) → names_variable k ≡ (eqb k 6 || eqb k 12)
unfolding names_variable
names_variable_by = each_kind (λ k. names_variable k ≡ (eqb k 6 || eqb k 12)) refl refl refl refl refl refl refl refl refl refl refl refl refl refl refl (λ k. rw (ne_eqb (beyond k) 6 (λ e. omega arith), ne_eqb (beyond k) 12 (λ e. omega arith)) refl)

-- the kinds from 1 on that have a path on the left, and on the right

module _ {k : ℕ} where
  pub path_on_left : 0 < k → k < 6 → left_path k ≡ true
  path_on_left a b = left_path_by k ∙ or_left (ltb 0 k && ltb k 6) _ (both_yes (lt-ltb 0 k a) (lt-ltb k 6 b))

  pub path_on_right : 0 < k → k < 5 → right_path k ≡ true
  path_on_right a b = right_path_by k ∙ or_left (ltb 0 k && ltb k 5) _ (both_yes (lt-ltb 0 k a) (lt-ltb k 5 b))
