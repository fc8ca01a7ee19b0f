-- Laws of a tree table of two numbers a node as a shared table, and of the loop that writes it.
use Prim.Native.Nat.{ℕ, zero, suc, ◌+◌, ◌*◌, ◌/◌, ◌%◌, ◌≤◌, ◌<◌}
use native.Mathlib.Nat.{not-suc-le-zero}
use native.Mathlib.Numerals.{add-one}
use native.Mathlib.Omega.{arith}
use mathlib.Core.Path.{◌≡◌, refl, sym, ap, ◌∙◌, subst}
use mathlib.Core.List.{List, [], ◌∷◌, ◌++◌, append_assoc}
use lib.ListN.{length, get_or, set, take, length-set}
use lib.Seq.{take_all, take-suc, take-suc-set, length-take-le}
use Rattle.job.specs.JobFile.{widened, Fronts}

pub widened_length : (t : List ℕ) → length (widened t) ≡ 3 * (length t / 2) + length t % 2
unfolding widened
widened_length [] = refl
widened_length (p ∷ []) = refl
widened_length (p ∷ g ∷ t) = let h = widened_length t in omega arith

-- behind a table of whole nodes
widened_more : (t l : List ℕ) (n : ℕ) → length t ≡ 2 * n → widened (t ++ l) ≡ widened t ++ widened l
unfolding widened
widened_more [] l n e = refl
widened_more (p ∷ []) l n e = absurd (odd n e)
  where
    odd : (n : ℕ) → 1 ≡ 2 * n → ⊥
    odd n e = not-suc-le-zero (let z : 1 ≤ 0 = omega arith in z)
widened_more (p ∷ g ∷ t) l zero e = absurd (not-suc-le-zero (let z : 1 ≤ 0 = omega arith in z))
widened_more (p ∷ g ∷ t) l (suc n) e = ap (λ (r : List ℕ). p ∷ g ∷ 0 ∷ r) (widened_more t l n (omega arith))

-- the first x nodes are written
pub record Widening (t out : List ℕ) (x : ℕ) : Type 0 where
  pub most : x ≤ length t / 2
  pub long : length out ≡ 3072
  pub front : take (3 * x) out ≡ widened (take (2 * x) t)

pub widening_start : (t out : List ℕ) → length out ≡ 3072 → Widening t out 0
unfolding widened
widening_start t out l = record { most = omega arith; long = l; front = refl }

take_two : (t : List ℕ) (x : ℕ) → x < length t / 2 → take (2 * (x + 1)) t ≡ take (2 * x) t ++ (get_or t (2 * x) 0 ∷ get_or t (2 * x + 1) 0 ∷ [])
take_two t x h =
    ap (λ (k : ℕ). take k t) (let e : 2 * (x + 1) ≡ suc (2 * x + 1) = omega arith in e)
    ∙ take-suc t (2 * x + 1) 0 (omega arith)
    ∙ ap (λ (r : List ℕ). r ++ (get_or t (2 * x + 1) 0 ∷ [])) (ap (λ (k : ℕ). take k t) (add-one (2 * x)) ∙ take-suc t (2 * x) 0 (omega arith))
    ∙ append_assoc (take (2 * x) t) (get_or t (2 * x) 0 ∷ []) (get_or t (2 * x + 1) 0 ∷ [])

store_three : (l : List ℕ) (x a b c : ℕ) → 3 * x + 2 < length l → take (3 * (x + 1)) (set (set (set l (3 * x) a) (3 * x + 1) b) (3 * x + 2) c) ≡ take (3 * x) l ++ (a ∷ b ∷ c ∷ [])
store_three l x a b c h =
    ap (λ (k : ℕ). take k (set (set (set l (3 * x) a) (3 * x + 1) b) (3 * x + 2) c)) (let e : 3 * (x + 1) ≡ suc (3 * x + 2) = omega arith in e)
    ∙ take-suc-set (set (set l (3 * x) a) (3 * x + 1) b) (3 * x + 2) c (rw (length-set (set l (3 * x) a) (3 * x + 1) b, length-set l (3 * x) a) h)
    ∙ ap (λ (r : List ℕ). r ++ (c ∷ []))
    (ap (λ (k : ℕ). take k (set (set l (3 * x) a) (3 * x + 1) b)) (let e : 3 * x + 2 ≡ suc (3 * x + 1) = omega arith in e)
    ∙ take-suc-set (set l (3 * x) a) (3 * x + 1) b (rw (length-set l (3 * x) a) (omega arith))
    ∙ ap (λ (r : List ℕ). r ++ (b ∷ [])) (ap (λ (k : ℕ). take k (set l (3 * x) a)) (add-one (3 * x)) ∙ take-suc-set l (3 * x) a (omega arith)))
    ∙ append_assoc (take (3 * x) l ++ (a ∷ [])) (b ∷ []) (c ∷ [])
    ∙ append_assoc (take (3 * x) l) (a ∷ []) (b ∷ c ∷ [])

module _ (t out : List ℕ) (x : ℕ) (w : Widening t out x) (few : length t ≤ 2042) where
  pub widening_turn : x < length t / 2 → Widening t (set (set (set out (3 * x) (get_or t (2 * x) 0)) (3 * x + 1) (get_or t (2 * x + 1) 0)) (3 * x + 2) 0) (x + 1)
  unfolding widened
  widening_turn h = record {
    most = omega arith;
    long = length-set (set (set out (3 * x) (get_or t (2 * x) 0)) (3 * x + 1) (get_or t (2 * x + 1) 0)) (3 * x + 2) 0 ∙ length-set (set out (3 * x) (get_or t (2 * x) 0)) (3 * x + 1) (get_or t (2 * x + 1) 0) ∙ length-set out (3 * x) (get_or t (2 * x) 0) ∙ w.long;
    front =
        store_three out x (get_or t (2 * x) 0) (get_or t (2 * x + 1) 0) 0 (omega (arith, w.long))
        ∙ rw w.front (sym (ap widened (take_two t x h) ∙ widened_more (take (2 * x) t) (get_or t (2 * x) 0 ∷ get_or t (2 * x + 1) 0 ∷ []) x (length-take-le (2 * x) t (omega arith))));
  }

  module _ (e : length t / 2 ≤ x) where
    all : x ≡ length t / 2
    all = omega (arith, w.most)

    pub widening_even : length t % 2 ≡ 0 → Fronts (widened t) (3 * x) out
    widening_even z =
        record {
          long = let a = widened_length t in let b = all in omega arith;
          size = w.long;
          front = w.front ∙ ap widened (take_all (2 * x) t (let b = all in omega arith));
        }

    pub widening_odd : (length t % 2 ≡ 0 → ⊥)
        → Fronts (widened t) (3 * x + 1) (set out (3 * x) (get_or t (2 * x) 0))
    unfolding widened
    widening_odd z =
        let b = all in
        let odd : length t % 2 ≡ 1 = one (length t % 2) z (omega arith) in
        let a = widened_length t in
        record {
          long = omega arith;
          size = length-set out (3 * x) (get_or t (2 * x) 0) ∙ w.long;
          front =
              ap (λ (k : ℕ). take k (set out (3 * x) (get_or t (2 * x) 0))) (add-one (3 * x))
              ∙ take-suc-set out (3 * x) (get_or t (2 * x) 0) (omega (arith, w.long))
              ∙ rw w.front
              (sym
              (ap widened (sym (take_all (suc (2 * x)) t (omega arith)) ∙ take-suc t (2 * x) 0 (omega arith))
              ∙ widened_more (take (2 * x) t) (get_or t (2 * x) 0 ∷ []) x (length-take-le (2 * x) t (omega arith))));
        }
      where
        one : (k : ℕ) → (k ≡ 0 → ⊥) → k < 2 → k ≡ 1
        one k n l = omega arith

pub widening_all : (t out : List ℕ) (x : ℕ) → Widening t out x → length t / 2 ≤ x → Widening t out (length t / 2)
widening_all t out x w h = subst (λ (k : ℕ). Widening t out k) (let e : x ≡ length t / 2 = omega (arith, w.most) in e) w
