-- The choices of a state by their numbers: 0 to 19 where an expression is wanted, 20 to 35 behind one, 36 for a byte of a name and 37
-- for the star behind an axis. What holds of every choice holds of the one that is taken.
use Prim.Native.Nat.{ℕ, suc, ◌+◌}
use native.Mathlib.Omega.{arith}
use mathlib.Core.Path.{◌≡◌, sym, subst}
use mathlib.Core.Logic.{◌⊎◌, ⊎_elim}
use mathlib.Core.Bool.{true}
use mathlib.Core.List.{List, [], ◌∷◌}
use lib.ListN.{length}
use Rattle.grammar.specs.Grammar.{elem, name_bytes}
use Rattle.grammar.specs.Grammar.Wildcard.{star}
use Rattle.grammar.specs.Grammar.Expr.{wildcard, named}
use Rattle.grammar.specs.Online.{Choice}
use Rattle.grammar.specs.Online.Choice.{choice}
use Rattle.grammar.specs.Automaton.{State, is_named, longer, behind, next, each}
use Rattle.grammar.specs.Automaton.Focus.{want, axis, have}
use Rattle.grammar.specs.Automaton.State.{state}

-- x is the state of choice number i of a list, which may come
abbrev pub Nth : List (Choice State) → ℕ → State → Type 0
Nth [] i x = ⊥
Nth (choice m w y ∷ l) i x = ((i ≡ 0) × (m ≡ true) × (y ≡ x)) ⊎ ((j : ℕ) × (i ≡ suc j) × Nth l j x)

-- P holds of every choice that may come, where the first has number k
abbrev pub Indexed : (ℕ → State → Type 0) → ℕ → List (Choice State) → Type 0
Indexed P k [] = Unit {0}
Indexed P k (choice m w x ∷ l) = (m ≡ true → P k x) × Indexed P (suc k) l

pub nth_indexed : (P : ℕ → State → Type 0) (l : List (Choice State)) (k i : ℕ) (x : State) → Nth l i x → Indexed P k l → P (k + i) x
nth_indexed P [] k i x n h = absurd n
nth_indexed P (choice m w y ∷ l) k i x n h =
    ⊎_elim
    (λ a. let e : k ≡ k + i = let z = a.0 in omega arith in subst (λ (v : State). P (k + i) v) a.2 (subst (λ (j : ℕ). P j y) e (h.0 a.1)))
    (λ a. let e : suc k + a.0 ≡ k + i = let z = a.1 in omega arith in subst (λ (j : ℕ). P j x) e (nth_indexed P l (suc k) a.0 x a.2 h.1))
    n

-- a choice for each number of a list
pub each_indexed : (P : ℕ → State → Type 0) (f : ℕ → Choice State) (js : List ℕ) (l : List (Choice State)) (k : ℕ)
    → ((i j : ℕ) → Indexed P i (f j ∷ [])) → Indexed P (k + length js) l → Indexed P k (each f js l)
unfolding each
each_indexed P f [] l k h r = subst (λ (n : ℕ). Indexed P n l) (let e : k + 0 ≡ k = omega arith in e) r
each_indexed P f (j ∷ js) l k h r =
    cons (f j) (h k j)
    (each_indexed P f js l (suc k) h (subst (λ (n : ℕ). Indexed P n l) (let e : k + suc (length js) ≡ suc k + length js = omega arith in e) r))
  where
    cons : (a : Choice State) → Indexed P k (a ∷ []) → Indexed P (suc k) (each f js l) → Indexed P k (a ∷ each f js l)
    cons (choice m w x) a b = (a.0, b)

-- in state s the word number k was taken, which leads to x
abbrev pub Taken : State → ℕ → State → Type 0
Taken (state fs want) k x = Nth (next (state fs want)) k x
Taken (state fs (axis a)) k x =
    ((k ≡ 36) × (b : ℕ) × (elem b name_bytes ≡ true) × (x ≡ state fs (have (named a (b ∷ []))))) ⊎ ((k ≡ 37) × (x ≡ state fs (have (wildcard a star))))
Taken (state fs (have e)) k x =
    ((k ≡ 36) × (is_named e ≡ true) × (b : ℕ) × (elem b name_bytes ≡ true) × (x ≡ state fs (have (longer e b)))) ⊎ ((i : ℕ) × (k ≡ 20 + i) × Nth (behind fs e) i x)

-- P holds of every word of the state
abbrev pub Every : (State → ℕ → State → Type 0) → State → Type 0
Every P (state fs want) = Indexed (P (state fs want)) 0 (next (state fs want))
Every P (state fs (axis a)) =
    ((b : ℕ) → elem b name_bytes ≡ true → P (state fs (axis a)) 36 (state fs (have (named a (b ∷ []))))) × P (state fs (axis a)) 37 (state fs (have (wildcard a star)))
Every P (state fs (have e)) =
    (is_named e ≡ true → (b : ℕ) → elem b name_bytes ≡ true → P (state fs (have e)) 36 (state fs (have (longer e b))))
    × Indexed (P (state fs (have e))) 20 (behind fs e)

pub every_taken : (P : State → ℕ → State → Type 0) (s : State) (k : ℕ) (x : State) → Taken s k x → Every P s → P s k x
every_taken P (state fs want) k x t h =
    subst (λ (j : ℕ). P (state fs want) j x) (let e : 0 + k ≡ k = omega arith in e) (nth_indexed (P (state fs want)) (next (state fs want)) 0 k x t h)
every_taken P (state fs (axis a)) k x t h =
    ⊎_elim
    (λ u. subst (λ (y : State). P (state fs (axis a)) k y) (sym u.3) (subst (λ (j : ℕ). P (state fs (axis a)) j (state fs (have (named a (u.1 ∷ []))))) (sym u.0) (h.0 u.1 u.2)))
    (λ u. subst (λ (y : State). P (state fs (axis a)) k y) (sym u.1) (subst (λ (j : ℕ). P (state fs (axis a)) j (state fs (have (wildcard a star)))) (sym u.0) h.1))
    t
every_taken P (state fs (have e)) k x t h =
    ⊎_elim
    (λ u. subst (λ (y : State). P (state fs (have e)) k y) (sym u.4) (subst (λ (j : ℕ). P (state fs (have e)) j (state fs (have (longer e u.2)))) (sym u.0) (h.0 u.1 u.2 u.3)))
    (λ u. subst (λ (j : ℕ). P (state fs (have e)) j x) (sym u.1) (nth_indexed (P (state fs (have e))) (behind fs e) 20 u.0 x u.2 h.1))
    t
