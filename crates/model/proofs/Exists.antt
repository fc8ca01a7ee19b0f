-- Laws of 'there is a node', and of the lowest number that passes a test.
use Prim.Native.Nat.{ℕ, zero, suc, ◌+◌, ◌≤◌, ◌<◌}
use native.Mathlib.Nat.{not-suc-le-zero, le_of_suc-le-suc, eq-or-lt_of_le}
use native.Mathlib.Numerals.{add-one}
use native.Mathlib.Omega.{arith}
use mathlib.Core.Path.{◌≡◌, refl, sym, ap, ◌∙◌, subst}
use mathlib.Core.Logic.{⊎_elim, ◌↔◌}
use mathlib.Core.Bool.{Bool, true, false, ◌&&◌, ◌||◌, cond, and_comm}
use lib.Dec.{eqb}
use borrow.Author.Tests.{eq-eqb, eqb-true}
use Rattle.model.specs.Sets.{any}
use Rattle.model.specs.Refusals.{lowest}
use Rattle.model.proofs.Booleans.{no_yes, bool_ext, both_yes, yes_left, yes_right, or_left, or_right, or_cases, not_yes, no_or}

-- any is 'there is one'

pub any_intro : (n : ℕ) (f : ℕ → Bool) (x : ℕ) → x < n → f x ≡ true → any n f ≡ true
unfolding any
any_intro zero f x l p = absurd (not-suc-le-zero l)
any_intro (suc n) f x l p =
    ⊎_elim (λ e. or_left (f n) (any n f) (subst (λ (k : ℕ). f k ≡ true) e p)) (λ k. or_right (f n) (any n f) (any_intro n f x k p))
    (eq-or-lt_of_le (le_of_suc-le-suc l))

pub any_elim : (n : ℕ) (f : ℕ → Bool) → any n f ≡ true → (x : ℕ) × (x < n) × (f x ≡ true)
unfolding any
any_elim zero f h = no_yes refl h
any_elim (suc n) f h =
    ⊎_elim (λ p. (n, omega arith, p)) (λ p. let (x, l, q) = any_elim n f p in (x, omega arith, q))
    (or_cases (f n) (any n f) h)

pub any_cong : (n : ℕ) (f g : ℕ → Bool) → ((x : ℕ) → x < n → f x ≡ g x) → any n f ≡ any n g
unfolding any
any_cong zero f g h = refl
any_cong (suc n) f g h = rw (h n (omega arith), any_cong n f g (λ x l. h x (omega arith)))

-- no number below n passes, where each is known to fail
pub any_never : (n : ℕ) (f : ℕ → Bool) → ((x : ℕ) → x < n → f x ≡ false) → any n f ≡ false
any_never n f h = not_yes (any n f) (λ p. let (x, l, q) = any_elim n f p in no_yes (h x l) q)

-- for the reader: the test any n f holds exactly if some x below n passes f
pub any_iff : (n : ℕ) (f : ℕ → Bool) → (any n f ≡ true) ↔ ((x : ℕ) × (x < n) × (f x ≡ true))
any_iff n f = (any_elim n f, λ w. any_intro n f w.0 w.1 w.2)

-- the same where x passes two tests
pub any_both : (n : ℕ) (f g : ℕ → Bool) → (any n (λ x. f x && g x) ≡ true) ↔ ((x : ℕ) × (x < n) × (f x ≡ true) × (g x ≡ true))
any_both n f g = (
  λ h. let (x, l, p) = any_elim n (λ x. f x && g x) h in (x, l, yes_left (f x) (g x) p, yes_right (f x) (g x) p),
  λ w. any_intro n (λ x. f x && g x) w.0 w.1 (both_yes w.2 w.3),
)

-- a search from the front: none below i, and not i
pub any_more : (i : ℕ) (f : ℕ → Bool) → any i f ≡ false → f i ≡ false → any (i + 1) f ≡ false
unfolding any
any_more i f p q = rw (add-one i, p, q)

-- the same with the test's flag
pub any_miss : (i : ℕ) (f : ℕ → Bool) (b : Bool) → any i f ≡ false → b ≡ f i → b ≡ false → any (i + 1) f ≡ false
any_miss i f b p e q = any_more i f p (sym e ∙ q)

pub any_end : (n i : ℕ) (f : ℕ → Bool) → any i f ≡ false → i ≤ n → n ≤ i → any n f ≡ false
any_end n i f p l h = ap (λ (k : ℕ). any k f) (let e : n ≡ i = omega arith in e) ∙ p

-- a search that goes through all numbers

pub any_next : (i : ℕ) (f : ℕ → Bool) (b : Bool) → b ≡ any i f → (f i || b) ≡ any (i + 1) f
unfolding any
any_next i f b p = rw (add-one i, p)

-- the same with the test's flag
pub any_seen : (i : ℕ) (f : ℕ → Bool) (b r : Bool) → b ≡ any i f → r ≡ f i → (r || b) ≡ any (i + 1) f
any_seen i f b r p q = rw q (any_next i f b p)

pub any_whole : (n i : ℕ) (f : ℕ → Bool) (b : Bool) → b ≡ any i f → i ≤ n → n ≤ i → b ≡ any n f
any_whole n i f b p l h = p ∙ ap (λ (k : ℕ). any k f) (let e : i ≡ n = omega arith in e)

-- any with Booleans

pub and_any : (n : ℕ) (f : ℕ → Bool) (b : Bool) → (any n f && b) ≡ any n (λ x. f x && b)
and_any n f b =
    bool_ext (any n f && b) (any n (λ x. f x && b))
    (λ p. let (x, l, q) = any_elim n f (yes_left (any n f) b p) in any_intro n (λ x. f x && b) x l (both_yes q (yes_right (any n f) b p)))
    (λ p. let (x, l, q) = any_elim n (λ x. f x && b) p in both_yes (any_intro n f x l (yes_left (f x) b q)) (yes_right (f x) b q))

pub any_and : (n : ℕ) (b : Bool) (f : ℕ → Bool) → (b && any n f) ≡ any n (λ x. b && f x)
any_and n b f = and_comm b (any n f) ∙ and_any n f b ∙ any_cong n (λ x. f x && b) (λ x. b && f x) (λ x l. and_comm (f x) b)

pub any_swap : (n m : ℕ) (f : ℕ → ℕ → Bool) → any n (λ x. any m (λ y. f x y)) ≡ any m (λ y. any n (λ x. f x y))
any_swap n m f =
    bool_ext (any n (λ x. any m (λ y. f x y))) (any m (λ y. any n (λ x. f x y))) (one n m f) (one m n (λ y x. f x y))
  where
    one : (n m : ℕ) (f : ℕ → ℕ → Bool) → any n (λ x. any m (λ y. f x y)) ≡ true → any m (λ y. any n (λ x. f x y)) ≡ true
    one n m f p =
        let (x, l, q) = any_elim n (λ x. any m (λ y. f x y)) p in
        let (y, k, r) = any_elim m (λ y. f x y) q in
        any_intro m (λ y. any n (λ x. f x y)) y k (any_intro n (λ x. f x y) x l r)

pub any_or : (n : ℕ) (f g : ℕ → Bool) → (any n f || any n g) ≡ any n (λ x. f x || g x)
unfolding any
any_or zero f g = refl
any_or (suc n) f g = shuffle (f n) (any n f) (g n) (any n g) ∙ ap (λ (b : Bool). (f n || g n) || b) (any_or n f g)
  where
    shuffle : (a b c d : Bool) → ((a || b) || (c || d)) ≡ ((a || c) || (b || d))
    shuffle true b c d = refl
    shuffle false true true d = refl
    shuffle false true false d = refl
    shuffle false false c d = refl

-- the only candidate is x
pub any_one : (n x : ℕ) (f : ℕ → Bool) → x < n → any n (λ k. eqb k x && f k) ≡ f x
any_one n x f l =
    bool_ext (any n (λ k. eqb k x && f k)) (f x)
    (λ p. let (k, h, q) = any_elim n (λ k. eqb k x && f k) p in rw (eqb-true k x (yes_left (eqb k x) (f k) q)) at (yes_right (eqb k x) (f k) q))
    (λ p. any_intro n (λ k. eqb k x && f k) x l (both_yes (eq-eqb x x refl) p))

-- the lowest number that passes

pub lowest_none : (n : ℕ) (f : ℕ → Bool) → any n f ≡ false → lowest n f ≡ n
unfolding lowest any
lowest_none zero f h = refl
lowest_none (suc n) f h = let w = no_or (f n) (any n f) h in rw (w.0, w.1)

-- the same with the test's flag
pub lowest_unless : (n : ℕ) (f : ℕ → Bool) (b : Bool) → b ≡ any n f → b ≡ false → n ≡ lowest n f
lowest_unless n f b e p = sym (lowest_none n f (sym e ∙ p))

pub lowest_at : (n x : ℕ) (f : ℕ → Bool) → any x f ≡ false → f x ≡ true → x < n → lowest n f ≡ x
unfolding lowest
lowest_at zero x f p q l = absurd (not-suc-le-zero l)
lowest_at (suc n) x f p q l =
    ⊎_elim
    (λ e. let a : any n f ≡ false = ap (λ (k : ℕ). any k f) (sym e) ∙ p in let b : f n ≡ true = ap f (sym e) ∙ q in rw (a, b) (sym e))
    (λ h. rw (any_intro n f x h q) (lowest_at n x f p q h))
    (eq-or-lt_of_le (native.Mathlib.Nat.le_of_suc-le-suc l))

pub lowest_less : (n : ℕ) (f : ℕ → Bool) → any n f ≡ true → lowest n f < n
unfolding lowest any
lowest_less zero f h = no_yes refl h
lowest_less (suc n) f h = go (any n f) refl (lowest_less n f)
  where
    go : (a : Bool) → any n f ≡ a → (any n f ≡ true → lowest n f < n) → cond (any n f) (lowest n f) (cond (f n) n (suc n)) < suc n
    go true p ih = rw p (let w : lowest n f < n = ih p in omega arith)
    go false p ih = rw (p, ⊎_elim (λ q. q) (λ q. no_yes p q) (or_cases (f n) (any n f) h)) (omega arith)

pub none_of : (n : ℕ) (f : ℕ → Bool) (x : ℕ) → any n f ≡ false → x < n → f x ≡ false
none_of n f x h l = go (f x) refl
  where
    go : (b : Bool) → f x ≡ b → f x ≡ false
    go false p = p
    go true p = no_yes h (any_intro n f x l p)

-- the lowest is below n exactly if there is one
pub lowest_past : (n : ℕ) (f : ℕ → Bool) → n ≤ lowest n f → any n f ≡ false
lowest_past n f l = go (any n f) refl
  where
    go : (a : Bool) → any n f ≡ a → any n f ≡ false
    go false p = p
    go true p = absurd (let w : lowest n f < n = lowest_less n f p in omega arith)

pub lowest_found : (n : ℕ) (f : ℕ → Bool) → lowest n f < n → any n f ≡ true
lowest_found n f l = go (any n f) refl
  where
    go : (a : Bool) → any n f ≡ a → any n f ≡ true
    go true p = p
    go false p = absurd (let w : lowest n f ≡ n = lowest_none n f p in omega arith)

-- for the reader: where some place is bad, the lowest one is bad
pub lowest_bad : (n : ℕ) (f : ℕ → Bool) → any n f ≡ true → f (lowest n f) ≡ true
unfolding lowest any
lowest_bad zero f h = no_yes refl h
lowest_bad (suc n) f h = go (any n f) refl (lowest_bad n f)
  where
    go : (b : Bool) → any n f ≡ b → (any n f ≡ true → f (lowest n f) ≡ true) → f (cond (any n f) (lowest n f) (cond (f n) n (suc n))) ≡ true
    go true p ih = rw p (ih p)
    go false p ih = let q : f n ≡ true = ⊎_elim (λ w. w) (λ w. no_yes p w) (or_cases (f n) (any n f) h) in rw (p, q) q

-- for the reader: no place before the lowest one is bad
pub none_lower : (n : ℕ) (f : ℕ → Bool) → any (lowest n f) f ≡ false
unfolding lowest any
none_lower zero f = refl
none_lower (suc n) f = go (any n f) refl (none_lower n f)
  where
    at : (c : Bool) → f n ≡ c → any n f ≡ false → any (cond (f n) n (suc n)) f ≡ false
    at true p q = rw p q
    at false p q = rw p (rw (p, q))

    go : (b : Bool) → any n f ≡ b → any (lowest n f) f ≡ false → any (cond (any n f) (lowest n f) (cond (f n) n (suc n))) f ≡ false
    go true p ih = rw p ih
    go false p ih = rw p (at (f n) refl p)
