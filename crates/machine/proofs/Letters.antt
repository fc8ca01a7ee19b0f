-- What the focus tells of a name that has been read letter by letter.
use Prim.Native.Nat.{ℕ, ◌≤◌}
use native.Mathlib.Omega.{arith}
use mathlib.Core.Path.{◌≡◌, refl}
use mathlib.Core.Bool.{Bool, true, false, ◌&&◌, cond}
use mathlib.Core.List.{List, [], ◌∷◌, ◌++◌}
use lib.Dec.{eqb}
use Rattle.model.proofs.Booleans.{no_yes}
use Rattle.model.specs.Lists.{equal}
use Rattle.grammar.specs.Grammar.{ascii, is_name}
use Rattle.machine.specs.Machine.{letter_focus, letters_focus, name_focus}

-- it is that of a name

letter_high : (f b : ℕ) → 6 ≤ letter_focus f b
unfolding letter_focus
letter_high f b = go (eqb f 1 && eqb b 110) (eqb f 7 && eqb b 111) (eqb f 8 && eqb b 100) (eqb f 9 && eqb b 101)
  where
    go : (n o d e : Bool) → 6 ≤ cond n 7 (cond o 8 (cond d 9 (cond e 10 6)))
    go true o d e = omega arith
    go false true d e = omega arith
    go false false true e = omega arith
    go false false false true = omega arith
    go false false false false = omega arith

letters_high : (f : ℕ) (bs : List ℕ) → 6 ≤ f → 6 ≤ letters_focus f bs
unfolding letters_focus
letters_high f [] h = h
letters_high f (b ∷ bs) h = letters_high (letter_focus f b) bs (letter_high f b)

pub name_high : (name : List ℕ) → 6 ≤ name_focus name
unfolding name_focus
name_high [] = omega arith
name_high (b ∷ bs) = letters_high (letter_focus 1 b) bs (letter_high 1 b)

-- with one letter more

letters_more : (f : ℕ) (bs : List ℕ) (b : ℕ) → letters_focus f (bs ++ b ∷ []) ≡ letter_focus (letters_focus f bs) b
unfolding letters_focus
letters_more f [] b = refl
letters_more f (c ∷ bs) b = letters_more (letter_focus f c) bs b

pub name_more : (name : List ℕ) (b : ℕ) → is_name name ≡ true → name_focus (name ++ b ∷ []) ≡ letter_focus (name_focus name) b
unfolding name_focus is_name
name_more [] b h = no_yes refl h
name_more (c ∷ bs) b h = letters_more (letter_focus 1 c) bs b

-- a name that has left "node" behind does not come back to it
left_behind : (bs : List ℕ) → letters_focus 6 bs ≡ 6
unfolding letter_focus letters_focus
left_behind [] = refl
left_behind (b ∷ bs) = left_behind bs

-- at the focus f the letter c is wanted, which leads to g, and then w
on_the_way : (f g c : ℕ) (w : List ℕ) → eqb f 10 ≡ false → ((b : ℕ) → letter_focus f b ≡ cond (eqb b c) g 6) → ((l : List ℕ) → eqb (letters_focus g l) 10 ≡ equal l w)
    → (l : List ℕ) → eqb (letters_focus f l) 10 ≡ equal l (c ∷ w)
unfolding letters_focus equal
on_the_way f g c w h s ih [] = h
on_the_way f g c w h s ih (b ∷ l) = rw (s b) (go (eqb b c))
  where
    go : (q : Bool) → eqb (letters_focus (cond q g 6) l) 10 ≡ (q && equal l w)
    go true = ih l
    go false = rw (left_behind l)

-- it is 10 exactly behind the name 'node'
pub name_node : (name : List ℕ) → eqb (name_focus name) 10 ≡ equal name (ascii "node")
unfolding letter_focus letters_focus name_focus equal
name_node [] = refl
name_node (b ∷ bs) =
    on_the_way 1 7 110 (ascii "ode") refl (λ b. refl)
    (on_the_way 7 8 111 (ascii "de") refl (λ b. refl)
    (on_the_way 8 9 100 (ascii "e") refl (λ b. refl)
    (on_the_way 9 10 101 [] refl (λ b. refl) past)))
    (b ∷ bs)
  where
    past : (l : List ℕ) → eqb (letters_focus 10 l) 10 ≡ equal l []
    past [] = refl
    past (b ∷ l) = rw (left_behind l)
