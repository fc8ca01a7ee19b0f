-- Reading a text byte by byte. In each state some words may come next, each leading to a state; no word begins with another.
use Rattle.std.specs.Prelude.{ℕ, suc, Bool, true, false, ◌&&◌, cond, List, [], ◌∷◌, eqb}

-- a word that may come next if the flag is set, and the state after it
pub data Choice (X : Type 0) : Type 0 where
  choice : Bool → List ℕ → X → Choice X

-- the choices that go on with byte b, without it
unfoldable pub advance : {X : Type 0} → ℕ → List (Choice X) → List (Choice X)
advance b [] = []
advance b (choice may [] x ∷ l) = advance b l
advance b (choice may (c ∷ w) x ∷ l) = cond (may && eqb b c) (choice true w x ∷ advance b l) (advance b l)

-- where the reading of a text stands: no text goes on so; between two words; or within a word, with what is left of the choices
pub data Place (X : Type 0) : Type 0 where
  dead : Place X
  between : X → Place X
  within : List (Choice X) → Place X

-- a choice that has been read to its end is taken
unfoldable pub settle : {X : Type 0} → List (Choice X) → List (Choice X) → Place X
settle all [] = within all
settle all (choice may [] x ∷ l) = between x
settle all (choice may (c ∷ w) x ∷ l) = settle all l

-- the place when a byte has been read, where these choices go on with it
unfoldable pub taken : {X : Type 0} → List (Choice X) → Place X
taken [] = dead
taken (a ∷ l) = settle (a ∷ l) (a ∷ l)

-- one byte more, where `next` has the choices of each state
unfoldable pub feed : {X : Type 0} → (X → List (Choice X)) → Place X → ℕ → Place X
feed next dead b = dead
feed next (between x) b = taken (advance b (next x))
feed next (within l) b = taken (advance b l)

-- a whole text
unfoldable pub run : {X : Type 0} → (X → List (Choice X)) → Place X → List ℕ → Place X
run next p [] = p
run next p (b ∷ bs) = run next (feed next p b) bs

-- no text goes on so
abbrev pub is_dead : {X : Type 0} → Place X → Bool
is_dead dead = true
is_dead (between x) = false
is_dead (within l) = false

-- the number of bytes before the first with which no text goes on; the length if there is none
unfoldable pub reach : {X : Type 0} → (X → List (Choice X)) → Place X → List ℕ → ℕ
reach next p [] = 0
reach next p (b ∷ bs) = cond (is_dead (feed next p b)) 0 (suc (reach next (feed next p b) bs))
