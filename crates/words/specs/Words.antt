-- Looking for words of a table at a place of a text.
use Rattle.std.specs.Prelude.{ℕ, zero, suc, ◌+◌, ◌-◌, ◌*◌, ◌%◌, Bool, false, ◌&&◌, cond, List, [], ◌∷◌, ◌++◌, map, length, take, drop, get_or, replicate, ltb, eqb}
use Rattle.grammar.specs.Grammar.{ascii, axes, axis_word, variables, word}
use Rattle.grammar.specs.Grammar.Slash.{one}
use Rattle.grammar.specs.Grammar.Op.{or, and, same, union, intersect, except, slash}
use Rattle.std.specs.Prelude.{Result, Ok, Err}

-- how many bytes a word and a text begin with alike
unfoldable pub common : List ℕ → List ℕ → ℕ
common [] t = 0
common (c ∷ w) [] = 0
common (c ∷ w) (b ∷ t) = cond (eqb b c) (suc (common w t)) 0

-- word k of a table of words: 21 bytes each, the length first
unfoldable pub slot : List ℕ → ℕ → List ℕ
slot words k = take (get_or words (21 * k) 0 % 21) (drop (21 * k + 1) words)

-- the greater of two numbers
abbrev pub greater : ℕ → ℕ → ℕ
greater a b = cond (ltb a b) b a

-- the first of n words from word k on that may come and stands at the front of the text; or the most bytes that one of them,
-- or `best`, begins alike
unfoldable pub scan_from : List ℕ → List Bool → List ℕ → ℕ → ℕ → ℕ → Result ℕ ℕ
scan_from words may text k zero best = Err best
scan_from words may text k (suc n) best =
    cond (get_or may k false && eqb (common (slot words k) text) (length (slot words k))) (Ok k)
    (scan_from words may text (suc k) n (cond (get_or may k false) (greater best (common (slot words k) text)) best))

-- the words by their numbers: 0 to 19 where an expression is wanted, 20 to 35 behind one
unfoldable pub all_words : List (List ℕ)
all_words =
    map axis_word axes
    ++ (map (λ k. ascii "$" ++ (48 + k) ∷ []) variables
    ++ (ascii "." ∷ ascii "(" ∷ ascii "not(" ∷ ascii "/" ∷ [])
    ++ (map (λ k. ascii " is $" ++ (48 + k) ∷ []) variables
    ++ (ascii "." ∷ ascii "[" ∷ ascii "]" ∷ ascii ")" ∷ word or ∷ word and ∷ word same ∷ word union ∷ word intersect ∷ word except ∷ word (slash one) ∷ ascii "()" ∷ ascii "*" ∷ [])))

-- words as a table: for each its length, its bytes, and zeros up to 20
abbrev table : List (List ℕ) → List ℕ
table [] = []
table (w ∷ ws) = length w ∷ (w ++ (replicate (20 - length w) 0 ++ table ws))

-- the words as the code has them
unfoldable pub word_table : List ℕ
unfolding all_words axes variables axis_word
word_table = table all_words
