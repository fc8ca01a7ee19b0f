-- The entries that each turn of the reading adds to the table, in postfix order.
use Rattle.std.specs.Prelude.{ℕ, ◌-◌, Bool, not, ◌&&◌, ◌||◌, cond, List, [], ◌∷◌, ◌++◌, drop, get_or, ltb, eqb}
use Rattle.machine.specs.Machine.{top, binds, pops, sort}
use Rattle.entries.specs.Postfix.{Item}
use Rattle.entries.specs.Postfix.Item.{leaf, unary, binary}

-- a path as a node expression: 'some' over it; a node expression as it is
abbrev pub as_test : Bool → List Item
as_test path = cond path (unary 8 ∷ []) []

-- a step with node()
abbrev pub node_step : ℕ → Item
node_step a = leaf 0 a 65534

-- the kinds of the gaps 0 to 9
abbrev pub joints : List ℕ
joints = (11 ∷ 10 ∷ 14 ∷ 2 ∷ 3 ∷ 4 ∷ 1 ∷ 1 ∷ 7 ∷ 1 ∷ [])

-- what a gap becomes when it closes: operators by their kinds, a leading slash 'from the root'
abbrev pub gap_item : ℕ → Item
gap_item k = cond (eqb k 8) (unary 7) (binary (get_or joints k 0))

-- with a path or a node expression standing in it; only ' or ' and ' and ' join node expressions
abbrev pub gap_items : ℕ → Bool → List Item
gap_items k path = as_test (ltb k 2 && path) ++ (gap_item k ∷ [])

-- the gaps that close before what binds at n to its left, innermost first
unfoldable pub close_items : ℕ → List ℕ → Bool → List Item
close_items n [] path = []
close_items n (k ∷ ks) path = cond (binds n k) (gap_items k path ++ close_items n ks (not (ltb k 3))) []

-- what has been read, and is written when it can't go on: a name, with its axis and tag, or '.'
abbrev pub pending : ℕ → ℕ → ℕ → List Item
pending f axis tag = cond (ltb 5 f) (leaf 0 axis tag ∷ []) (cond (eqb f 5) (node_step 0 ∷ []) [])

-- a second slash: behind a step, and behind a leading slash
abbrev pub slash_items : ℕ → List Item
slash_items t = cond (eqb t 6) (node_step 11 ∷ binary 1 ∷ []) (cond (eqb t 8) (node_step 11 ∷ []) [])

-- words where an expression is wanted, t the innermost gap
abbrev pub want_items : ℕ → ℕ → List Item
want_items t k = cond (ltb k 13) [] (cond (ltb k 16) (leaf 6 (k - 13) 0 ∷ []) (cond (eqb k 19) (slash_items t) []))

-- how tightly the words 25 to 33 bind to their left: ']' and ')' close all
abbrev pub word_level : ℕ → ℕ
word_level k = get_or (0 ∷ 0 ∷ 0 ∷ 1 ∷ 3 ∷ 3 ∷ 4 ∷ 4 ∷ 6 ∷ []) (k - 25) 0

-- they ask for a node expression: ']', ')' behind 'not(', ' or ' and ' and '; inner is the gap that is then innermost
abbrev pub wants_test : ℕ → ℕ → Bool
wants_test k inner = eqb k 25 || ((eqb k 26 && eqb inner 12) || (eqb k 27 || eqb k 28))

-- a filter, or 'not'
abbrev pub last_items : ℕ → ℕ → List Item
last_items k inner = cond (eqb k 25) (binary 5 ∷ []) (cond (eqb k 26 && eqb inner 12) (unary 9 ∷ []) [])

-- the words 25 to 33: the gaps close that bind as tightly
abbrev pub closing_items : ℕ → List ℕ → ℕ → List Item
closing_items f ks k =
    close_items (word_level k) ks (ltb 2 f)
    ++ (as_test (wants_test k (top (drop (pops (word_level k) ks) ks)) && sort (word_level k) ks (ltb 2 f))
    ++ last_items k (top (drop (pops (word_level k) ks) ks)))

-- words behind an expression, save '()' and '*'
abbrev pub have_items : ℕ → List ℕ → ℕ → ℕ → ℕ → List Item
have_items f ks k axis tag =
    cond (ltb k 23) (leaf 12 (k - 20) 0 ∷ [])
    (cond (eqb k 23) (node_step 2 ∷ [])
    (cond (eqb k 24) (pending f axis tag) (pending f axis tag ++ closing_items f ks k)))

-- the tag of a step without a name: word 34 is the '()' of node(), 37 the star
abbrev pub unnamed_tag : ℕ → ℕ
unnamed_tag k = cond (eqb k 34) 65534 65535

-- a turn: f the focus, ks the gaps, k the word, 35 the star behind a bracket and 36 a byte of a name; axis and tag are those of the name
-- that has been read
unfoldable pub word_items : ℕ → List ℕ → ℕ → ℕ → ℕ → List Item
word_items f ks k axis tag =
    cond (ltb k 20) (want_items (top ks) k)
    (cond (ltb k 34) (have_items f ks k axis tag) (cond (eqb k 35) (unary 13 ∷ []) (cond (eqb k 36) [] (leaf 0 axis (unnamed_tag k) ∷ []))))

-- the end of the text
unfoldable pub end_items : ℕ → List ℕ → ℕ → ℕ → List Item
end_items f ks axis tag = pending f axis tag ++ close_items 0 ks (ltb 2 f)
