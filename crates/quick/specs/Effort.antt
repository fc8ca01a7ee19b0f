-- How many evaluations the search for the rows of a page takes: one for each number that is tried for a variable.
use Rattle.std.specs.Prelude.{ℕ, zero, suc, ◌+◌, ◌-◌, cond, List, [], ◌∷◌, eqb, drop, get_or}
use Rattle.model.specs.declared.Cursor.{Cursor}
use Rattle.model.specs.Answers.{Row}
use Rattle.model.specs.Pages.{row_of, has_begun}

-- no variable of r has a higher number that goes on: for each variable the numbers above its own are tried, of n
abbrev pub climbed : ℕ → Row → ℕ
climbed n [] = 0
climbed n (a ∷ r) = (n - suc a) + climbed n r

-- the variables of s are filled one after the other: for each the numbers from 0 to its own are tried
abbrev pub descended : Row → ℕ
descended [] = 0
descended (b ∷ s) = suc b + descended s

-- s is found after r: up from the last variable to the first in which they differ, there from r's number to that of s, and down again
abbrev pub stepped : ℕ → Row → Row → ℕ
stepped n [] s = 0
stepped n (a ∷ r) [] = 0
stepped n (a ∷ r) (b ∷ s) = cond (eqb a b) (stepped n r s) (climbed n r + ((b - a) + descended s))

-- the first row after r is sought, where these are the rows after r
abbrev pub sought : ℕ → Row → List Row → ℕ
sought n r [] = climbed n r
sought n r (s ∷ rows) = stepped n r s

-- the first of all rows is sought, where these are they: one evaluation tells whether there is one
abbrev pub sought_first : List Row → ℕ
sought_first [] = 1
sought_first (s ∷ rows) = 1 + descended s

-- the first row after the cursor is sought, where these are the rows after it
abbrev pub sought_after : ℕ → ℕ → Cursor → List Row → ℕ
sought_after n k c rows = cond (has_begun c) (sought n (row_of k c) rows) (sought_first rows)

-- a page after the cursor writes m of the rows after it: the first row is sought, and after each row written the next one; the last
-- of these searches tells the flag (document 02: as many for the flag)
abbrev pub effort : ℕ → ℕ → Cursor → List Row → ℕ → ℕ
effort n k c rows zero = sought_after n k c rows
effort n k c rows (suc m) = effort n k c rows m + sought n (get_or rows m []) (drop (suc m) rows)
