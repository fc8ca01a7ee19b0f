-- The lines of output (document 01: 'The job file'), as bytes.
use Rattle.std.specs.Prelude.{ℕ, zero, suc, ◌+◌, ◌/◌, ◌%◌, ◌≡◌, cond, List, [], ◌∷◌, ◌++◌, length, take, drop, ltb}

-- the decimal digits of a number below 10 to the k
unfoldable pub digits : ℕ → ℕ → List ℕ
digits zero n = []
digits (suc k) n = cond (ltb n 10) ((48 + n) ∷ []) (digits k (n / 10) ++ ((48 + n % 10) ∷ []))

-- a number in decimal
unfoldable pub decimal : ℕ → List ℕ
decimal n = digits (suc n) n

-- a number in decimal, and the byte that follows it
unfoldable pub field : ℕ → ℕ → List ℕ
field n byte = decimal n ++ (byte ∷ [])

-- what follows a number of a row, before these numbers: a space, or the line's end after the last
abbrev pub gap : List ℕ → ℕ
gap [] = 10
gap (y ∷ ys) = 32

-- the line of a row, which has at least one number: its numbers parted by one space
unfoldable pub row_line : List ℕ → List ℕ
row_line [] = []
row_line (x ∷ xs) = field x (gap xs) ++ row_line xs

-- the lines of the first n rows of k numbers
unfoldable pub row_lines : ℕ → ℕ → List ℕ → List ℕ
row_lines k zero rows = []
row_lines k (suc n) rows = row_line (take k rows) ++ row_lines k n (drop k rows)

-- 'end' and the number of rows
unfoldable pub end_line : ℕ → List ℕ
end_line n = (101 ∷ 110 ∷ 100 ∷ 32 ∷ []) ++ field n 10

-- 'refused', the number and the place
unfoldable pub refused_line : ℕ → ℕ → List ℕ
refused_line number place = (114 ∷ 101 ∷ 102 ∷ 117 ∷ 115 ∷ 101 ∷ 100 ∷ 32 ∷ []) ++ (field number 32 ++ field place 10)

-- a buffer with bytes written over it from a place on
unfoldable pub put : ℕ → List ℕ → List ℕ → List ℕ
put at bytes buffer = take at buffer ++ (bytes ++ drop (at + length bytes) buffer)

-- a call wrote these bytes at a place, and gave the place after them
pub record Wrote (bytes : List ℕ) (at : ℕ) (before after : List ℕ) (next : ℕ) : Type 0 where
  pub moved : next ≡ at + length bytes
  pub buffer : after ≡ put at bytes before
