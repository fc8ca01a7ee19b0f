-- The grammar of typed queries: expressions as they are written, what each looks like, and which of them may stand where. In the
-- words of docs/REFERENCE.md, each with the n and b for which `fits n b` has its expressions:
--
--     Path   = Inter (" union " Inter)*                      n = 3, b = false
--     Inter  = Rooted ((" intersect " | " except ") Rooted)*     4
--     Rooted = ["/" | "//"] Run                                  5
--     Run    = Step (("/" | "//") Step)*                         6
--     Step   = Prim ("[" Test "]")*                              7
--     Prim   = axis "::" ("*" | "node()" | name) | "." | ".." | "$0" | "$1" | "$2" | "(" Path ")" | "(" Path ")*"
--     Test   = Conj (" or " Conj)*                           n = 0, b = true
--     Conj   = Unit (" and " Unit)*                              1
--     Unit   = Path [" same " Path]                              2
--            | "not(" Test ")" | ". is $0" | ". is $1" | ". is $2" | "(" Test that is no whole Path ")"
use Rattle.std.specs.Prelude.{ℕ, zero, suc, ◌+◌, ◌≡◌, Bool, true, false, not, ◌&&◌, ◌||◌, List, [], ◌∷◌, ◌++◌, get_or, leb, eqb}
use Prim.Native.Char.{code}
use Prim.Native.String.{String, [] as end, ◌∷◌ as ◌then◌}

-- the bytes of a word
abbrev pub ascii : String → List ℕ
ascii end = []
ascii (c then s) = code c ∷ ascii s

-- a number is in a list
unfoldable pub elem : ℕ → List ℕ → Bool
elem x [] = false
elem x (y ∷ l) = eqb x y || elem x l

-- n numbers from k on
abbrev pub from : ℕ → ℕ → List ℕ
from k zero = []
from k (suc n) = k ∷ from (suc k) n

-- the axes by their codes, as they are written
unfoldable pub axis_word : ℕ → List ℕ
axis_word a =
    get_or
    (ascii "self::"
    ∷ ascii "child::"
    ∷ ascii "parent::"
    ∷ ascii "right::"
    ∷ ascii "left::"
    ∷ ascii "descendant::"
    ∷ ascii "ancestor::"
    ∷ ascii "following::"
    ∷ ascii "preceding::"
    ∷ ascii "following-sibling::"
    ∷ ascii "preceding-sibling::"
    ∷ ascii "descendant-or-self::"
    ∷ ascii "ancestor-or-self::"
    ∷ [])
    a
    []

-- the codes of the axes
unfoldable pub axes : List ℕ
axes = from 0 13

-- the numbers of the variables
unfoldable pub variables : List ℕ
variables = from 0 3

-- the bytes of a name: letters, digits, '-' and '_'
unfoldable pub name_bytes : List ℕ
name_bytes = from 97 26 ++ (from 65 26 ++ (from 48 10 ++ ascii "-_"))

-- a single or a double slash
pub data Slash : Type 0 where
  one : Slash
  two : Slash

-- the operators between two expressions
pub data Op : Type 0 where
  or : Op
  and : Op
  same : Op
  union : Op
  intersect : Op
  except : Op
  slash : Slash → Op

-- the tests of a step that are no names: '*' and 'node()'
pub data Wildcard : Type 0 where
  star : Wildcard
  node : Wildcard

-- expressions as they are written
pub data Expr : Type 0 where
  -- axis::* or axis::node(), and axis::name
  wildcard : ℕ → Wildcard → Expr
  named : ℕ → List ℕ → Expr
  -- '.', '..' and '$k'
  dot : Expr
  dots : Expr
  variable : ℕ → Expr
  -- (e), (e)*, not(e), '. is $k'
  bracket : Expr → Expr
  closure : Expr → Expr
  negate : Expr → Expr
  is : ℕ → Expr
  -- e[t]
  filter : Expr → Expr → Expr
  -- /e and //e
  rooted : Slash → Expr → Expr
  -- l o r
  join : Op → Expr → Expr → Expr

-- '/' and '//'
abbrev pub slash_word : Slash → List ℕ
slash_word one = ascii "/"
slash_word two = ascii "//"

-- what an operator looks like
abbrev pub word : Op → List ℕ
word or = ascii " or "
word and = ascii " and "
word same = ascii " same "
word union = ascii " union "
word intersect = ascii " intersect "
word except = ascii " except "
word (slash s) = slash_word s

-- '*' and 'node()'
abbrev pub wildcard_word : Wildcard → List ℕ
wildcard_word star = ascii "*"
wildcard_word node = ascii "node()"

-- what an expression looks like
unfoldable pub print : Expr → List ℕ
print (wildcard a w) = axis_word a ++ wildcard_word w
print (named a name) = axis_word a ++ name
print dot = ascii "."
print dots = ascii ".."
print (variable k) = ascii "$" ++ (48 + k) ∷ []
print (bracket e) = ascii "(" ++ (print e ++ ascii ")")
print (closure e) = ascii "(" ++ (print e ++ ascii ")*")
print (negate e) = ascii "not(" ++ (print e ++ ascii ")")
print (is k) = ascii ". is $" ++ (48 + k) ∷ []
print (filter e t) = print e ++ (ascii "[" ++ (print t ++ ascii "]"))
print (rooted s e) = slash_word s ++ print e
print (join o l r) = print l ++ (word o ++ print r)

-- how tightly an operator binds; a leading slash binds at 5, between those for sets and those between steps
abbrev pub level : Op → ℕ
level or = 0
level and = 1
level same = 2
level union = 3
level intersect = 4
level except = 4
level (slash s) = 6

-- how tightly its left operand binds at least: as it does itself, or tighter where it does not chain
abbrev pub left_level : Op → ℕ
left_level or = level or
left_level and = level and
left_level same = suc (level same)
left_level union = level union
left_level intersect = level intersect
left_level except = level except
left_level (slash s) = level (slash s)

-- it joins tests; the others join paths
abbrev pub logical : Op → Bool
logical or = true
logical and = true
logical same = false
logical union = false
logical intersect = false
logical except = false
logical (slash s) = false

-- it makes a test; the others make a path
abbrev pub makes_test : Op → Bool
makes_test or = true
makes_test and = true
makes_test same = true
makes_test union = false
makes_test intersect = false
makes_test except = false
makes_test (slash s) = false

-- all are bytes of a name
unfoldable pub all_name : List ℕ → Bool
all_name [] = true
all_name (b ∷ bs) = elem b name_bytes && all_name bs

-- a name: one byte or more
unfoldable pub is_name : List ℕ → Bool
is_name [] = false
is_name (b ∷ bs) = elem b name_bytes && all_name bs

-- e may stand where what stands there binds at n or tighter, and is a path unless b is set, which allows a test.
-- Operators of one level group leftwards: the left operand may bind as its operator does, the right one binds tighter; for `same`
-- both do. A leading slash takes a whole run of steps. A bracket is a path if it holds one, and else a test; with a star behind it,
-- it holds a path
unfoldable pub fits : ℕ → Bool → Expr → Bool
fits n b (wildcard a w) = elem a axes
fits n b (named a name) = elem a axes && is_name name
fits n b dot = true
fits n b dots = true
fits n b (variable k) = elem k variables
fits n b (bracket e) = fits 0 b e
fits n b (closure e) = fits 0 false e
fits n b (negate e) = b && fits 0 true e
fits n b (is k) = b && elem k variables
fits n b (filter e t) = fits 7 false e && fits 0 true t
fits n b (rooted s e) = leb n 5 && fits 6 false e
fits n b (join o l r) = leb n (level o) && ((not (makes_test o) || b) && (fits (left_level o) (logical o) l && fits (suc (level o)) (logical o) r))

-- the text is grammatical: it is what a path looks like. That path is its reading; it has no other (proofs/Theorems.antt)
pub record Grammatical (text : List ℕ) : Type 0 where
  pub path : Expr
  pub sound : fits 0 false path ≡ true
  pub looks : print path ≡ text

-- some grammatical text begins with c
abbrev pub Viable : List ℕ → Type 0
Viable c = (rest : List ℕ) × Grammatical (c ++ rest)
