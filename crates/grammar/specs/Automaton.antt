-- The reading of typed queries: what may come next after each beginning of a text. This is how a verdict and a tree are found;
-- that they are the grammar's is proved (proofs/Theorems.antt).
use Rattle.std.specs.Prelude.{ℕ, suc, ◌+◌, Bool, true, false, not, ◌&&◌, ◌||◌, cond, List, [], ◌∷◌, ◌++◌, leb}
use Rattle.model.specs.Lists.{equal}
use Rattle.grammar.specs.Grammar.{Expr, Op, Slash, ascii, axes, axis_word, variables, name_bytes, level, left_level, logical, makes_test, word}
use Rattle.grammar.specs.Grammar.Slash.{one, two}
use Rattle.grammar.specs.Grammar.Wildcard.{star, node}
use Rattle.grammar.specs.Grammar.Op.{or, and, same, union, intersect, except, slash}
use Rattle.grammar.specs.Grammar.Expr.{wildcard, named, dot, dots, variable, bracket, closure, negate, is, filter, rooted, join}
use Rattle.grammar.specs.Online.{Choice, Place, run, reach}
use Rattle.grammar.specs.Online.Choice.{choice}

-- an expression with a gap at its end, in which the rest of the text begins
pub data Frame : Type 0 where
  -- l o _
  left : Expr → Op → Frame
  -- /_ and //_
  lead : Slash → Frame
  -- (_, not(_ and e[_
  paren : Frame
  negation : Frame
  test : Expr → Frame

-- in the innermost gap: an expression is wanted; its axis has been read; or it has been read as far as filters go
pub data Focus : Type 0 where
  want : Focus
  axis : ℕ → Focus
  have : Expr → Focus

-- the gaps, innermost first, and what is in the innermost
pub data State : Type 0 where
  state : List Frame → Focus → State

-- a gap takes a test
abbrev pub takes_test : List Frame → Bool
takes_test [] = false
takes_test (left l o ∷ fs) = logical o
takes_test (lead s ∷ fs) = false
takes_test (paren ∷ fs) = takes_test fs
takes_test (negation ∷ fs) = true
takes_test (test e ∷ fs) = true

-- how tightly what stands in a gap must bind
abbrev pub floor : List Frame → ℕ
floor [] = 0
floor (left l o ∷ fs) = suc (level o)
floor (lead s ∷ fs) = 6
floor (paren ∷ fs) = 0
floor (negation ∷ fs) = 0
floor (test e ∷ fs) = 0

-- the gaps that are left when those are closed that bind at n or tighter
unfoldable pub opened : ℕ → List Frame → List Frame
opened n [] = []
opened n (left l o ∷ fs) = cond (leb n (level o)) (opened n fs) (left l o ∷ fs)
opened n (lead s ∷ fs) = cond (leb n 5) (opened n fs) (lead s ∷ fs)
opened n (paren ∷ fs) = paren ∷ fs
opened n (negation ∷ fs) = negation ∷ fs
opened n (test e ∷ fs) = test e ∷ fs

-- what then stands in the innermost, where e stood before
unfoldable pub closed : ℕ → List Frame → Expr → Expr
closed n [] e = e
closed n (left l o ∷ fs) e = cond (leb n (level o)) (closed n fs (join o l e)) e
closed n (lead s ∷ fs) e = cond (leb n 5) (closed n fs (rooted s e)) e
closed n (paren ∷ fs) e = e
closed n (negation ∷ fs) e = e
closed n (test x ∷ fs) e = e

-- an expression is a path
unfoldable pub is_path : Expr → Bool
is_path (wildcard a w) = true
is_path (named a name) = true
is_path dot = true
is_path dots = true
is_path (variable k) = true
is_path (bracket e) = is_path e
is_path (closure e) = true
is_path (negate e) = false
is_path (is k) = false
is_path (filter e t) = true
is_path (rooted s e) = true
is_path (join o l r) = not (makes_test o)

-- '.', behind which another '.' or ' is $k' may come
abbrev pub is_dot : Expr → Bool
is_dot (wildcard a w) = false
is_dot (named a name) = false
is_dot dot = true
is_dot dots = false
is_dot (variable k) = false
is_dot (bracket e) = false
is_dot (closure e) = false
is_dot (negate e) = false
is_dot (is k) = false
is_dot (filter e t) = false
is_dot (rooted s e) = false
is_dot (join o l r) = false

-- an axis with a name, which may go on
abbrev pub is_named : Expr → Bool
is_named (wildcard a w) = false
is_named (named a name) = true
is_named dot = false
is_named dots = false
is_named (variable k) = false
is_named (bracket e) = false
is_named (closure e) = false
is_named (negate e) = false
is_named (is k) = false
is_named (filter e t) = false
is_named (rooted s e) = false
is_named (join o l r) = false

-- its axis; what stands for that of anything else is of no account
abbrev pub axis_of : Expr → ℕ
axis_of (wildcard a w) = 0
axis_of (named a name) = a
axis_of dot = 0
axis_of dots = 0
axis_of (variable k) = 0
axis_of (bracket e) = 0
axis_of (closure e) = 0
axis_of (negate e) = 0
axis_of (is k) = 0
axis_of (filter e t) = 0
axis_of (rooted s e) = 0
axis_of (join o l r) = 0

-- its name, likewise
abbrev pub name_of : Expr → List ℕ
name_of (wildcard a w) = []
name_of (named a name) = name
name_of dot = []
name_of dots = []
name_of (variable k) = []
name_of (bracket e) = []
name_of (closure e) = []
name_of (negate e) = []
name_of (is k) = []
name_of (filter e t) = []
name_of (rooted s e) = []
name_of (join o l r) = []

-- a name with one byte more
abbrev pub longer : Expr → ℕ → Expr
longer e b = named (axis_of e) (name_of e ++ b ∷ [])

-- an axis with the name 'node', behind which '()' may come
abbrev pub is_node : Expr → Bool
is_node e = is_named e && equal (name_of e) (ascii "node")

-- the same with '()', which is a name no longer
abbrev pub as_node : Expr → Expr
as_node e = wildcard (axis_of e) node

-- a bracket that holds a path, behind which '*' may come
abbrev pub is_group : Expr → Bool
is_group (wildcard a w) = false
is_group (named a name) = false
is_group dot = false
is_group dots = false
is_group (variable k) = false
is_group (bracket e) = is_path e
is_group (closure e) = false
is_group (negate e) = false
is_group (is k) = false
is_group (filter e t) = false
is_group (rooted s e) = false
is_group (join o l r) = false

-- what it holds; what stands for that of anything else is of no account
abbrev pub inside : Expr → Expr
inside (wildcard a w) = dot
inside (named a name) = dot
inside dot = dot
inside dots = dot
inside (variable k) = dot
inside (bracket e) = e
inside (closure e) = dot
inside (negate e) = dot
inside (is k) = dot
inside (filter e t) = dot
inside (rooted s e) = dot
inside (join o l r) = dot

-- the same with '*'
abbrev pub as_closure : Expr → Expr
as_closure e = closure (inside e)

-- '/' may come where an expression is wanted: it doubles a slash, or leads
abbrev pub may_slash : List Frame → Bool
may_slash [] = true
may_slash (left l or ∷ fs) = true
may_slash (left l and ∷ fs) = true
may_slash (left l same ∷ fs) = true
may_slash (left l union ∷ fs) = true
may_slash (left l intersect ∷ fs) = true
may_slash (left l except ∷ fs) = true
may_slash (left l (slash one) ∷ fs) = true
may_slash (left l (slash two) ∷ fs) = false
may_slash (lead one ∷ fs) = true
may_slash (lead two ∷ fs) = false
may_slash (paren ∷ fs) = true
may_slash (negation ∷ fs) = true
may_slash (test e ∷ fs) = true

-- the gaps after it
abbrev pub slashed : List Frame → List Frame
slashed [] = lead one ∷ []
slashed (left l or ∷ fs) = lead one ∷ left l or ∷ fs
slashed (left l and ∷ fs) = lead one ∷ left l and ∷ fs
slashed (left l same ∷ fs) = lead one ∷ left l same ∷ fs
slashed (left l union ∷ fs) = lead one ∷ left l union ∷ fs
slashed (left l intersect ∷ fs) = lead one ∷ left l intersect ∷ fs
slashed (left l except ∷ fs) = lead one ∷ left l except ∷ fs
slashed (left l (slash s) ∷ fs) = left l (slash two) ∷ fs
slashed (lead s ∷ fs) = lead two ∷ fs
slashed (paren ∷ fs) = lead one ∷ paren ∷ fs
slashed (negation ∷ fs) = lead one ∷ negation ∷ fs
slashed (test e ∷ fs) = lead one ∷ test e ∷ fs

-- ')' may come, where these gaps are left when all is closed that can be
abbrev pub may_paren : List Frame → Bool
may_paren [] = false
may_paren (left l o ∷ fs) = false
may_paren (lead s ∷ fs) = false
may_paren (paren ∷ fs) = true
may_paren (negation ∷ fs) = true
may_paren (test e ∷ fs) = false

-- the state after it, where e stands in the innermost
abbrev pub parenthesised : List Frame → Expr → State
parenthesised [] e = state [] (have e)
parenthesised (left l o ∷ fs) e = state fs (have e)
parenthesised (lead s ∷ fs) e = state fs (have e)
parenthesised (paren ∷ fs) e = state fs (have (bracket e))
parenthesised (negation ∷ fs) e = state fs (have (negate e))
parenthesised (test x ∷ fs) e = state fs (have e)

-- ']' may come, likewise
abbrev pub may_filter : List Frame → Bool
may_filter [] = false
may_filter (left l o ∷ fs) = false
may_filter (lead s ∷ fs) = false
may_filter (paren ∷ fs) = false
may_filter (negation ∷ fs) = false
may_filter (test e ∷ fs) = true

-- the state after it
abbrev pub filtered : List Frame → Expr → State
filtered [] e = state [] (have e)
filtered (left l o ∷ fs) e = state fs (have e)
filtered (lead s ∷ fs) e = state fs (have e)
filtered (paren ∷ fs) e = state fs (have e)
filtered (negation ∷ fs) e = state fs (have e)
filtered (test x ∷ fs) e = state fs (have (filter x e))

-- an operator may come behind e: behind a path, unless it joins tests; and where a test may stand, if it makes one
unfoldable pub may_join : Op → List Frame → Expr → Bool
may_join o fs e = (logical o || is_path e) && (not (makes_test o) || takes_test (opened (left_level o) fs))

-- the state after it
unfoldable pub joined : Op → List Frame → Expr → State
joined o fs e = state (left (closed (left_level o) fs e) o ∷ opened (left_level o) fs) want

-- a choice for each number of a list
unfoldable pub each : {X : Type 0} → (ℕ → Choice X) → List ℕ → List (Choice X) → List (Choice X)
each f [] l = l
each f (k ∷ ks) l = f k ∷ each f ks l

-- an axis, where an expression is wanted
abbrev pub axis_choice : List Frame → ℕ → Choice State
axis_choice fs a = choice true (axis_word a) (state fs (axis a))

-- a variable
abbrev pub variable_choice : List Frame → ℕ → Choice State
variable_choice fs k = choice true (ascii "$" ++ (48 + k) ∷ []) (state fs (have (variable k)))

-- the first byte of a name, behind its axis
abbrev pub name_choice : List Frame → ℕ → ℕ → Choice State
name_choice fs a b = choice true (b ∷ []) (state fs (have (named a (b ∷ []))))

-- one byte more of a name
abbrev pub longer_choice : List Frame → Expr → ℕ → Choice State
longer_choice fs e b = choice (is_named e) (b ∷ []) (state fs (have (longer e b)))

-- ' is $k' behind a '.'
abbrev pub is_choice : List Frame → Expr → ℕ → Choice State
is_choice fs e k = choice (is_dot e && takes_test fs) (ascii " is $" ++ (48 + k) ∷ []) (state fs (have (is k)))

-- an operator
abbrev pub join_choice : List Frame → Expr → Op → Choice State
join_choice fs e o = choice (may_join o fs e) (word o) (joined o fs e)

-- the words that may come behind an expression, save a name's next byte and ' is $k', and the state after each
abbrev pub onwards : List Frame → Expr → List (Choice State)
onwards fs e =
    choice (is_dot e) (ascii ".") (state fs (have dots))
    ∷ choice (is_path e) (ascii "[") (state (test e ∷ fs) want)
    ∷ choice (may_filter (opened 0 fs)) (ascii "]") (filtered (opened 0 fs) (closed 0 fs e))
    ∷ choice (may_paren (opened 0 fs)) (ascii ")") (parenthesised (opened 0 fs) (closed 0 fs e))
    ∷ join_choice fs e or
    ∷ join_choice fs e and
    ∷ join_choice fs e same
    ∷ join_choice fs e union
    ∷ join_choice fs e intersect
    ∷ join_choice fs e except
    ∷ join_choice fs e (slash one)
    ∷ choice (is_node e) (ascii "()") (state fs (have (as_node e)))
    ∷ choice (is_group e) (ascii "*") (state fs (have (as_closure e)))
    ∷ []

-- the same with ' is $k'
abbrev pub behind : List Frame → Expr → List (Choice State)
behind fs e = each (is_choice fs e) variables (onwards fs e)

-- the words that may come next
unfoldable pub next : State → List (Choice State)
next (state fs want) =
    each (axis_choice fs) axes
    (each (variable_choice fs) variables
    (choice true (ascii ".") (state fs (have dot))
    ∷ choice true (ascii "(") (state (paren ∷ fs) want)
    ∷ choice (takes_test fs) (ascii "not(") (state (negation ∷ fs) want)
    ∷ choice (may_slash fs) (ascii "/") (state (slashed fs) want)
    ∷ []))
next (state fs (axis a)) =
    each (name_choice fs a) name_bytes (choice true (ascii "*") (state fs (have (wildcard a star))) ∷ [])
next (state fs (have e)) = each (longer_choice fs e) name_bytes (behind fs e)

-- the beginning of every text
abbrev pub start : State
start = state [] want

-- a whole text, read
pub data Outcome : Type 0 where
  accepted : Expr → Outcome
  refused : Outcome

-- accepted if no gap is left
abbrev pub whole : List Frame → Expr → Outcome
whole [] e = accepted e
whole (f ∷ fs) e = refused

-- the text ends in a state: all gaps are closed that can be
abbrev pub outcome_at : State → Outcome
outcome_at (state fs want) = refused
outcome_at (state fs (axis a)) = refused
outcome_at (state fs (have e)) = whole (opened 0 fs) (closed 0 fs e)

-- the text ends at a place
abbrev pub outcome_of : Place State → Outcome
outcome_of Place.dead = refused
outcome_of (Place.between s) = outcome_at s
outcome_of (Place.within l) = refused

-- a text was accepted
abbrev pub is_accepted : Outcome → Bool
is_accepted (accepted e) = true
is_accepted refused = false

-- the text is accepted
unfoldable pub readable : List ℕ → Bool
readable text = is_accepted (outcome_of (run next (Place.between start) text))

-- the place of refusal 24: the first byte with which no grammatical text goes on, or the length
unfoldable pub stops_at : List ℕ → ℕ
stops_at text = reach next (Place.between start) text
