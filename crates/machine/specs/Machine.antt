-- The reading of typed queries as the code does it: a focus and a stack of bytes in place of expressions.
use Rattle.std.specs.Prelude.{ℕ, zero, suc, ◌-◌, Bool, true, false, not, ◌&&◌, ◌||◌, cond, List, [], ◌∷◌, ◌++◌, length, drop, get_or, replicate, leb, ltb, eqb}
use Rattle.machine.specs.declared.Move.{Move}
use Rattle.std.specs.Prelude.{Result, Ok, Err}
use Rattle.machine.specs.declared.Word.{Word}
use Rattle.words.specs.Words.{slot, scan_from, word_table}
use Rattle.grammar.specs.Grammar.{Op, elem, name_bytes}
use Rattle.grammar.specs.Grammar.Slash.{one, two}
use Rattle.grammar.specs.Grammar.Op.{or, and, same, union, intersect, except, slash}
use Rattle.grammar.specs.Automaton.{Frame, Focus, takes_test, is_path, is_dot, is_group, is_named, name_of}
use Rattle.grammar.specs.Automaton.Frame.{left, lead, paren, negation, test}
use Rattle.grammar.specs.Automaton.Focus.{want, axis, have}

-- gaps as bytes: the operators 0 to 7, a leading slash 8, the gap of the first step behind a leading '//' 9 (it is composed with the
-- step that '//' stands for, and stands over an 8), a bracket 10 where it takes paths only and else 11, 'not(' 12, '[' 13
abbrev pub op_code : Op → ℕ
op_code or = 0
op_code and = 1
op_code same = 2
op_code union = 3
op_code intersect = 4
op_code except = 5
op_code (slash one) = 6
op_code (slash two) = 7

-- '/' and '//' join steps
abbrev pub is_slash : Op → Bool
is_slash or = false
is_slash and = false
is_slash same = false
is_slash union = false
is_slash intersect = false
is_slash except = false
is_slash (slash s) = true

-- the gaps, innermost first; in a run of steps (the flag) the first step behind a leading '//' has been composed, and its gap closed
unfoldable pub codes_in : Bool → List Frame → List ℕ
codes_in run [] = []
codes_in run (left l o ∷ fs) = op_code o ∷ codes_in (is_slash o) fs
codes_in run (lead one ∷ fs) = 8 ∷ codes_in false fs
codes_in run (lead two ∷ fs) = cond run (8 ∷ codes_in false fs) (9 ∷ 8 ∷ codes_in false fs)
codes_in run (paren ∷ fs) = cond (takes_test fs) 11 10 ∷ codes_in false fs
codes_in run (negation ∷ fs) = 12 ∷ codes_in false fs
codes_in run (test e ∷ fs) = 13 ∷ codes_in false fs

-- the gaps of a state: nothing has been composed in the innermost yet
abbrev pub codes : List Frame → List ℕ
codes fs = codes_in false fs

-- the focus behind one letter more of a name, where it was f before: the names that "node" begins with, and "node" itself, have 7 to 10
unfoldable pub letter_focus : ℕ → ℕ → ℕ
letter_focus f b =
    cond (eqb f 1 && eqb b 110) 7 (cond (eqb f 7 && eqb b 111) 8 (cond (eqb f 8 && eqb b 100) 9 (cond (eqb f 9 && eqb b 101) 10 6)))

-- behind some letters more
unfoldable pub letters_focus : ℕ → List ℕ → ℕ
letters_focus f [] = f
letters_focus f (b ∷ bs) = letters_focus (letter_focus f b) bs

-- behind a whole name; none is empty
unfoldable pub name_focus : List ℕ → ℕ
name_focus [] = 6
name_focus (b ∷ bs) = letters_focus (letter_focus 1 b) bs

-- the focus: an expression is wanted 0, an axis was read 1; there is a node expression 2, a path 3, a bracket that holds a path 4, '.' 5,
-- a name 6, the names "n", "no", "nod" and "node" 7 to 10
unfoldable pub focus_code : Focus → ℕ
focus_code want = 0
focus_code (axis a) = 1
focus_code (have e) = cond (is_named e) (name_focus (name_of e)) (cond (is_dot e) 5 (cond (is_group e) 4 (cond (is_path e) 3 2)))

-- the innermost gap, or 14
abbrev pub top : List ℕ → ℕ
top [] = 14
top (k ∷ ks) = k

-- a gap takes a node expression
abbrev pub takes : ℕ → Bool
takes k = ltb k 2 || (ltb 10 k && ltb k 14)

-- a slash may come in it
abbrev pub slashes : ℕ → Bool
slashes k = not (eqb k 7) && not (eqb k 9)

-- it closes before what binds at n to its left
abbrev pub binds : ℕ → ℕ → Bool
binds n k = ltb k 10 && leb n (get_or (0 ∷ 1 ∷ 2 ∷ 3 ∷ 4 ∷ 4 ∷ 6 ∷ 6 ∷ 5 ∷ 6 ∷ []) k 0)

-- how many gaps close before what binds at n to its left
unfoldable pub pops : ℕ → List ℕ → ℕ
pops n [] = 0
pops n (k ∷ ks) = cond (binds n k) (suc (pops n ks)) 0

-- whether a path then stands in the innermost, where p says it of what stood there before
unfoldable pub sort : ℕ → List ℕ → Bool → Bool
sort n [] p = p
sort n (k ∷ ks) p = cond (binds n k) (sort n ks (not (ltb k 3))) p

-- a step of the machine: the new focus, how many gaps close, and the one that opens, or 14
abbrev pub mv : ℕ → ℕ → ℕ → Move
mv f p k = record { focus = f; pops = p; push = k }

-- a gap opens, unless it is 14
abbrev pub pushed : ℕ → List ℕ → List ℕ
pushed k ks = cond (ltb k 14) (k ∷ ks) ks

-- the gaps after a step
abbrev pub moved : Move → List ℕ → List ℕ
moved m ks = pushed m.push (drop m.pops ks)

-- which words may come where an expression is wanted
unfoldable pub want_may : ℕ → List Bool
want_may t = replicate 18 true ++ (takes t ∷ slashes t ∷ replicate 16 false)

-- a slash there: it doubles one, or leads
abbrev pub slash_move : ℕ → Move
slash_move t = cond (eqb t 6) (mv 0 1 7) (cond (eqb t 8) (mv 0 0 9) (mv 0 0 8))

-- the step that word k makes there, t the innermost gap
unfoldable pub want_move : ℕ → ℕ → Move
want_move t k =
    cond (ltb k 13) (mv 1 0 14)
    (cond (ltb k 16) (mv 3 0 14)
    (cond (eqb k 16) (mv 5 0 14)
    (cond (eqb k 17) (mv 0 0 (cond (takes t) 11 10))
    (cond (eqb k 18) (mv 0 0 12) (slash_move t)))))

-- which words may come behind an expression: f the focus, outer the innermost gap, and inner, both and pair the innermost where those
-- have closed that close before ' or ', ' and ' and ' same '
abbrev pub have_flags : ℕ → ℕ → ℕ → ℕ → ℕ → List Bool
have_flags f outer inner both pair =
    replicate 20 false
    ++ ((eqb f 5 && takes outer) ∷ (eqb f 5 && takes outer) ∷ (eqb f 5 && takes outer) ∷ eqb f 5 ∷ ltb 2 f ∷ eqb inner 13 ∷ (ltb 9 inner && ltb inner 13)
    ∷ takes inner ∷ takes both ∷ (ltb 2 f && takes pair) ∷ ltb 2 f ∷ ltb 2 f ∷ ltb 2 f ∷ ltb 2 f ∷ eqb f 10 ∷ eqb f 4 ∷ [])

-- the same of the gaps ks
unfoldable pub have_may : ℕ → List ℕ → List Bool
have_may f ks = have_flags f (top ks) (top (drop (pops 0 ks) ks)) (top (drop (pops 1 ks) ks)) (top (drop (pops 3 ks) ks))

-- what a bracket is, closed over a path or a node expression
abbrev pub bracket_focus : ℕ → Bool → ℕ
bracket_focus inner path = cond (eqb inner 12) 2 (cond path 4 2)

-- the step of ']' and ')'
abbrev pub close_move : ℕ → List ℕ → ℕ → Move
close_move f ks k =
    cond (eqb k 25) (mv 3 (suc (pops 0 ks)) 14) (mv (bracket_focus (top (drop (pops 0 ks) ks)) (sort 0 ks (ltb 2 f))) (suc (pops 0 ks)) 14)

-- the step of an operator: the gaps close that bind as its left operand does
abbrev pub join_move : List ℕ → ℕ → Move
join_move ks k = mv 0 (pops (get_or (0 ∷ 1 ∷ 3 ∷ 3 ∷ 4 ∷ 4 ∷ 6 ∷ []) (k - 27) 0) ks) (k - 27)

-- the step that word k makes behind an expression
unfoldable pub have_move : ℕ → List ℕ → ℕ → Move
have_move f ks k =
    cond (ltb k 23) (mv 2 0 14)
    (cond (eqb k 23 || ltb 33 k) (mv 3 0 14)
    (cond (eqb k 24) (mv 0 0 13)
    (cond (ltb k 27) (close_move f ks k) (join_move ks k))))

-- the gaps that stand on the stack's first d bytes, innermost first
unfoldable pub stack_of : List ℕ → ℕ → List ℕ
stack_of a zero = []
stack_of a (suc d) = get_or a d 0 ∷ stack_of a d

-- a turn: the word that is read, its step and its length; or how many bytes are read before no text goes on
abbrev pub Turn : Type 0
Turn = Result Word ℕ

-- a word is read
abbrev pub reads : ℕ → Move → ℕ → Turn
reads k m n = Ok (record { number = k; step = m; len = n })

-- a turn: the word that is found, the step that it makes and its length; or how many bytes are read before it stops
abbrev pub of_scan : Result ℕ ℕ → (ℕ → Move) → Turn
of_scan (Ok k) move = reads k (move k) (length (slot word_table k))
of_scan (Err p) move = Err p

-- where an expression is wanted
abbrev pub want_turn : List ℕ → List ℕ → Turn
want_turn ks t = of_scan (scan_from word_table (want_may (top ks)) t 0 20 0) (want_move (top ks))

-- at byte b of a name: word 36
abbrev pub letter_turn : ℕ → ℕ → Turn
letter_turn f b = reads 36 (mv (letter_focus f b) 0 14) 1

-- behind an axis, at byte b: a byte of a name, or the star, word 37
abbrev pub axis_turn : ℕ → Turn
axis_turn b = cond (elem b name_bytes) (letter_turn 1 b) (cond (eqb b 42) (reads 37 (mv 3 0 14) 1) (Err 0))

-- behind an expression, where its name goes on no longer
abbrev pub have_turn : ℕ → List ℕ → List ℕ → Turn
have_turn f ks t = of_scan (scan_from word_table (have_may f ks) t 20 16 0) (have_move f ks)

-- a turn of the machine at the front of a text, by the focus
unfoldable pub turn_of : ℕ → List ℕ → List ℕ → Turn
turn_of f ks t =
    cond (eqb f 0) (want_turn ks t)
    (cond (eqb f 1) (axis_turn (get_or t 0 0)) (cond (ltb 5 f && elem (get_or t 0 0) name_bytes) (letter_turn f (get_or t 0 0)) (have_turn f ks t)))

-- the text may end: an expression stands there, and all gaps close
abbrev pub may_end : ℕ → List ℕ → Bool
may_end f ks = ltb 1 f && eqb (pops 0 ks) (length ks)
