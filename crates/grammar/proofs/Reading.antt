-- Every grammatical text is read, and what is read is the path that it was printed from.
use Prim.Native.Nat.{ℕ, suc, ◌+◌, ◌≤◌}
use native.Mathlib.Omega.{arith}
use mathlib.Core.Path.{◌≡◌, refl, sym, ap, ◌∙◌, subst}
use mathlib.Core.Logic.{⊎_elim}
use mathlib.Core.Logic.◌⊎◌.{inl, inr}
use mathlib.Core.Bool.{Bool, true, false, not, ◌&&◌, ◌||◌}
use mathlib.Core.List.{List, [], ◌∷◌, ◌++◌, append_assoc, append-nil}
use lib.Dec.{leb, eqb}
use borrow.Author.Tests.{eqb-true, leb-true, le-leb, lt-leb}
use Rattle.model.proofs.Booleans.{no_yes, yes_left, yes_right, both_yes, or_cases}
use Rattle.model.specs.Lists.{equal}
use Rattle.grammar.specs.Grammar.{Expr, Op, Slash, ascii, elem, axes, axis_word, variables, name_bytes, all_name, is_name, level, left_level, logical, makes_test, word, print, fits}
use Rattle.grammar.specs.Grammar.Slash.{one, two}
use Rattle.grammar.specs.Grammar.Wildcard.{star, node}
use Rattle.grammar.specs.Grammar.Op.{or, and, same, union, intersect, except, slash}
use Rattle.grammar.specs.Grammar.Expr.{wildcard, named, dot, dots, variable, bracket, closure, negate, is, filter, rooted, join}
use Rattle.grammar.specs.Online.{Choice, Place, run}
use Rattle.grammar.specs.Online.Choice.{choice}
use Rattle.grammar.specs.Online.Place.{between}
use Rattle.grammar.specs.Automaton.{onwards, Frame, State, takes_test, floor, opened, closed, is_path, may_slash, slashed, may_filter, filtered, may_paren, parenthesised, may_join, joined, each, axis_choice, variable_choice, name_choice, longer_choice, is_choice, next, start, outcome_of}
use Rattle.grammar.specs.Automaton.Frame.{left, lead, paren, negation, test}
use Rattle.grammar.specs.Automaton.Focus.{want, axis, have}
use Rattle.grammar.specs.Automaton.State.{state}
use Rattle.grammar.specs.Automaton.Outcome.{accepted}
use Rattle.grammar.proofs.Online.{Offers, prefix_free, none_empty, reads, run_append, offers_first, offers_later}

-- in every state, no word begins with another, and none is empty

pub free : (s : State) → prefix_free (next s) ≡ true
unfolding next each axes axis_word variables name_bytes
free (state fs want) = refl
free (state fs (axis a)) = refl
free (state fs (have e)) = refl

pub filled : (s : State) → none_empty (next s) ≡ true
unfolding next each axes axis_word variables name_bytes
filled (state fs want) = refl
filled (state fs (axis a)) = refl
filled (state fs (have e)) = refl

-- reading: from the state s, the bytes w lead to the state t
abbrev pub Reads : State → List ℕ → State → Type 0
Reads s w t = run next (between s) w ≡ between t

pub token : (s t : State) (w : List ℕ) → Offers (next s) w t → Reads s w t
token s t w o = reads next s t w (free s) (filled s) o

then : (s t u : State) (v w : List ℕ) → Reads s v t → Reads t w u → Reads s (v ++ w) u
then s t u v w p q = run_append next (between s) v w ∙ ap (λ (k : Place State). run next k w) p ∙ q

pub each_skip : {X : Type 0} (f : ℕ → Choice X) (ks : List ℕ) (l : List (Choice X)) (w : List ℕ) (x : X) → Offers l w x → Offers (each f ks l) w x
unfolding each
each_skip f [] l w x h = h
each_skip f (k ∷ ks) l w x h = offers_later (f k) (each f ks l) w x (each_skip f ks l w x h)

pub each_at : {X : Type 0} (f : ℕ → Choice X) (ks : List ℕ) (l : List (Choice X)) (w : List ℕ) (x : X) (k : ℕ)
    → elem k ks ≡ true → Offers (f k ∷ []) w x → Offers (each f ks l) w x
unfolding each elem
each_at f [] l w x k e h = no_yes refl e
each_at f (y ∷ ks) l w x k e h =
    ⊎_elim
    (λ p. offers_first (f y) (each f ks l) w x (subst (λ (i : ℕ). Offers (f i ∷ []) w x) (eqb-true k y p) h))
    (λ p. offers_later (f y) (each f ks l) w x (each_at f ks l w x k p h))
    (or_cases (eqb k y) (elem k ks) e)

-- the words of each state

module _ (fs : List Frame) where
  wants : (w : List ℕ) (t : State)
      → Offers
      (choice true (ascii ".") (state fs (have dot))
      ∷ choice true (ascii "(") (state (paren ∷ fs) want)
      ∷ choice (takes_test fs) (ascii "not(") (state (negation ∷ fs) want)
      ∷ choice (may_slash fs) (ascii "/") (state (slashed fs) want)
      ∷ []) w t
      → Reads (state fs want) w t
  unfolding next
  wants w t o =
      token (state fs want) t w
      (each_skip (axis_choice fs) axes _ w t (each_skip (variable_choice fs) variables _ w t o))

  read_dot : Reads (state fs want) (ascii ".") (state fs (have dot))
  read_dot = wants _ _ (inl (refl, refl, refl))

  read_open : Reads (state fs want) (ascii "(") (state (paren ∷ fs) want)
  read_open = wants _ _ (inr (inl (refl, refl, refl)))

  read_not : takes_test fs ≡ true → Reads (state fs want) (ascii "not(") (state (negation ∷ fs) want)
  read_not h = wants _ _ (inr (inr (inl (h, refl, refl))))

  read_slash : (gs : List Frame) → may_slash fs ≡ true → slashed fs ≡ gs → Reads (state fs want) (ascii "/") (state gs want)
  read_slash gs h e = wants _ _ (inr (inr (inr (inl (h, refl, ap (λ (l : List Frame). state l want) e)))))

  read_axis : (a : ℕ) → elem a axes ≡ true → Reads (state fs want) (axis_word a) (state fs (axis a))
  unfolding next
  read_axis a h =
      token (state fs want) (state fs (axis a)) (axis_word a)
      (each_at (axis_choice fs) axes _ (axis_word a) (state fs (axis a)) a h (inl (refl, refl, refl)))

  read_variable : (k : ℕ) → elem k variables ≡ true → Reads (state fs want) (print (variable k)) (state fs (have (variable k)))
  unfolding next print
  read_variable k h =
      token (state fs want) (state fs (have (variable k))) (print (variable k))
      (each_skip (axis_choice fs) axes _ (print (variable k)) (state fs (have (variable k)))
      (each_at (variable_choice fs) variables _ (print (variable k)) (state fs (have (variable k))) k h (inl (refl, refl, refl))))

  read_star : (a : ℕ) → Reads (state fs (axis a)) (ascii "*") (state fs (have (wildcard a star)))
  unfolding next
  read_star a =
      token (state fs (axis a)) (state fs (have (wildcard a star))) (ascii "*")
      (each_skip (name_choice fs a) name_bytes _ (ascii "*") (state fs (have (wildcard a star))) (inl (refl, refl, refl)))

  read_name : (a b : ℕ) → elem b name_bytes ≡ true → Reads (state fs (axis a)) (b ∷ []) (state fs (have (named a (b ∷ []))))
  unfolding next
  read_name a b h =
      token (state fs (axis a)) (state fs (have (named a (b ∷ [])))) (b ∷ [])
      (each_at (name_choice fs a) name_bytes _ (b ∷ []) (state fs (have (named a (b ∷ [])))) b h (inl (refl, refl, refl)))

  read_longer : (a b : ℕ) (name : List ℕ) → elem b name_bytes ≡ true → Reads (state fs (have (named a name))) (b ∷ []) (state fs (have (named a (name ++ b ∷ []))))
  unfolding next
  read_longer a b name h =
      token (state fs (have (named a name))) (state fs (have (named a (name ++ b ∷ [])))) (b ∷ [])
      (each_at (longer_choice fs (named a name)) name_bytes _ (b ∷ []) (state fs (have (named a (name ++ b ∷ [])))) b h (inl (refl, refl, refl)))

  read_is : (k : ℕ) → elem k variables ≡ true → takes_test fs ≡ true → Reads (state fs (have dot)) (ascii " is $" ++ (48 + k) ∷ []) (state fs (have (is k)))
  unfolding next
  read_is k h t =
      token (state fs (have dot)) (state fs (have (is k))) (ascii " is $" ++ (48 + k) ∷ [])
      (each_skip (longer_choice fs dot) name_bytes _ (ascii " is $" ++ (48 + k) ∷ []) (state fs (have (is k)))
      (each_at (is_choice fs dot) variables _ (ascii " is $" ++ (48 + k) ∷ []) (state fs (have (is k))) k h (inl (t, refl, refl))))

  has : (e : Expr) (w : List ℕ) (t : State) → Offers (onwards fs e) w t
      → Reads (state fs (have e)) w t
  unfolding next
  has e w t o =
      token (state fs (have e)) t w
      (each_skip (longer_choice fs e) name_bytes _ w t (each_skip (is_choice fs e) variables _ w t o))

  read_dots : Reads (state fs (have dot)) (ascii ".") (state fs (have dots))
  read_dots = has dot _ _ (inl (refl, refl, refl))

  read_test : (e : Expr) → is_path e ≡ true → Reads (state fs (have e)) (ascii "[") (state (test e ∷ fs) want)
  read_test e h = has e _ _ (inr (inl (h, refl, refl)))

  read_node : (a : ℕ) → Reads (state fs (have (named a (ascii "node")))) (ascii "()") (state fs (have (wildcard a node)))
  unfolding equal
  read_node a = has (named a (ascii "node")) _ _ (inr (inr (inr (inr (inr (inr (inr (inr (inr (inr (inr (inl (refl, refl, refl)))))))))))))

  read_closure : (e : Expr) → is_path e ≡ true → Reads (state fs (have (bracket e))) (ascii "*") (state fs (have (closure e)))
  read_closure e h = has (bracket e) _ _ (inr (inr (inr (inr (inr (inr (inr (inr (inr (inr (inr (inr (inl (h, refl, refl))))))))))))))

  -- where the inner gaps close to e, and leave a bracket
  module _ (e' e : Expr) (gs : List Frame) (q : closed 0 fs e' ≡ e) where
    read_filter : (x : Expr) → opened 0 fs ≡ test x ∷ gs → Reads (state fs (have e')) (ascii "]") (state gs (have (filter x e)))
    read_filter x p =
        has e' _ _ (inr (inr (inl (ap may_filter p, refl, ap (λ (l : List Frame). filtered l (closed 0 fs e')) p ∙ ap (λ (y : Expr). state gs (have (filter x y))) q))))

    read_bracket : opened 0 fs ≡ paren ∷ gs → Reads (state fs (have e')) (ascii ")") (state gs (have (bracket e)))
    read_bracket p =
        has e' _ _ (inr (inr (inr (inl (ap may_paren p, refl, ap (λ (l : List Frame). parenthesised l (closed 0 fs e')) p ∙ ap (λ (y : Expr). state gs (have (bracket y))) q)))))

    read_negate : opened 0 fs ≡ negation ∷ gs → Reads (state fs (have e')) (ascii ")") (state gs (have (negate e)))
    read_negate p =
        has e' _ _ (inr (inr (inr (inl (ap may_paren p, refl, ap (λ (l : List Frame). parenthesised l (closed 0 fs e')) p ∙ ap (λ (y : Expr). state gs (have (negate y))) q)))))

-- an operator, where the inner gaps close to e and leave gs

module _ (fs : List Frame) (e' e : Expr) (gs : List Frame) where
  may_join_lem : (o : Op) → opened (left_level o) fs ≡ gs → ((logical o || is_path e') && (not (makes_test o) || takes_test gs)) ≡ true → may_join o fs e' ≡ true
  unfolding may_join
  may_join_lem o p h = rw p h

  joined_to : (o : Op) → closed (left_level o) fs e' ≡ e → opened (left_level o) fs ≡ gs → joined o fs e' ≡ state (left e o ∷ gs) want
  unfolding joined
  joined_to o q p = rw (q, p)

  read_join : (o : Op) → closed (left_level o) fs e' ≡ e → opened (left_level o) fs ≡ gs → ((logical o || is_path e') && (not (makes_test o) || takes_test gs)) ≡ true
      → Reads (state fs (have e')) (word o) (state (left e o ∷ gs) want)
  read_join or q p h = has fs e' _ _ (inr (inr (inr (inr (inl (may_join_lem or p h, refl, joined_to or q p))))))
  read_join and q p h = has fs e' _ _ (inr (inr (inr (inr (inr (inl (may_join_lem and p h, refl, joined_to and q p)))))))
  read_join same q p h = has fs e' _ _ (inr (inr (inr (inr (inr (inr (inl (may_join_lem same p h, refl, joined_to same q p))))))))
  read_join union q p h = has fs e' _ _ (inr (inr (inr (inr (inr (inr (inr (inl (may_join_lem union p h, refl, joined_to union q p)))))))))
  read_join intersect q p h = has fs e' _ _ (inr (inr (inr (inr (inr (inr (inr (inr (inl (may_join_lem intersect p h, refl, joined_to intersect q p))))))))))
  read_join except q p h = has fs e' _ _ (inr (inr (inr (inr (inr (inr (inr (inr (inr (inl (may_join_lem except p h, refl, joined_to except q p)))))))))))
  read_join (slash one) q p h =
      has fs e' _ _ (inr (inr (inr (inr (inr (inr (inr (inr (inr (inr (inl (may_join_lem (slash one) p h, refl, joined_to (slash one) q p))))))))))))
  read_join (slash two) q p h =
      then (state fs (have e')) (state (left e (slash one) ∷ gs) want) (state (left e (slash two) ∷ gs) want) (ascii "/") (ascii "/")
      (has fs e' _ _ (inr (inr (inr (inr (inr (inr (inr (inr (inr (inr (inl (may_join_lem (slash one) p h, refl, joined_to (slash one) q p)))))))))))))
      (read_slash (left e (slash one) ∷ gs) (left e (slash two) ∷ gs) refl refl)

-- what may stand where

raise : (b c d : Bool) → (b ≡ true → c ≡ true) → (b && d) ≡ true → (c && d) ≡ true
raise b c d f h = both_yes (f (yes_left b d h)) (yes_right b d h)

-- a place that asks less
pub fits_less : (e : Expr) (n m : ℕ) (b c : Bool) → n ≤ m → (b ≡ true → c ≡ true) → fits m b e ≡ true → fits n c e ≡ true
unfolding fits
fits_less (wildcard a w) n m b c l f h = h
fits_less (named a name) n m b c l f h = h
fits_less dot n m b c l f h = h
fits_less dots n m b c l f h = h
fits_less (variable k) n m b c l f h = h
fits_less (bracket e) n m b c l f h = fits_less e 0 0 b c (omega arith) f h
fits_less (closure e) n m b c l f h = h
fits_less (negate e) n m b c l f h = raise b c (fits 0 true e) f h
fits_less (is k) n m b c l f h = raise b c (elem k variables) f h
fits_less (filter e t) n m b c l f h = h
fits_less (rooted s e) n m b c l f h =
    raise (leb m 5) (leb n 5) (fits 6 false e) (λ p. le-leb n 5 (omega (arith, leb-true m 5 p))) h
fits_less (join o x y) n m b c l f h =
    let rest = fits (left_level o) (logical o) x && fits (suc (level o)) (logical o) y in
    both_yes
    (le-leb n (level o) (omega (arith, leb-true m (level o) (yes_left (leb m (level o)) ((not (makes_test o) || b) && rest) h))))
    (raise (not (makes_test o) || b) (not (makes_test o) || c) rest (either (not (makes_test o))) (yes_right (leb m (level o)) ((not (makes_test o) || b) && rest) h))
  where
    either : (a : Bool) → (a || b) ≡ true → (a || c) ≡ true
    either true p = refl
    either false p = f p

-- where no test may stand, there is a path
pub fits_path : (e : Expr) (n : ℕ) → fits n false e ≡ true → is_path e ≡ true
unfolding fits is_path
fits_path (wildcard a w) n h = refl
fits_path (named a name) n h = refl
fits_path dot n h = refl
fits_path dots n h = refl
fits_path (variable k) n h = refl
fits_path (bracket e) n h = fits_path e 0 h
fits_path (closure e) n h = refl
fits_path (negate e) n h = no_yes refl h
fits_path (is k) n h = no_yes refl h
fits_path (filter e t) n h = refl
fits_path (rooted s e) n h = refl
fits_path (join o x y) n h =
    let rest = fits (left_level o) (logical o) x && fits (suc (level o)) (logical o) y in
    plain (not (makes_test o)) (yes_left (not (makes_test o) || false) rest (yes_right (leb n (level o)) ((not (makes_test o) || false) && rest) h))
  where
    plain : (a : Bool) → (a || false) ≡ true → a ≡ true
    plain true p = refl
    plain false p = p

-- the parts of what is asked of operands
pub record Operands (n : ℕ) (b : Bool) (o : Op) (l r : Expr) : Type 0 where
  pub binds : n ≤ level o
  pub sorted : (not (makes_test o) || b) ≡ true
  pub on_left : fits (left_level o) (logical o) l ≡ true
  pub on_right : fits (suc (level o)) (logical o) r ≡ true

pub operands : (n : ℕ) (b : Bool) (o : Op) (l r : Expr) → fits n b (join o l r) ≡ true → Operands n b o l r
unfolding fits
operands n b o l r h =
    let x = fits (left_level o) (logical o) l in
    let y = fits (suc (level o)) (logical o) r in
    let q = yes_right (leb n (level o)) ((not (makes_test o) || b) && (x && y)) h in
    let z = yes_right (not (makes_test o) || b) (x && y) q in
    record {
      binds = leb-true n (level o) (yes_left (leb n (level o)) ((not (makes_test o) || b) && (x && y)) h);
      sorted = yes_left (not (makes_test o) || b) (x && y) q;
      on_left = yes_left x y z;
      on_right = yes_right x y z;
    }

pub rooted_binds : (n : ℕ) (b : Bool) (s : Slash) (e : Expr) → fits n b (rooted s e) ≡ true → leb n 5 ≡ true
unfolding fits
rooted_binds n b s e h = yes_left (leb n 5) (fits 6 false e) h

pub rooted_part : (n : ℕ) (b : Bool) (s : Slash) (e : Expr) → fits n b (rooted s e) ≡ true → fits 6 false e ≡ true
unfolding fits
rooted_part n b s e h = yes_right (leb n 5) (fits 6 false e) h

-- an expression read into a gap leaves gaps at its end, and its last part in the innermost
unfoldable spine : Expr → List Frame → List Frame
spine (wildcard a w) fs = fs
spine (named a name) fs = fs
spine dot fs = fs
spine dots fs = fs
spine (variable k) fs = fs
spine (bracket e) fs = fs
spine (closure e) fs = fs
spine (negate e) fs = fs
spine (is k) fs = fs
spine (filter e t) fs = fs
spine (rooted s e) fs = spine e (lead s ∷ fs)
spine (join o l r) fs = spine r (left l o ∷ fs)

unfoldable tip : Expr → Expr
tip (wildcard a w) = wildcard a w
tip (named a name) = named a name
tip dot = dot
tip dots = dots
tip (variable k) = variable k
tip (bracket e) = bracket e
tip (closure e) = closure e
tip (negate e) = negate e
tip (is k) = is k
tip (filter e t) = filter e t
tip (rooted s e) = tip e
tip (join o l r) = tip r

-- closing these gaps again gives it back
spine_opened : (e : Expr) (n : ℕ) (b : Bool) (fs : List Frame) → fits n b e ≡ true → opened n (spine e fs) ≡ opened n fs
unfolding spine opened
spine_opened (wildcard a w) n b fs h = refl
spine_opened (named a name) n b fs h = refl
spine_opened dot n b fs h = refl
spine_opened dots n b fs h = refl
spine_opened (variable k) n b fs h = refl
spine_opened (bracket e) n b fs h = refl
spine_opened (closure e) n b fs h = refl
spine_opened (negate e) n b fs h = refl
spine_opened (is k) n b fs h = refl
spine_opened (filter e t) n b fs h = refl
spine_opened (rooted s e) n b fs h =
    spine_opened e n false (lead s ∷ fs) (fits_less e n 6 false false (omega (arith, leb-true n 5 (rooted_binds n b s e h))) (λ p. p) (rooted_part n b s e h))
    ∙ rw (rooted_binds n b s e h)
spine_opened (join o l r) n b fs h =
    let w = operands n b o l r h in
    spine_opened r n (logical o) (left l o ∷ fs) (fits_less r n (suc (level o)) (logical o) (logical o) (omega (arith, w.binds)) (λ p. p) w.on_right)
    ∙ rw (le-leb n (level o) w.binds)

spine_closed : (e : Expr) (n : ℕ) (b : Bool) (fs : List Frame) → fits n b e ≡ true → closed n (spine e fs) (tip e) ≡ closed n fs e
unfolding spine tip closed
spine_closed (wildcard a w) n b fs h = refl
spine_closed (named a name) n b fs h = refl
spine_closed dot n b fs h = refl
spine_closed dots n b fs h = refl
spine_closed (variable k) n b fs h = refl
spine_closed (bracket e) n b fs h = refl
spine_closed (closure e) n b fs h = refl
spine_closed (negate e) n b fs h = refl
spine_closed (is k) n b fs h = refl
spine_closed (filter e t) n b fs h = refl
spine_closed (rooted s e) n b fs h =
    spine_closed e n false (lead s ∷ fs) (fits_less e n 6 false false (omega (arith, leb-true n 5 (rooted_binds n b s e h))) (λ p. p) (rooted_part n b s e h))
    ∙ rw (rooted_binds n b s e h)
spine_closed (join o l r) n b fs h =
    let w = operands n b o l r h in
    spine_closed r n (logical o) (left l o ∷ fs) (fits_less r n (suc (level o)) (logical o) (logical o) (omega (arith, w.binds)) (λ p. p) w.on_right)
    ∙ rw (le-leb n (level o) w.binds)

-- a left operand binds at least as its operator does
pub level_left : (o : Op) → level o ≤ left_level o
level_left or = omega arith
level_left and = omega arith
level_left same = omega arith
level_left union = omega arith
level_left intersect = omega arith
level_left except = omega arith
level_left (slash s) = omega arith

pub left_most : (o : Op) → left_level o ≤ 6
left_most or = omega arith
left_most and = omega arith
left_most same = omega arith
left_most union = omega arith
left_most intersect = omega arith
left_most except = omega arith
left_most (slash s) = omega arith

pub level_most : (o : Op) → level o ≤ 6
level_most o = omega (arith, level_left o, left_most o)

-- what joins tests makes one
tests_make : (o : Op) → logical o ≡ true → makes_test o ≡ true
tests_make or h = refl
tests_make and h = refl
tests_make same h = refl
tests_make union h = h
tests_make intersect h = h
tests_make except h = h
tests_make (slash s) h = h

pub floor_most : (fs : List Frame) → floor fs ≤ 7
floor_most [] = omega arith
floor_most (left l o ∷ fs) = omega (arith, level_most o)
floor_most (lead s ∷ fs) = omega arith
floor_most (paren ∷ fs) = omega arith
floor_most (negation ∷ fs) = omega arith
floor_most (test e ∷ fs) = omega arith

-- what binds as tightly as a filter leaves no gap
spine_tight : (e : Expr) (b : Bool) (fs : List Frame) → fits 7 b e ≡ true → (spine e fs ≡ fs) × (tip e ≡ e)
unfolding spine tip
spine_tight (wildcard a w) b fs h = (refl, refl)
spine_tight (named a name) b fs h = (refl, refl)
spine_tight dot b fs h = (refl, refl)
spine_tight dots b fs h = (refl, refl)
spine_tight (variable k) b fs h = (refl, refl)
spine_tight (bracket e) b fs h = (refl, refl)
spine_tight (closure e) b fs h = (refl, refl)
spine_tight (negate e) b fs h = (refl, refl)
spine_tight (is k) b fs h = (refl, refl)
spine_tight (filter e t) b fs h = (refl, refl)
spine_tight (rooted s e) b fs h = no_yes refl (rooted_binds 7 b s e h)
spine_tight (join o l r) b fs h = absurd (omega (arith, (operands 7 b o l r h).binds, level_most o))

-- nothing closes that binds less tightly
floor_opened : (fs : List Frame) (n : ℕ) → floor fs ≤ n → opened n fs ≡ fs
unfolding opened
floor_opened [] n h = refl
floor_opened (left l o ∷ fs) n h = rw (lt-leb n (level o) h)
floor_opened (lead s ∷ fs) n h = rw (lt-leb n 5 h)
floor_opened (paren ∷ fs) n h = refl
floor_opened (negation ∷ fs) n h = refl
floor_opened (test e ∷ fs) n h = refl

floor_closed : (fs : List Frame) (n : ℕ) (e : Expr) → floor fs ≤ n → closed n fs e ≡ e
unfolding closed
floor_closed [] n e h = refl
floor_closed (left l o ∷ fs) n e h = rw (lt-leb n (level o) h)
floor_closed (lead s ∷ fs) n e h = rw (lt-leb n 5 h)
floor_closed (paren ∷ fs) n e h = refl
floor_closed (negation ∷ fs) n e h = refl
floor_closed (test x ∷ fs) n e h = refl

-- a slash leads where a rooted path may stand
slash_leads : (fs : List Frame) → leb (floor fs) 5 ≡ true → (may_slash fs ≡ true) × (slashed fs ≡ lead one ∷ fs)
slash_leads [] h = (refl, refl)
slash_leads (left l or ∷ fs) h = (refl, refl)
slash_leads (left l and ∷ fs) h = (refl, refl)
slash_leads (left l same ∷ fs) h = (refl, refl)
slash_leads (left l union ∷ fs) h = (refl, refl)
slash_leads (left l intersect ∷ fs) h = (refl, refl)
slash_leads (left l except ∷ fs) h = (refl, refl)
slash_leads (left l (slash s) ∷ fs) h = no_yes refl h
slash_leads (lead s ∷ fs) h = no_yes refl h
slash_leads (paren ∷ fs) h = (refl, refl)
slash_leads (negation ∷ fs) h = (refl, refl)
slash_leads (test e ∷ fs) h = (refl, refl)

read_names : (fs : List Frame) (a : ℕ) (bs name : List ℕ) → all_name bs ≡ true
    → Reads (state fs (have (named a name))) bs (state fs (have (named a (name ++ bs))))
unfolding all_name run
read_names fs a [] name h = ap (λ (l : List ℕ). between (state fs (have (named a l)))) (sym (append-nil name))
read_names fs a (b ∷ bs) name h =
    then (state fs (have (named a name))) (state fs (have (named a (name ++ b ∷ [])))) (state fs (have (named a (name ++ (b ∷ bs))))) (b ∷ []) bs
    (read_longer fs a b name (yes_left (elem b name_bytes) (all_name bs) h))
    (read_names fs a bs (name ++ b ∷ []) (yes_right (elem b name_bytes) (all_name bs) h)
    ∙ ap (λ (l : List ℕ). between (state fs (have (named a l)))) (append_assoc name (b ∷ []) bs))

-- a whole name behind its axis
read_whole : (fs : List Frame) (a b : ℕ) (bs : List ℕ) → (elem b name_bytes && all_name bs) ≡ true
    → Reads (state fs (axis a)) (b ∷ bs) (state fs (have (named a (b ∷ bs))))
read_whole fs a b bs h =
    then (state fs (axis a)) (state fs (have (named a (b ∷ [])))) (state fs (have (named a (b ∷ bs)))) (b ∷ []) bs
    (read_name fs a b (yes_left (elem b name_bytes) (all_name bs) h))
    (read_names fs a bs (b ∷ []) (yes_right (elem b name_bytes) (all_name bs) h))

either_sort : (a b : Bool) → (not a || b) ≡ true → a ≡ true → b ≡ true
either_sort true b h p = h
either_sort false b h p = no_yes refl p

-- the last part of a path is a path
tip_path : (e : Expr) (n : ℕ) → fits n false e ≡ true → is_path (tip e) ≡ true
unfolding tip
tip_path (wildcard a w) n h = fits_path (wildcard a w) n h
tip_path (named a name) n h = fits_path (named a name) n h
tip_path dot n h = fits_path dot n h
tip_path dots n h = fits_path dots n h
tip_path (variable k) n h = fits_path (variable k) n h
tip_path (bracket e) n h = fits_path (bracket e) n h
tip_path (closure e) n h = fits_path (closure e) n h
tip_path (negate e) n h = fits_path (negate e) n h
tip_path (is k) n h = fits_path (is k) n h
tip_path (filter e t) n h = fits_path (filter e t) n h
tip_path (rooted s e) n h = tip_path e 6 (rooted_part n false s e h)
tip_path (join o l r) n h =
    let w = operands n false o l r h in
    tip_path r (suc (level o)) (subst (λ (b : Bool). fits (suc (level o)) b r ≡ true) (plain (logical o) (makes_test o) (tests_make o) w.sorted) w.on_right)
  where
    plain : (a m : Bool) → (a ≡ true → m ≡ true) → (not m || false) ≡ true → a ≡ false
    plain true true f p = no_yes refl p
    plain true false f p = no_yes refl (f refl)
    plain false m f p = refl

-- an operator may follow its left operand
may_follow : (o : Op) (b : Bool) (l : Expr) → (not (makes_test o) || b) ≡ true → fits (left_level o) (logical o) l ≡ true
    → ((logical o || is_path (tip l)) && (not (makes_test o) || b)) ≡ true
may_follow o b l h f = both_yes (go (logical o) f) h
  where
    go : (a : Bool) → fits (left_level o) a l ≡ true → (a || is_path (tip l)) ≡ true
    go true f = refl
    go false f = tip_path l (left_level o) f

-- a bracket around what has been read
read_in_bracket : (e : Expr) (fs : List Frame) (b : Bool) → fits 0 b e ≡ true → Reads (state (paren ∷ fs) want) (print e) (state (spine e (paren ∷ fs)) (have (tip e)))
    → Reads (state fs want) (print (bracket e)) (state fs (have (bracket e)))
unfolding print
read_in_bracket e fs b h r =
    let gs = spine e (paren ∷ fs) in
    then (state fs want) (state (paren ∷ fs) want) (state fs (have (bracket e))) (ascii "(") (print e ++ ascii ")") (read_open fs)
    (then (state (paren ∷ fs) want) (state gs (have (tip e))) (state fs (have (bracket e))) (print e) (ascii ")") r
    (read_bracket gs (tip e) e fs
    (spine_closed e 0 b (paren ∷ fs) h ∙ floor_closed (paren ∷ fs) 0 e (omega arith))
    (spine_opened e 0 b (paren ∷ fs) h ∙ floor_opened (paren ∷ fs) 0 (omega arith))))

-- every expression is read where it may stand
read : (e : Expr) (fs : List Frame) → fits (floor fs) (takes_test fs) e ≡ true → Reads (state fs want) (print e) (state (spine e fs) (have (tip e)))
unfolding print fits spine tip is_name
read (wildcard a star) fs h = then (state fs want) (state fs (axis a)) (state fs (have (wildcard a star))) (axis_word a) (ascii "*") (read_axis fs a h) (read_star fs a)
read (wildcard a node) fs h =
    then (state fs want) (state fs (axis a)) (state fs (have (wildcard a node))) (axis_word a) (ascii "node()") (read_axis fs a h)
    (then (state fs (axis a)) (state fs (have (named a (ascii "node")))) (state fs (have (wildcard a node))) (ascii "node") (ascii "()")
    (read_whole fs a 110 (ascii "ode") (unfold elem name_bytes all_name in refl))
    (read_node fs a))
read (named a []) fs h = no_yes refl (yes_right (elem a axes) false h)
read (named a (b ∷ bs)) fs h =
    then (state fs want) (state fs (axis a)) (state fs (have (named a (b ∷ bs)))) (axis_word a) (b ∷ bs)
    (read_axis fs a (yes_left (elem a axes) (elem b name_bytes && all_name bs) h))
    (read_whole fs a b bs (yes_right (elem a axes) (elem b name_bytes && all_name bs) h))
read dot fs h = read_dot fs
read dots fs h = then (state fs want) (state fs (have dot)) (state fs (have dots)) (ascii ".") (ascii ".") (read_dot fs) (read_dots fs)
read (variable k) fs h = read_variable fs k h
read (bracket e) fs h = read_in_bracket e fs (takes_test fs) h (read e (paren ∷ fs) h)
read (closure e) fs h =
    subst (λ (w : List ℕ). Reads (state fs want) w (state fs (have (closure e)))) (ap (λ (l : List ℕ). ascii "(" ++ l) (append_assoc (print e) (ascii ")") (ascii "*")))
    (then (state fs want) (state fs (have (bracket e))) (state fs (have (closure e))) (print (bracket e)) (ascii "*")
    (read_in_bracket e fs false h (read e (paren ∷ fs) (fits_less e 0 0 false (takes_test fs) (omega arith) (λ p. no_yes refl p) h)))
    (read_closure fs e (fits_path e 0 h)))
read (negate e) fs h =
    let gs = spine e (negation ∷ fs) in
    let f : fits 0 true e ≡ true = yes_right (takes_test fs) (fits 0 true e) h in
    then (state fs want) (state (negation ∷ fs) want) (state fs (have (negate e))) (ascii "not(") (print e ++ ascii ")")
    (read_not fs (yes_left (takes_test fs) (fits 0 true e) h))
    (then (state (negation ∷ fs) want) (state gs (have (tip e))) (state fs (have (negate e))) (print e) (ascii ")")
    (read e (negation ∷ fs) f)
    (read_negate gs (tip e) e fs
    (spine_closed e 0 true (negation ∷ fs) f ∙ floor_closed (negation ∷ fs) 0 e (omega arith))
    (spine_opened e 0 true (negation ∷ fs) f ∙ floor_opened (negation ∷ fs) 0 (omega arith))))
read (is k) fs h =
    then (state fs want) (state fs (have dot)) (state fs (have (is k))) (ascii ".") (ascii " is $" ++ (48 + k) ∷ []) (read_dot fs)
    (read_is fs k (yes_right (takes_test fs) (elem k variables) h) (yes_left (takes_test fs) (elem k variables) h))
read (filter e t) fs h =
    let gs = spine t (test e ∷ fs) in
    let f : fits 7 false e ≡ true = yes_left (fits 7 false e) (fits 0 true t) h in
    let g : fits 0 true t ≡ true = yes_right (fits 7 false e) (fits 0 true t) h in
    then (state fs want) (state fs (have e)) (state fs (have (filter e t))) (print e) (ascii "[" ++ (print t ++ ascii "]"))
    (read e fs (fits_less e (floor fs) 7 false (takes_test fs) (floor_most fs) (λ p. no_yes refl p) f)
    ∙ (let w = spine_tight e false fs f in rw (w.0, w.1)))
    (then (state fs (have e)) (state (test e ∷ fs) want) (state fs (have (filter e t))) (ascii "[") (print t ++ ascii "]")
    (read_test fs e (fits_path e 7 f))
    (then (state (test e ∷ fs) want) (state gs (have (tip t))) (state fs (have (filter e t))) (print t) (ascii "]")
    (read t (test e ∷ fs) g)
    (read_filter gs (tip t) t fs
    (spine_closed t 0 true (test e ∷ fs) g ∙ floor_closed (test e ∷ fs) 0 t (omega arith))
    e
    (spine_opened t 0 true (test e ∷ fs) g ∙ floor_opened (test e ∷ fs) 0 (omega arith)))))
read (rooted one e) fs h =
    let w = slash_leads fs (yes_left (leb (floor fs) 5) (fits 6 false e) h) in
    then (state fs want) (state (lead one ∷ fs) want) (state (spine e (lead one ∷ fs)) (have (tip e))) (ascii "/") (print e)
    (read_slash fs (lead one ∷ fs) w.0 w.1)
    (read e (lead one ∷ fs) (yes_right (leb (floor fs) 5) (fits 6 false e) h))
read (rooted two e) fs h =
    let w = slash_leads fs (yes_left (leb (floor fs) 5) (fits 6 false e) h) in
    then (state fs want) (state (lead two ∷ fs) want) (state (spine e (lead two ∷ fs)) (have (tip e))) (ascii "//") (print e)
    (then (state fs want) (state (lead one ∷ fs) want) (state (lead two ∷ fs) want) (ascii "/") (ascii "/")
    (read_slash fs (lead one ∷ fs) w.0 w.1)
    (read_slash (lead one ∷ fs) (lead two ∷ fs) refl refl))
    (read e (lead two ∷ fs) (yes_right (leb (floor fs) 5) (fits 6 false e) h))
read (join o l r) fs h =
    let w = operands (floor fs) (takes_test fs) o l r h in
    let low : floor fs ≤ left_level o = omega (arith, w.binds, level_left o) in
    let gs = spine l fs in
    then (state fs want) (state gs (have (tip l))) (state (spine r (left l o ∷ fs)) (have (tip r))) (print l) (word o ++ print r)
    (read l fs (fits_less l (floor fs) (left_level o) (logical o) (takes_test fs) low (λ p. either_sort (makes_test o) (takes_test fs) w.sorted (tests_make o p)) w.on_left))
    (then (state gs (have (tip l))) (state (left l o ∷ fs) want) (state (spine r (left l o ∷ fs)) (have (tip r))) (word o) (print r)
    (read_join gs (tip l) l fs o
    (spine_closed l (left_level o) (logical o) fs w.on_left ∙ floor_closed fs (left_level o) l low)
    (spine_opened l (left_level o) (logical o) fs w.on_left ∙ floor_opened fs (left_level o) low)
    (may_follow o (takes_test fs) l w.sorted w.on_left))
    (read r (left l o ∷ fs) w.on_right))

-- what is read from a grammatical text is the path that it was printed from
pub reading : (e : Expr) → fits 0 false e ≡ true → outcome_of (run next (between start) (print e)) ≡ accepted e
reading e h =
    ap outcome_of (read e [] h)
    ∙ (let p : opened 0 (spine e []) ≡ [] = spine_opened e 0 false [] h ∙ floor_opened [] 0 (omega arith) in
    let q : closed 0 (spine e []) (tip e) ≡ e = spine_closed e 0 false [] h ∙ floor_closed [] 0 e (omega arith) in
    rw (p, q))
