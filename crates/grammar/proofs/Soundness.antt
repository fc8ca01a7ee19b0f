-- What is read is grammatical, and every beginning that is read goes on to a grammatical text.
use Prim.Native.Nat.{ℕ, suc, ◌+◌, ◌≤◌}
use native.Mathlib.Omega.{arith}
use mathlib.Core.Path.{◌≡◌, refl, sym, ap, ◌∙◌, subst}
use mathlib.Core.Bool.{Bool, true, false, not, ◌&&◌, ◌||◌, cond}
use mathlib.Core.List.{List, [], ◌∷◌, ◌++◌, append_assoc, append-nil}
use lib.Dec.{leb, eqb}
use borrow.Author.Tests.{leb-true, leb-false, le-leb, eq-eqb}
use Rattle.model.proofs.Booleans.{no_yes, yes_left, yes_right, both_yes, or_left, or_right}
use Rattle.model.specs.Lists.{equal}
use Rattle.model.proofs.Lists.{equal_is}
use Rattle.grammar.specs.Grammar.{Expr, Op, Grammatical, Viable, ascii, elem, axes, axis_word, variables, name_bytes, all_name, is_name, level, left_level, logical, makes_test, slash_word, word, print, fits}
use Rattle.grammar.specs.Grammar.Slash.{one, two}
use Rattle.grammar.specs.Grammar.Wildcard.{star}
use Rattle.grammar.specs.Grammar.Op.{or, and, same, union, intersect, except, slash}
use Rattle.grammar.specs.Grammar.Expr.{wildcard, named, dot, dots, variable, bracket, closure, negate, is, filter, rooted, join}
use Rattle.grammar.specs.Online.{Choice, Place, run, is_dead}
use Rattle.grammar.specs.Online.Choice.{choice}
use Rattle.grammar.specs.Online.Place.{dead, between, within}
use Rattle.grammar.specs.Automaton.{Frame, Focus, State, takes_test, floor, opened, closed, is_path, may_slash, slashed, may_filter, filtered, may_paren, parenthesised, is_dot, may_join, joined, each, axis_choice, variable_choice, name_choice, is_named, name_of, longer, is_node, as_node, is_group, as_closure, longer_choice, is_choice, next, start, whole, outcome_of}
use Rattle.grammar.specs.Automaton.Frame.{left, lead, paren, negation, test}
use Rattle.grammar.specs.Automaton.Focus.{want, axis, have}
use Rattle.grammar.specs.Automaton.State.{state}
use Rattle.grammar.specs.Automaton.Outcome.{accepted, refused}
use Rattle.grammar.proofs.Online.{Leads, Good, run_good}
use Rattle.grammar.proofs.Reading.{fits_less, Operands, left_most, floor_most}

-- the bytes before a gap, and those of what stands in it
unfoldable pub shown : List Frame → List ℕ
shown [] = []
shown (left l o ∷ fs) = shown fs ++ (print l ++ word o)
shown (lead s ∷ fs) = shown fs ++ slash_word s
shown (paren ∷ fs) = shown fs ++ ascii "("
shown (negation ∷ fs) = shown fs ++ ascii "not("
shown (test e ∷ fs) = shown fs ++ (print e ++ ascii "[")

unfoldable pub in_focus : Focus → List ℕ
in_focus want = []
in_focus (axis a) = axis_word a
in_focus (have e) = print e

-- what stands before each gap may stand there
abbrev pub Fine : List Frame → Type 0
Fine [] = Unit {0}
Fine (left l o ∷ fs) = (fits (left_level o) (logical o) l ≡ true) × (floor fs ≤ level o) × ((not (makes_test o) || takes_test fs) ≡ true) × Fine fs
Fine (lead s ∷ fs) = (floor fs ≤ 5) × Fine fs
Fine (paren ∷ fs) = Fine fs
Fine (negation ∷ fs) = (takes_test fs ≡ true) × Fine fs
Fine (test e ∷ fs) = (fits 7 false e ≡ true) × Fine fs

abbrev pub FineIn : List Frame → Focus → Type 0
FineIn fs want = Unit {0}
FineIn fs (axis a) = elem a axes ≡ true
FineIn fs (have e) = fits 7 (takes_test fs) e ≡ true

-- s is the state when c has been read
abbrev pub After : State → List ℕ → Type 0
After (state fs f) c = Fine fs × FineIn fs f × (shown fs ++ in_focus f ≡ c)

pub fits_join : (n : ℕ) (b : Bool) (o : Op) (l r : Expr) → Operands n b o l r → fits n b (join o l r) ≡ true
unfolding fits
fits_join n b o l r w = both_yes (le-leb n (level o) w.binds) (both_yes w.sorted (both_yes w.on_left w.on_right))

-- a path may stand where no test may
fits_plain : (e : Expr) (n : ℕ) (b : Bool) → fits n b e ≡ true → is_path e ≡ true → fits n false e ≡ true
unfolding fits is_path
fits_plain (wildcard a w) n b h p = h
fits_plain (named a name) n b h p = h
fits_plain dot n b h p = h
fits_plain dots n b h p = h
fits_plain (variable k) n b h p = h
fits_plain (bracket e) n b h p = fits_plain e 0 b h p
fits_plain (closure e) n b h p = h
fits_plain (negate e) n b h p = no_yes refl p
fits_plain (is k) n b h p = no_yes refl p
fits_plain (filter e t) n b h p = h
fits_plain (rooted s e) n b h p = h
fits_plain (join o l r) n b h p =
    let z = fits (left_level o) (logical o) l && fits (suc (level o)) (logical o) r in
    both_yes (yes_left (leb n (level o)) ((not (makes_test o) || b) && z) h)
    (both_yes (or_left (not (makes_test o)) false p) (yes_right (not (makes_test o) || b) z (yes_right (leb n (level o)) ((not (makes_test o) || b) && z) h)))

-- closing gaps
pub record Closing (n : ℕ) (fs : List Frame) (e : Expr) (gs : List Frame) (d : Expr) : Type 0 where
  pub fine : Fine gs
  pub low : floor gs ≤ n
  pub fit : fits n (takes_test gs) d ≡ true
  pub looks : shown gs ++ print d ≡ shown fs ++ print e

pub closing : (fs : List Frame) (n m : ℕ) (e : Expr) → Fine fs → n ≤ m → floor fs ≤ m → fits m (takes_test fs) e ≡ true
    → Closing n fs e (opened n fs) (closed n fs e)
unfolding opened closed fits
closing [] n m e f l k h = record { fine = tt; low = omega arith; fit = fits_less e n m false false l (λ p. p) h; looks = refl }
closing (left x o ∷ fs) n m e f l k h = go (leb n (level o)) refl (λ q. closing fs n (level o) (join o x e) f.3 q f.1 (fits_join (level o) (takes_test fs) o x e (record { binds = omega arith; sorted = f.2; on_left = f.0; on_right = fits_less e (suc (level o)) m (logical o) (logical o) k (λ p. p) h })))
  where
    regroup : (a b c d : List ℕ) → a ++ (b ++ (c ++ d)) ≡ (a ++ (b ++ c)) ++ d
    regroup a b c d = simp append_assoc

    go :
        (t : Bool) → leb n (level o) ≡ t → (n ≤ level o → Closing n fs (join o x e) (opened n fs) (closed n fs (join o x e)))
        → Closing n (left x o ∷ fs) e (cond t (opened n fs) (left x o ∷ fs)) (cond t (closed n fs (join o x e)) e)
    go true q r =
        let w = r (leb-true n (level o) q) in
        record { fine = w.fine; low = w.low; fit = w.fit; looks = w.looks ∙ unfold shown print in regroup (shown fs) (print x) (word o) (print e) }
    go false q r = record { fine = f; low = leb-false n (level o) q; fit = fits_less e n m (logical o) (logical o) l (λ p. p) h; looks = refl }
closing (lead s ∷ fs) n m e f l k h = go (leb n 5) refl (λ q. closing fs n 5 (rooted s e) f.1 q f.0 (both_yes refl (fits_less e 6 m false false k (λ p. p) h)))
  where
    go :
        (t : Bool) → leb n 5 ≡ t → (n ≤ 5 → Closing n fs (rooted s e) (opened n fs) (closed n fs (rooted s e)))
        → Closing n (lead s ∷ fs) e (cond t (opened n fs) (lead s ∷ fs)) (cond t (closed n fs (rooted s e)) e)
    go true q r =
        let w = r (leb-true n 5 q) in
        record { fine = w.fine; low = w.low; fit = w.fit; looks = w.looks ∙ unfold shown print in sym (append_assoc (shown fs) (slash_word s) (print e)) }
    go false q r = record { fine = f; low = leb-false n 5 q; fit = fits_less e n m false false l (λ p. p) h; looks = refl }
closing (paren ∷ fs) n m e f l k h = record { fine = f; low = omega arith; fit = fits_less e n m (takes_test fs) (takes_test fs) l (λ p. p) h; looks = refl }
closing (negation ∷ fs) n m e f l k h = record { fine = f; low = omega arith; fit = fits_less e n m true true l (λ p. p) h; looks = refl }
closing (test x ∷ fs) n m e f l k h = record { fine = f; low = omega arith; fit = fits_less e n m true true l (λ p. p) h; looks = refl }

-- the choices of each state lead to the states after them

leads_cons : (c : List ℕ) (a : Choice State) (l : List (Choice State)) → Leads After c (a ∷ []) → Leads After c l → Leads After c (a ∷ l)
leads_cons c (choice m w x) l h k = (h.0, k)

each_leads : (c : List ℕ) (f : ℕ → Choice State) (ks : List ℕ) (l : List (Choice State))
    → ((k : ℕ) → elem k ks ≡ true → Leads After c (f k ∷ [])) → Leads After c l → Leads After c (each f ks l)
unfolding each elem
each_leads c f [] l h r = r
each_leads c f (k ∷ ks) l h r =
    leads_cons c (f k) (each f ks l) (h k (or_left (eqb k k) (elem k ks) (eq-eqb k k refl)))
    (each_leads c f ks l (λ j p. h j (or_right (eqb j k) (elem j ks) p)) r)

-- a gap is put in
module _ (c : List ℕ) where
  -- an expression is wanted next
  to_want : (gs : List Frame) (w : List ℕ) → Fine gs → shown gs ≡ c ++ w → After (state gs want) (c ++ w)
  unfolding in_focus
  to_want gs w f e = (f, tt, append-nil (shown gs) ∙ e)

  -- fs stood before, and x behind it
  module _ (fs : List Frame) (x : List ℕ) (look : shown fs ++ x ≡ c) where
    to_axis : (a : ℕ) → x ≡ [] → Fine fs → elem a axes ≡ true → After (state fs (axis a)) (c ++ axis_word a)
    unfolding in_focus
    to_axis a p f h = (f, h, ap (λ (l : List ℕ). l ++ axis_word a) (sym (append-nil (shown fs)) ∙ ap (λ (l : List ℕ). shown fs ++ l) (sym p) ∙ look))

    to_have : (e : Expr) (w : List ℕ) → Fine fs → fits 7 (takes_test fs) e ≡ true → print e ≡ x ++ w → After (state fs (have e)) (c ++ w)
    unfolding in_focus
    to_have e w f h p =
        (f, h, ap (λ (l : List ℕ). shown fs ++ l) p ∙ sym (append_assoc (shown fs) x w) ∙ ap (λ (l : List ℕ). l ++ w) look)

slash_fine : (fs : List Frame) → Fine fs → may_slash fs ≡ true → Fine (slashed fs) × (shown (slashed fs) ≡ shown fs ++ ascii "/")
unfolding shown
slash_fine [] f h = ((omega arith, tt), refl)
slash_fine (left l or ∷ fs) f h = ((omega arith, f), refl)
slash_fine (left l and ∷ fs) f h = ((omega arith, f), refl)
slash_fine (left l same ∷ fs) f h = ((omega arith, f), refl)
slash_fine (left l union ∷ fs) f h = ((omega arith, f), refl)
slash_fine (left l intersect ∷ fs) f h = ((omega arith, f), refl)
slash_fine (left l except ∷ fs) f h = ((omega arith, f), refl)
slash_fine (left l (slash one) ∷ fs) f h = (f, simp append_assoc)
slash_fine (left l (slash two) ∷ fs) f h = no_yes refl h
slash_fine (lead one ∷ fs) f h = (f, simp append_assoc)
slash_fine (lead two ∷ fs) f h = no_yes refl h
slash_fine (paren ∷ fs) f h = ((omega arith, f), refl)
slash_fine (negation ∷ fs) f h = ((omega arith, f), refl)
slash_fine (test e ∷ fs) f h = ((omega arith, f), refl)

all_longer : (bs : List ℕ) (b : ℕ) → elem b name_bytes ≡ true → all_name bs ≡ true → all_name (bs ++ b ∷ []) ≡ true
unfolding all_name
all_longer [] b h k = both_yes h refl
all_longer (a ∷ bs) b h k = both_yes (yes_left (elem a name_bytes) (all_name bs) k) (all_longer bs b h (yes_right (elem a name_bytes) (all_name bs) k))

name_longer : (bs : List ℕ) (b : ℕ) → elem b name_bytes ≡ true → is_name bs ≡ true → is_name (bs ++ b ∷ []) ≡ true
unfolding is_name
name_longer [] b h k = no_yes refl k
name_longer (a ∷ bs) b h k = both_yes (yes_left (elem a name_bytes) (all_name bs) k) (all_longer bs b h (yes_right (elem a name_bytes) (all_name bs) k))

-- what holds of every axis with a name holds of an expression that is one
pub by_name : (P : Expr → Type 0) → ((a : ℕ) (name : List ℕ) → P (named a name)) → (e : Expr) → is_named e ≡ true → P e
by_name P f (wildcard a w) n = no_yes refl n
by_name P f (named a name) n = f a name
by_name P f dot n = no_yes refl n
by_name P f dots n = no_yes refl n
by_name P f (variable k) n = no_yes refl n
by_name P f (bracket e) n = no_yes refl n
by_name P f (closure e) n = no_yes refl n
by_name P f (negate e) n = no_yes refl n
by_name P f (is k) n = no_yes refl n
by_name P f (filter e t) n = no_yes refl n
by_name P f (rooted s e) n = no_yes refl n
by_name P f (join o l r) n = no_yes refl n

-- 'node' is a name
pub node_named : (e : Expr) → is_node e ≡ true → is_named e ≡ true
node_named e h = yes_left (is_named e) (equal (name_of e) (ascii "node")) h

-- what holds of every axis with the name 'node', likewise
by_node : (P : Expr → Type 0) → ((a : ℕ) → P (named a (ascii "node"))) → (e : Expr) → is_node e ≡ true → P e
by_node P f e h =
    by_name (λ (x : Expr). equal (name_of x) (ascii "node") ≡ true → P x)
    (λ a name n. subst (λ (l : List ℕ). P (named a l)) (sym (equal_is name (ascii "node") n)) (f a))
    e (node_named e h) (yes_right (is_named e) (equal (name_of e) (ascii "node")) h)

-- what holds of every bracket around a path
pub by_group : (P : Expr → Type 0) → ((e : Expr) → is_path e ≡ true → P (bracket e)) → (e : Expr) → is_group e ≡ true → P e
by_group P f (wildcard a w) h = no_yes refl h
by_group P f (named a name) h = no_yes refl h
by_group P f dot h = no_yes refl h
by_group P f dots h = no_yes refl h
by_group P f (variable k) h = no_yes refl h
by_group P f (bracket e) h = f e h
by_group P f (closure e) h = no_yes refl h
by_group P f (negate e) h = no_yes refl h
by_group P f (is k) h = no_yes refl h
by_group P f (filter e t) h = no_yes refl h
by_group P f (rooted s e) h = no_yes refl h
by_group P f (join o l r) h = no_yes refl h

module _ (t : Bool) where
  -- e goes on as x with the bytes w
  abbrev GoesOn : Expr → Expr → List ℕ → Type 0
  GoesOn e x w = fits 7 t e ≡ true → (fits 7 t x ≡ true) × (print x ≡ print e ++ w)

  longer_fine : (e : Expr) (b : ℕ) → elem b name_bytes ≡ true → is_named e ≡ true → GoesOn e (longer e b) (b ∷ [])
  unfolding fits print
  longer_fine e b h n =
      by_name (λ (x : Expr). GoesOn x (longer x b) (b ∷ []))
      (λ a name f. (both_yes (yes_left (elem a axes) (is_name name) f) (name_longer name b h (yes_right (elem a axes) (is_name name) f)), sym (append_assoc (axis_word a) name (b ∷ []))))
      e n

  node_fine : (e : Expr) → is_node e ≡ true → GoesOn e (as_node e) (ascii "()")
  unfolding fits print
  node_fine e n =
      by_node (λ (x : Expr). GoesOn x (as_node x) (ascii "()"))
      (λ a f. (yes_left (elem a axes) (is_name (ascii "node")) f, sym (append_assoc (axis_word a) (ascii "node") (ascii "()"))))
      e n

  group_fine : (e : Expr) → is_group e ≡ true → GoesOn e (as_closure e) (ascii "*")
  unfolding fits print
  group_fine e n =
      by_group (λ (x : Expr). GoesOn x (as_closure x) (ascii "*"))
      (λ d p f. (fits_plain d 0 t f p, ap (λ (l : List ℕ). ascii "(" ++ l) (sym (append_assoc (print d) (ascii ")") (ascii "*")))))
      e n

pub dot_is : (e : Expr) → is_dot e ≡ true → e ≡ dot
dot_is (wildcard a w) h = no_yes refl h
dot_is (named a name) h = no_yes refl h
dot_is dot h = refl
dot_is dots h = no_yes refl h
dot_is (variable k) h = no_yes refl h
dot_is (bracket e) h = no_yes refl h
dot_is (closure e) h = no_yes refl h
dot_is (negate e) h = no_yes refl h
dot_is (is k) h = no_yes refl h
dot_is (filter e x) h = no_yes refl h
dot_is (rooted s e) h = no_yes refl h
dot_is (join o l r) h = no_yes refl h

-- brackets are closed, where the gaps gs are left with d in the innermost

regroup4 : (a b c d e : List ℕ) → a ++ (b ++ (c ++ (d ++ e))) ≡ ((a ++ (b ++ c)) ++ d) ++ e
regroup4 a b c d e = simp append_assoc

regroup3 : (a c d e : List ℕ) → a ++ (c ++ (d ++ e)) ≡ ((a ++ c) ++ d) ++ e
regroup3 a c d e = simp append_assoc

filtered_after : (c : List ℕ) (gs : List Frame) (d : Expr) → Fine gs → fits 0 (takes_test gs) d ≡ true → shown gs ++ print d ≡ c
    → may_filter gs ≡ true → After (filtered gs d) (c ++ ascii "]")
unfolding fits shown print in_focus
filtered_after c [] d f h e m = no_yes refl m
filtered_after c (left l o ∷ fs) d f h e m = no_yes refl m
filtered_after c (lead s ∷ fs) d f h e m = no_yes refl m
filtered_after c (paren ∷ fs) d f h e m = no_yes refl m
filtered_after c (negation ∷ fs) d f h e m = no_yes refl m
filtered_after c (test x ∷ fs) d f h e m =
    (f.1, both_yes f.0 h, regroup4 (shown fs) (print x) (ascii "[") (print d) (ascii "]") ∙ ap (λ (l : List ℕ). l ++ ascii "]") e)

parenthesised_after : (c : List ℕ) (gs : List Frame) (d : Expr) → Fine gs → fits 0 (takes_test gs) d ≡ true → shown gs ++ print d ≡ c
    → may_paren gs ≡ true → After (parenthesised gs d) (c ++ ascii ")")
unfolding fits shown print in_focus
parenthesised_after c [] d f h e m = no_yes refl m
parenthesised_after c (left l o ∷ fs) d f h e m = no_yes refl m
parenthesised_after c (lead s ∷ fs) d f h e m = no_yes refl m
parenthesised_after c (paren ∷ fs) d f h e m =
    (f, h, regroup3 (shown fs) (ascii "(") (print d) (ascii ")") ∙ ap (λ (l : List ℕ). l ++ ascii ")") e)
parenthesised_after c (negation ∷ fs) d f h e m =
    (f.1, both_yes f.0 h, regroup3 (shown fs) (ascii "not(") (print d) (ascii ")") ∙ ap (λ (l : List ℕ). l ++ ascii ")") e)
parenthesised_after c (test x ∷ fs) d f h e m = no_yes refl m

-- an operator follows
sort_of : (a b : Bool) (d : Expr) (n : ℕ) → fits n b d ≡ true → (a || is_path d) ≡ true → fits n a d ≡ true
sort_of true b d n h p = fits_less d n n b true (omega arith) (λ _. refl) h
sort_of false b d n h p = fits_plain d n b h p

-- the operators that bind more tightly than ' same ' make paths
pub joins_paths : (o : Op) → 3 ≤ level o → not (makes_test o) ≡ true
joins_paths or k = absurd (omega arith)
joins_paths and k = absurd (omega arith)
joins_paths same k = absurd (omega arith)
joins_paths union k = refl
joins_paths intersect k = refl
joins_paths except k = refl
joins_paths (slash s) k = refl

-- closing gaps keeps a path a path, where only paths are made
pub path_closed : (fs : List Frame) (n : ℕ) (e : Expr) → 3 ≤ n → is_path e ≡ true → is_path (closed n fs e) ≡ true
unfolding closed is_path
path_closed [] n e l h = h
path_closed (left x o ∷ fs) n e l h = go (leb n (level o)) refl (path_closed fs n (join o x e) l)
  where
    go : (t : Bool) → leb n (level o) ≡ t → (not (makes_test o) ≡ true → is_path (closed n fs (join o x e)) ≡ true) → is_path (cond t (closed n fs (join o x e)) e) ≡ true
    go true p ih = ih (joins_paths o (omega (arith, leb-true n (level o) p)))
    go false p ih = h
path_closed (lead s ∷ fs) n e l h = go (leb n 5) (path_closed fs n (rooted s e) l refl)
  where
    go : (t : Bool) → is_path (closed n fs (rooted s e)) ≡ true → is_path (cond t (closed n fs (rooted s e)) e) ≡ true
    go true ih = ih
    go false ih = h
path_closed (paren ∷ fs) n e l h = h
path_closed (negation ∷ fs) n e l h = h
path_closed (test x ∷ fs) n e l h = h

-- what an operator joins stays a path when the gaps before it close
joined_path : (o : Op) (fs : List Frame) (e : Expr) → (logical o || is_path e) ≡ true → (logical o || is_path (closed (left_level o) fs e)) ≡ true
joined_path or fs e h = refl
joined_path and fs e h = refl
joined_path same fs e h = path_closed fs (left_level same) e (omega arith) h
joined_path union fs e h = path_closed fs (left_level union) e (omega arith) h
joined_path intersect fs e h = path_closed fs (left_level intersect) e (omega arith) h
joined_path except fs e h = path_closed fs (left_level except) e (omega arith) h
joined_path (slash s) fs e h = path_closed fs (left_level (slash s)) e (omega arith) h

-- a gap that takes a test takes one that ' same ' makes
test_low : (fs : List Frame) → takes_test fs ≡ true → floor fs ≤ 2
test_low [] h = no_yes refl h
test_low (left l or ∷ fs) h = omega arith
test_low (left l and ∷ fs) h = omega arith
test_low (left l same ∷ fs) h = no_yes refl h
test_low (left l union ∷ fs) h = no_yes refl h
test_low (left l intersect ∷ fs) h = no_yes refl h
test_low (left l except ∷ fs) h = no_yes refl h
test_low (left l (slash s) ∷ fs) h = no_yes refl h
test_low (lead s ∷ fs) h = no_yes refl h
test_low (paren ∷ fs) h = omega arith
test_low (negation ∷ fs) h = omega arith
test_low (test e ∷ fs) h = omega arith

-- an operator may stand in the gap that its left operand has left open
joined_low : (o : Op) (fs : List Frame) → floor fs ≤ left_level o → (not (makes_test o) || takes_test fs) ≡ true → floor fs ≤ level o
joined_low or fs l h = l
joined_low and fs l h = l
joined_low same fs l h = test_low fs h
joined_low union fs l h = l
joined_low intersect fs l h = l
joined_low except fs l h = l
joined_low (slash s) fs l h = l

joined_after : (o : Op) (c : List ℕ) (fs : List Frame) (e : Expr) → Closing (left_level o) fs e (opened (left_level o) fs) (closed (left_level o) fs e)
    → shown fs ++ print e ≡ c → may_join o fs e ≡ true → After (joined o fs e) (c ++ word o)
unfolding may_join joined shown
joined_after o c fs e w look m =
    let gs = opened (left_level o) fs in
    let d = closed (left_level o) fs e in
    let p = yes_left (logical o || is_path e) (not (makes_test o) || takes_test gs) m in
    let q = yes_right (logical o || is_path e) (not (makes_test o) || takes_test gs) m in
    to_want c (left d o ∷ gs) (word o)
    (sort_of (logical o) (takes_test gs) d (left_level o) w.fit (joined_path o fs e p), joined_low o gs w.low q, q, w.fine)
    (sym (append_assoc (shown gs) (print d) (word o)) ∙ ap (λ (l : List ℕ). l ++ word o) (w.looks ∙ look))

-- every choice of every state
pub on : (s : State) (c : List ℕ) → After s c → Leads After c (next s)
unfolding next in_focus print shown fits is_name
on (state fs want) c (f, u, look) =
    each_leads c (axis_choice fs) axes _ (λ a h. (λ _. to_axis c fs [] look a refl f h, tt))
    (each_leads c (variable_choice fs) variables _ (λ k h. (λ _. to_have c fs [] look (variable k) (ascii "$" ++ (48 + k) ∷ []) f h refl, tt)) (
      λ _. to_have c fs [] look dot (ascii ".") f refl refl,
      (
        λ _. to_want c (paren ∷ fs) (ascii "(") f (ap (λ (l : List ℕ). l ++ ascii "(") base),
        (
          λ h. to_want c (negation ∷ fs) (ascii "not(") (h, f) (ap (λ (l : List ℕ). l ++ ascii "not(") base),
          (
            λ h. let w = slash_fine fs f h in to_want c (slashed fs) (ascii "/") w.0 (w.1 ∙ ap (λ (l : List ℕ). l ++ ascii "/") base),
            tt,
          ),
        ),
      ),
    ))
  where
    base : shown fs ≡ c
    base = sym (append-nil (shown fs)) ∙ look
on (state fs (axis a)) c (f, h, look) =
    each_leads c (name_choice fs a) name_bytes _
    (λ b k. (λ _. to_have c fs (axis_word a) look (named a (b ∷ [])) (b ∷ []) f (both_yes h (both_yes k (unfold all_name in refl))) refl, tt))
    (λ _. to_have c fs (axis_word a) look (wildcard a star) (ascii "*") f h refl, tt)
on (state fs (have e)) c (f, h, look) =
    each_leads c (longer_choice fs e) name_bytes _
    (λ b k. (λ n. let w = longer_fine (takes_test fs) e b k n h in to_have c fs (print e) look (longer e b) (b ∷ []) f w.0 w.1, tt))
    (each_leads c (is_choice fs e) variables _
    (λ k i. (λ n. to_have c fs (print e) look (is k) (ascii " is $" ++ (48 + k) ∷ []) f (both_yes (yes_right (is_dot e) (takes_test fs) n) i) (rw (dot_is e (yes_left (is_dot e) (takes_test fs) n))), tt)) (
      λ n. to_have c fs (print e) look dots (ascii ".") f refl (rw (dot_is e n)),
      (
        λ n. to_want c (test e ∷ fs) (ascii "[") (fits_plain e 7 (takes_test fs) h n, f) (sym (append_assoc (shown fs) (print e) (ascii "[")) ∙ ap (λ (l : List ℕ). l ++ ascii "[") look),
        (
          λ n. filtered_after c (opened 0 fs) (closed 0 fs e) w0.fine w0.fit (w0.looks ∙ look) n,
          (
            λ n. parenthesised_after c (opened 0 fs) (closed 0 fs e) w0.fine w0.fit (w0.looks ∙ look) n,
            (
              joins or,
              (
                joins and,
                (
                  joins same,
                  (
                    joins union,
                    (
                      joins intersect,
                      (
                        joins except,
                        (
                          joins (slash one),
                          (
                            λ n. let w = node_fine (takes_test fs) e n h in to_have c fs (print e) look (as_node e) (ascii "()") f w.0 w.1,
                            (
                              λ n. let w = group_fine (takes_test fs) e n h in to_have c fs (print e) look (as_closure e) (ascii "*") f w.0 w.1,
                              tt,
                            ),
                          ),
                        ),
                      ),
                    ),
                  ),
                ),
              ),
            ),
          ),
        ),
      ),
    ))
  where
    shut : (n : ℕ) → n ≤ 7 → Closing n fs e (opened n fs) (closed n fs e)
    shut n l = closing fs n 7 e f l (floor_most fs) h

    w0 : Closing 0 fs e (opened 0 fs) (closed 0 fs e)
    w0 = shut 0 (omega arith)

    joins : (o : Op) → may_join o fs e ≡ true → After (joined o fs e) (c ++ word o)
    joins o m = joined_after o c fs e (shut (left_level o) (omega (arith, left_most o))) look m

-- from every state the text can be completed

unfoldable plug : List Frame → Expr → Expr
plug [] e = e
plug (left l o ∷ fs) e = plug fs (join o l e)
plug (lead s ∷ fs) e = plug fs (rooted s e)
plug (paren ∷ fs) e = plug fs (bracket e)
plug (negation ∷ fs) e = plug fs (negate e)
plug (test x ∷ fs) e = plug fs (filter x e)

unfoldable ends : List Frame → List ℕ
ends [] = []
ends (left l o ∷ fs) = ends fs
ends (lead s ∷ fs) = ends fs
ends (paren ∷ fs) = ascii ")" ++ ends fs
ends (negation ∷ fs) = ascii ")" ++ ends fs
ends (test x ∷ fs) = ascii "]" ++ ends fs

plug_fits : (fs : List Frame) (e : Expr) → Fine fs → fits (floor fs) (takes_test fs) e ≡ true → fits 0 false (plug fs e) ≡ true
unfolding plug fits
plug_fits [] e f h = h
plug_fits (left l o ∷ fs) e f h =
    plug_fits fs (join o l e) f.3 (fits_join (floor fs) (takes_test fs) o l e (record { binds = f.1; sorted = f.2; on_left = f.0; on_right = h }))
plug_fits (lead s ∷ fs) e f h = plug_fits fs (rooted s e) f.1 (both_yes (le-leb (floor fs) 5 f.0) h)
plug_fits (paren ∷ fs) e f h = plug_fits fs (bracket e) f h
plug_fits (negation ∷ fs) e f h = plug_fits fs (negate e) f.1 (both_yes f.0 h)
plug_fits (test x ∷ fs) e f h = plug_fits fs (filter x e) f.1 (both_yes f.0 h)

plug_looks : (fs : List Frame) (e : Expr) → print (plug fs e) ≡ (shown fs ++ print e) ++ ends fs
unfolding plug shown ends
plug_looks [] e = sym (append-nil (print e))
plug_looks (left l o ∷ fs) e = plug_looks fs (join o l e) ∙ unfold print in simp append_assoc
plug_looks (lead s ∷ fs) e = plug_looks fs (rooted s e) ∙ unfold print in simp append_assoc
plug_looks (paren ∷ fs) e = plug_looks fs (bracket e) ∙ unfold print in simp append_assoc
plug_looks (negation ∷ fs) e = plug_looks fs (negate e) ∙ unfold print in simp append_assoc
plug_looks (test x ∷ fs) e = plug_looks fs (filter x e) ∙ unfold print in simp append_assoc

viable_less : (c w : List ℕ) → Viable (c ++ w) → Viable c
viable_less c w (q, g) = (w ++ q, subst (λ (t : List ℕ). Grammatical t) (append_assoc c w q) g)

plugged : (fs : List Frame) (e : Expr) (c w : List ℕ) → Fine fs → fits (floor fs) (takes_test fs) e ≡ true → shown fs ++ print e ≡ c ++ w → Viable c
plugged fs e c w f h p =
    viable_less c w (ends fs, record { path = plug fs e; sound = plug_fits fs e f h; looks = plug_looks fs e ∙ ap (λ (l : List ℕ). l ++ ends fs) p })

after_viable : (s : State) (c : List ℕ) → After s c → Viable c
unfolding in_focus fits print
after_viable (state fs want) c (f, u, look) =
    plugged fs dot c (ascii ".") f refl (ap (λ (l : List ℕ). l ++ ascii ".") (sym (append-nil (shown fs)) ∙ look))
after_viable (state fs (axis a)) c (f, h, look) =
    plugged fs (wildcard a star) c (ascii "*") f h (sym (append_assoc (shown fs) (axis_word a) (ascii "*")) ∙ ap (λ (l : List ℕ). l ++ ascii "*") look)
after_viable (state fs (have e)) c (f, h, look) =
    plugged fs e c [] f (fits_less e (floor fs) 7 (takes_test fs) (takes_test fs) (floor_most fs) (λ p. p) h) (look ∙ sym (append-nil c))

-- where it has not stopped, the text goes on to a grammatical one
pub good_viable : (p : Place State) (c : List ℕ) → Good After c p → is_dead p ≡ false → Viable c
good_viable dead c g h = no_yes h refl
good_viable (between s) c g h = after_viable s c g
good_viable (within []) c g h = absurd g
good_viable (within (choice m w s ∷ l)) c g h = viable_less c w (after_viable s (c ++ w) g.0)

-- where the reading of any text stands
pub good : (s : List ℕ) → Good After s (run next (between start) s)
unfolding shown in_focus
good s = run_good After next on s (between start) [] (tt, tt, refl)

-- an accepted text is what the path looks like that was read
pub sound : (s : List ℕ) (e : Expr) → outcome_of (run next (between start) s) ≡ accepted e → (fits 0 false e ≡ true) × (print e ≡ s)
unfolding shown in_focus
sound s e h = go (run next (between start) s) (good s) h
  where
    never : {B : Type 0} → refused ≡ accepted e → B
    never p = let z : ◌≡◌ {A = ℕ} 0 1 = cc in absurd (omega arith)

    done : (fs gs : List Frame) (d x : Expr) → Closing 0 fs d gs x → shown fs ++ print d ≡ s → whole gs x ≡ accepted e → (fits 0 false e ≡ true) × (print e ≡ s)
    done fs [] d x w look p =
        let q : x ≡ e = cc in
        (subst (λ (y : Expr). fits 0 false y ≡ true) q w.fit, ap print (sym q) ∙ w.looks ∙ look)
    done fs (g ∷ gs) d x w look p = never p

    go : (p : Place State) → Good After s p → outcome_of p ≡ accepted e → (fits 0 false e ≡ true) × (print e ≡ s)
    go dead g q = never q
    go (between (state fs want)) g q = never q
    go (between (state fs (axis a))) g q = never q
    go (between (state fs (have d))) g q =
        done fs (opened 0 fs) d (closed 0 fs d) (closing fs 0 7 d g.0 (omega arith) (floor_most fs) g.1) g.2 q
    go (within l) g q = never q
