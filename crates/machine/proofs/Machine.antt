-- The machine of focus and stack goes as the reading does.
use Prim.Native.Nat.{ℕ, zero, suc, ◌+◌, ◌≤◌, ◌<◌, max}
use native.Mathlib.Omega.{arith}
use mathlib.Core.Path.{◌≡◌, refl, sym, ap, ◌∙◌, subst}
use mathlib.Core.Logic.◌⊎◌.{inl, inr}
use mathlib.Core.Bool.{Bool, true, false, not, ◌&&◌, ◌||◌, cond}
use mathlib.Core.List.{List, [], ◌∷◌, ◌++◌, map}
use lib.ListN.{length, take, drop, get_or, length-take}
use lib.Dec.{leb, ltb, eqb}
use borrow.Author.Tests.{eqb-true, ne_eqb, ltb-true, ltb-false, lt-ltb}
use Rattle.model.proofs.Booleans.{no_yes, yes_left, yes_right}
use Rattle.model.specs.Lists.{equal}
use Rattle.std.specs.Prelude.{Result, Ok, Err}
use Rattle.machine.specs.declared.Move.{Move}
use Rattle.words.specs.Words.{common, slot, greater, scan_from, all_words, word_table}
use Rattle.grammar.specs.Grammar.{Expr, Op, ascii, elem, axes, axis_word, variables, name_bytes, is_name, level, left_level, logical, makes_test, fits}
use Rattle.grammar.specs.Grammar.Slash.{one, two}
use Rattle.grammar.specs.Grammar.Wildcard.{star}
use Rattle.grammar.specs.Grammar.Op.{or, and, same, union, intersect, except, slash}
use Rattle.grammar.specs.Grammar.Expr.{wildcard, named, dot, dots, variable, bracket, closure, negate, is, filter, rooted, join}
use Rattle.grammar.specs.Online.{Choice, run, reach}
use Rattle.grammar.specs.Online.Choice.{choice}
use Rattle.grammar.specs.Online.Place.{between}
use Rattle.grammar.specs.Automaton.{Frame, State, takes_test, opened, closed, is_path, is_dot, is_named, name_of, is_node, is_group, may_slash, slashed, may_filter, filtered, may_paren, parenthesised, may_join, joined, each, name_choice, longer, longer_choice, behind, next}
use Rattle.grammar.specs.Automaton.Frame.{left, lead, paren, negation, test}
use Rattle.grammar.specs.Automaton.Focus.{want, axis, have}
use Rattle.grammar.specs.Automaton.State.{state}
use Rattle.machine.specs.Machine.{Turn, reads, op_code, is_slash, codes_in, codes, letter_focus, letters_focus, name_focus, focus_code, top, takes, slashes, binds, pops, sort, mv, pushed, moved, want_may, slash_move, want_move, have_may, have_move, of_scan, letter_turn, have_turn, turn_of}
use Rattle.grammar.proofs.Online.{Offers, is_cons, offered_cons}
use Rattle.grammar.proofs.Choices.{Nth, Taken}
use Rattle.grammar.proofs.Reading.{filled, token, Reads, each_skip, each_at}
use Rattle.grammar.proofs.Soundness.{After, by_name}
use Rattle.machine.proofs.Letters.{name_high, name_more, name_node}
use Rattle.machine.proofs.Finding.{hits, most, is_between, greater_zero, stops}

-- the codes tell what the gaps do

takes_either : (b : Bool) → takes (cond b 11 10) ≡ b
takes_either true = refl
takes_either false = refl

pub takes_top : (fs : List Frame) → takes (top (codes fs)) ≡ takes_test fs
unfolding codes_in
takes_top [] = refl
takes_top (left l or ∷ fs) = refl
takes_top (left l and ∷ fs) = refl
takes_top (left l same ∷ fs) = refl
takes_top (left l union ∷ fs) = refl
takes_top (left l intersect ∷ fs) = refl
takes_top (left l except ∷ fs) = refl
takes_top (left l (slash one) ∷ fs) = refl
takes_top (left l (slash two) ∷ fs) = refl
takes_top (lead one ∷ fs) = refl
takes_top (lead two ∷ fs) = refl
takes_top (paren ∷ fs) = takes_either (takes_test fs)
takes_top (negation ∷ fs) = refl
takes_top (test e ∷ fs) = refl

slashes_either : (b : Bool) → slashes (cond b 11 10) ≡ true
slashes_either true = refl
slashes_either false = refl

slashes_top : (fs : List Frame) → slashes (top (codes fs)) ≡ may_slash fs
unfolding codes_in
slashes_top [] = refl
slashes_top (left l or ∷ fs) = refl
slashes_top (left l and ∷ fs) = refl
slashes_top (left l same ∷ fs) = refl
slashes_top (left l union ∷ fs) = refl
slashes_top (left l intersect ∷ fs) = refl
slashes_top (left l except ∷ fs) = refl
slashes_top (left l (slash one) ∷ fs) = refl
slashes_top (left l (slash two) ∷ fs) = refl
slashes_top (lead one ∷ fs) = refl
slashes_top (lead two ∷ fs) = refl
slashes_top (paren ∷ fs) = slashes_either (takes_test fs)
slashes_top (negation ∷ fs) = refl
slashes_top (test e ∷ fs) = refl

slash_either : (b : Bool) (ks : List ℕ) → moved (slash_move (cond b 11 10)) (cond b 11 10 ∷ ks) ≡ 8 ∷ cond b 11 10 ∷ ks
slash_either true ks = refl
slash_either false ks = refl

slash_codes : (fs : List Frame) → may_slash fs ≡ true → codes (slashed fs) ≡ moved (slash_move (top (codes fs))) (codes fs)
unfolding codes_in
slash_codes [] h = refl
slash_codes (left l or ∷ fs) h = refl
slash_codes (left l and ∷ fs) h = refl
slash_codes (left l same ∷ fs) h = refl
slash_codes (left l union ∷ fs) h = refl
slash_codes (left l intersect ∷ fs) h = refl
slash_codes (left l except ∷ fs) h = refl
slash_codes (left l (slash one) ∷ fs) h = refl
slash_codes (left l (slash two) ∷ fs) h = no_yes refl h
slash_codes (lead one ∷ fs) h = refl
slash_codes (lead two ∷ fs) h = no_yes refl h
slash_codes (paren ∷ fs) h = sym (slash_either (takes_test fs) (codes fs))
slash_codes (negation ∷ fs) h = refl
slash_codes (test e ∷ fs) h = refl

slash_focus : (t : ℕ) → (slash_move t).focus ≡ 0
slash_focus t = go (eqb t 6) (eqb t 8)
  where
    go : (a b : Bool) → (cond a (mv 0 1 7) (cond b (mv 0 0 9) (mv 0 0 8))).focus ≡ 0
    go true b = refl
    go false true = refl
    go false false = refl

filter_top : (fs : List Frame) → eqb (top (codes fs)) 13 ≡ may_filter fs
unfolding codes_in
filter_top [] = refl
filter_top (left l or ∷ fs) = refl
filter_top (left l and ∷ fs) = refl
filter_top (left l same ∷ fs) = refl
filter_top (left l union ∷ fs) = refl
filter_top (left l intersect ∷ fs) = refl
filter_top (left l except ∷ fs) = refl
filter_top (left l (slash one) ∷ fs) = refl
filter_top (left l (slash two) ∷ fs) = refl
filter_top (lead one ∷ fs) = refl
filter_top (lead two ∷ fs) = refl
filter_top (paren ∷ fs) = go (takes_test fs)
  where
    go : (b : Bool) → eqb (cond b 11 10) 13 ≡ false
    go true = refl
    go false = refl
filter_top (negation ∷ fs) = refl
filter_top (test e ∷ fs) = refl

paren_top : (fs : List Frame) → (ltb 9 (top (codes fs)) && ltb (top (codes fs)) 13) ≡ may_paren fs
unfolding codes_in
paren_top [] = refl
paren_top (left l or ∷ fs) = refl
paren_top (left l and ∷ fs) = refl
paren_top (left l same ∷ fs) = refl
paren_top (left l union ∷ fs) = refl
paren_top (left l intersect ∷ fs) = refl
paren_top (left l except ∷ fs) = refl
paren_top (left l (slash one) ∷ fs) = refl
paren_top (left l (slash two) ∷ fs) = refl
paren_top (lead one ∷ fs) = refl
paren_top (lead two ∷ fs) = refl
paren_top (paren ∷ fs) = go (takes_test fs)
  where
    go : (b : Bool) → (ltb 9 (cond b 11 10) && ltb (cond b 11 10) 13) ≡ true
    go true = refl
    go false = refl
paren_top (negation ∷ fs) = refl
paren_top (test e ∷ fs) = refl

-- closing gaps

pub binds_op : (n : ℕ) (o : Op) → binds n (op_code o) ≡ leb n (level o)
binds_op n or = refl
binds_op n and = refl
binds_op n same = refl
binds_op n union = refl
binds_op n intersect = refl
binds_op n except = refl
binds_op n (slash one) = refl
binds_op n (slash two) = refl

pub sort_op : (o : Op) → not (ltb (op_code o) 3) ≡ not (makes_test o)
sort_op or = refl
sort_op and = refl
sort_op same = refl
sort_op union = refl
sort_op intersect = refl
sort_op except = refl
sort_op (slash one) = refl
sort_op (slash two) = refl

pub binds_either : (n : ℕ) (b : Bool) → binds n (cond b 11 10) ≡ false
binds_either n true = refl
binds_either n false = refl

-- one gap on the stack: k its code, t whether it closes
popped : (t : Bool) (n k : ℕ) (ks : List ℕ) (g : Bool) (fs gs : List Frame) → binds n k ≡ t → (t ≡ false → codes_in g gs ≡ k ∷ ks) → codes_in g (opened n fs) ≡ drop (pops n ks) ks
    → codes_in g (cond t (opened n fs) gs) ≡ drop (pops n (k ∷ ks)) (k ∷ ks)
unfolding pops
popped true n k ks g fs gs e kept ih = rw e ih
popped false n k ks g fs gs e kept ih = rw e (kept refl)

-- the gaps of steps close before a slash, and then a leading '//' stands under a step; the others close with it
pub opened_codes : (fs : List Frame) (n : ℕ) (g h : Bool) → leb n 6 ≡ true → (leb n 5 || g) ≡ true → codes_in g (opened n fs) ≡ drop (pops n (codes_in h fs)) (codes_in h fs)
unfolding codes_in opened
opened_codes [] n g h l m = unfold pops in refl
opened_codes (left x o ∷ fs) n g h l m =
    popped (leb n (level o)) n (op_code o) (codes_in (is_slash o) fs) g fs (left x o ∷ fs) (binds_op n o) (λ _. refl) (opened_codes fs n g (is_slash o) l m)
opened_codes (lead one ∷ fs) n g h l m = popped (leb n 5) n 8 (codes_in false fs) g fs (lead one ∷ fs) refl (λ _. refl) (opened_codes fs n g false l m)
opened_codes (lead two ∷ fs) n g h l m = go h (popped (leb n 5) n 8 (codes_in false fs) g fs (lead two ∷ fs) refl single (opened_codes fs n g false l m))
  where
    -- where the gap 8 stays, the flag is set
    single : leb n 5 ≡ false → codes_in g (lead two ∷ fs) ≡ 8 ∷ codes_in false fs
    single e = let z : g ≡ true = ap (λ (b : Bool). b || g) (sym e) ∙ m in rw z

    go : (h : Bool) → codes_in g (opened n (lead two ∷ fs)) ≡ drop (pops n (8 ∷ codes_in false fs)) (8 ∷ codes_in false fs)
        → codes_in g (opened n (lead two ∷ fs)) ≡ drop (pops n (codes_in h (lead two ∷ fs))) (codes_in h (lead two ∷ fs))
    go true once = once
    go false once = unfold pops in rw l once
opened_codes (paren ∷ fs) n g h l m = popped false n (cond (takes_test fs) 11 10) (codes_in false fs) g fs (paren ∷ fs) (binds_either n (takes_test fs)) (λ _. refl) (opened_codes fs n g false l m)
opened_codes (negation ∷ fs) n g h l m = popped false n 12 (codes_in false fs) g fs (negation ∷ fs) refl (λ _. refl) (opened_codes fs n g false l m)
opened_codes (test e ∷ fs) n g h l m = popped false n 13 (codes_in false fs) g fs (test e ∷ fs) refl (λ _. refl) (opened_codes fs n g false l m)

pub closed_sort : (fs : List Frame) (h : Bool) (n : ℕ) (e : Expr) → leb n 6 ≡ true → leb n 5 ≡ true → is_path (closed n fs e) ≡ sort n (codes_in h fs) (is_path e)
unfolding codes_in closed sort
closed_sort [] h n e l m = refl
closed_sort (left x o ∷ fs) h n e l m =
    go (leb n (level o)) (binds n (op_code o)) (binds_op n o) (closed_sort fs (is_slash o) n (join o x e) l m ∙ unfold is_path in ap (sort n (codes_in (is_slash o) fs)) (sym (sort_op o)))
  where
    go : (t u : Bool) → u ≡ t → is_path (closed n fs (join o x e)) ≡ sort n (codes_in (is_slash o) fs) (not (ltb (op_code o) 3))
        → is_path (cond t (closed n fs (join o x e)) e) ≡ cond u (sort n (codes_in (is_slash o) fs) (not (ltb (op_code o) 3))) (is_path e)
    go true true p ih = ih
    go true false p ih = no_yes refl p
    go false true p ih = no_yes p refl
    go false false p ih = refl
closed_sort (lead one ∷ fs) h n e l m = rw m (closed_sort fs false n (rooted one e) l m ∙ unfold is_path in refl)
closed_sort (lead two ∷ fs) h n e l m = go h (closed_sort fs false n (rooted two e) l m ∙ unfold is_path in refl)
  where
    go : (h : Bool) → is_path (closed n fs (rooted two e)) ≡ sort n (codes_in false fs) true → is_path (closed n (lead two ∷ fs) e) ≡ sort n (codes_in h (lead two ∷ fs)) (is_path e)
    go true ih = rw m ih
    go false ih = rw (l, m) ih
closed_sort (paren ∷ fs) h n e l m = rw (binds_either n (takes_test fs))
closed_sort (negation ∷ fs) h n e l m = refl
closed_sort (test x ∷ fs) h n e l m = refl

-- the focus tells what stands in the innermost gap

pub focus_named : (e : Expr) → ltb 5 (focus_code (have e)) ≡ is_named e
unfolding focus_code
focus_named e = go (is_named e) (is_dot e) (is_group e) (is_path e)
  where
    go : (n d g p : Bool) → ltb 5 (cond n (name_focus (name_of e)) (cond d 5 (cond g 4 (cond p 3 2)))) ≡ n
    go true d g p = lt-ltb 5 (name_focus (name_of e)) (name_high (name_of e))
    go false true g p = refl
    go false false true p = refl
    go false false false true = refl
    go false false false false = refl

pub focus_node : (e : Expr) → eqb (focus_code (have e)) 10 ≡ is_node e
unfolding focus_code
focus_node e = go (is_named e) (is_dot e) (is_group e) (is_path e)
  where
    go : (n d g p : Bool) → eqb (cond n (name_focus (name_of e)) (cond d 5 (cond g 4 (cond p 3 2)))) 10 ≡ (n && equal (name_of e) (ascii "node"))
    go true d g p = name_node (name_of e)
    go false true g p = refl
    go false false true p = refl
    go false false false true = refl
    go false false false false = refl

bracket_code : (b : Bool) → (eqb (cond b 4 (cond b 3 2)) 5 ≡ false) × (eqb (cond b 4 (cond b 3 2)) 4 ≡ b) × (ltb 2 (cond b 4 (cond b 3 2)) ≡ b)
bracket_code true = (refl, refl, refl)
bracket_code false = (refl, refl, refl)

join_code : (b : Bool) → (eqb (cond b 3 2) 5 ≡ false) × (eqb (cond b 3 2) 4 ≡ false) × (ltb 2 (cond b 3 2) ≡ b)
join_code true = (refl, refl, refl)
join_code false = (refl, refl, refl)

-- whether it is '.', a bracket that holds a path, or any path
focus_tells : (e : Expr) → (eqb (focus_code (have e)) 5 ≡ is_dot e) × (eqb (focus_code (have e)) 4 ≡ is_group e) × (ltb 2 (focus_code (have e)) ≡ is_path e)
unfolding focus_code is_path
focus_tells (wildcard a w) = (refl, refl, refl)
focus_tells (named a name) =
    let h = name_high name in
    (ne_eqb (name_focus name) 5 (λ q. omega arith), ne_eqb (name_focus name) 4 (λ q. omega arith), lt-ltb 2 (name_focus name) (omega arith))
focus_tells dot = (refl, refl, refl)
focus_tells dots = (refl, refl, refl)
focus_tells (variable k) = (refl, refl, refl)
focus_tells (bracket e) = bracket_code (is_path e)
focus_tells (closure e) = (refl, refl, refl)
focus_tells (negate e) = (refl, refl, refl)
focus_tells (is k) = (refl, refl, refl)
focus_tells (filter e t) = (refl, refl, refl)
focus_tells (rooted s e) = (refl, refl, refl)
focus_tells (join o l r) = join_code (not (makes_test o))

pub focus_dot : (e : Expr) → eqb (focus_code (have e)) 5 ≡ is_dot e
focus_dot e = (focus_tells e).0

focus_group : (e : Expr) → eqb (focus_code (have e)) 4 ≡ is_group e
focus_group e = (focus_tells e).1

pub focus_path : (e : Expr) → ltb 2 (focus_code (have e)) ≡ is_path e
focus_path e = (focus_tells e).2

-- a search in a table of words that are those of the choices

greater_is : (a b : ℕ) → greater a b ≡ max a b
greater_is a b = go (ltb a b) refl
  where
    go : (t : Bool) → ltb a b ≡ t → cond t b a ≡ max a b
    go true p = let q : a < b = ltb-true a b p in omega arith
    go false p = let q : b ≤ a = ltb-false a b p in omega arith

greater_assoc : (a b c : ℕ) → greater (greater a b) c ≡ greater a (greater b c)
greater_assoc a b c = rw (greater_is (greater a b) c, greater_is a b, greater_is a (greater b c), greater_is b c) (omega arith)

-- what is added by a word that may not come is nothing
raised_greater : (m : Bool) (best c r : ℕ) → greater (cond m (greater best c) best) r ≡ greater best (greater (cond m c 0) r)
raised_greater true best c r = greater_assoc best c r
raised_greater false best c r = rw (greater_zero r)

-- the state x is what the step m makes of the gaps ks
abbrev pub Erases : Move → List ℕ → State → Type 0
Erases m ks (state gs f) = (codes gs ≡ moved m ks) × (focus_code f ≡ m.focus)

-- the choices are the words from k on, with their flags and steps
data Matches (words : List ℕ) (may : List Bool) (move : ℕ → Move) (ks : List ℕ) : ℕ → List (Choice State) → Type 0 where
  none : {k : ℕ} → Matches words may move ks k []
  row : {k : ℕ} {m : Bool} {w : List ℕ} {x : State} {l : List (Choice State)} → get_or may k false ≡ m → slot words k ≡ w → (m ≡ true → Erases (move k) ks x)
      → Matches words may move ks (suc k) l → Matches words may move ks k (choice m w x ∷ l)

module _ (words : List ℕ) (may : List Bool) (move : ℕ → Move) (ks : List ℕ) where
  module _ (t : List ℕ) where
    record Found (k : ℕ) (l : List (Choice State)) (j : ℕ) : Type 0 where
      found : List ℕ
      to : State
      offered : Offers l found to
      nth : (i : ℕ) × (j ≡ k + i) × Nth l i to
      stands : common found t ≡ length found
      slotted : slot words j ≡ found
      erases : Erases (move j) ks to

    later : (a : Choice State) (l : List (Choice State)) (k j : ℕ) → Found (suc k) l j → Found k (a ∷ l) j
    later (choice m w x) l k j f =
        record {
          found = f.found;
          to = f.to;
          offered = inr f.offered;
          nth = let (i, e, n) = f.nth in (suc i, omega arith, inr (i, refl, n));
          stands = f.stands;
          slotted = f.slotted;
          erases = f.erases;
        }

    scan_found : (l : List (Choice State)) (k best j : ℕ) → Matches words may move ks k l → scan_from words may t k (length l) best ≡ Ok j → Found k l j
    unfolding scan_from
    scan_found [] k best j none e = let z : ◌≡◌ {A = ℕ} 0 1 = cc in absurd (omega arith)
    scan_found (choice m w x ∷ l) k best j (row fl sl er h) e =
        go (get_or may k false && eqb (common (slot words k) t) (length (slot words k))) refl e (λ p. scan_found l (suc k) _ j h p)
      where
        go : (b : Bool) → (get_or may k false && eqb (common (slot words k) t) (length (slot words k))) ≡ b
            → cond b (Ok k) (scan_from words may t (suc k) (length l) (cond (get_or may k false) (greater best (common (slot words k) t)) best)) ≡ Ok j
            → (scan_from words may t (suc k) (length l) (cond (get_or may k false) (greater best (common (slot words k) t)) best) ≡ Ok j → Found (suc k) l j)
            → Found k (choice m w x ∷ l) j
        go true q p ih =
            let i : k ≡ j = cc in
            let n : m ≡ true = sym fl ∙ yes_left (get_or may k false) (eqb (common (slot words k) t) (length (slot words k))) q in
            let c : common (slot words k) t ≡ length (slot words k) = eqb-true (common (slot words k) t) (length (slot words k)) (yes_right (get_or may k false) (eqb (common (slot words k) t) (length (slot words k))) q) in
            record {
              found = w;
              to = x;
              offered = inl (n, refl, refl);
              nth = (0, omega arith, inl (refl, n, refl));
              stands = subst (λ (v : List ℕ). common v t ≡ length v) sl c;
              slotted = subst (λ (y : ℕ). slot words y ≡ w) i sl;
              erases = subst (λ (y : ℕ). Erases (move y) ks x) i (er n);
            }
        go false q p ih = later (choice m w x) l k j (ih p)

    scan_stop : (l : List (Choice State)) (k best p : ℕ) → Matches words may move ks k l → scan_from words may t k (length l) best ≡ Err p
        → (hits l t ≡ false) × (p ≡ greater best (most l t))
    unfolding scan_from hits most
    scan_stop [] k best p none e = (refl, (let q : best ≡ p = cc in sym q) ∙ sym (greater_is best 0 ∙ omega arith))
    scan_stop (choice m w x ∷ l) k best p (row fl sl er h) e =
        go (get_or may k false && eqb (common (slot words k) t) (length (slot words k))) refl e (λ q. scan_stop l (suc k) _ p h q)
      where
        go : (b : Bool) → (get_or may k false && eqb (common (slot words k) t) (length (slot words k))) ≡ b
            → cond b (Ok k) (scan_from words may t (suc k) (length l) (cond (get_or may k false) (greater best (common (slot words k) t)) best)) ≡ Err p
            → (scan_from words may t (suc k) (length l) (cond (get_or may k false) (greater best (common (slot words k) t)) best) ≡ Err p
            → (hits l t ≡ false) × (p ≡ greater (cond (get_or may k false) (greater best (common (slot words k) t)) best) (most l t)))
            → (((m && eqb (common w t) (length w)) || hits l t) ≡ false) × (p ≡ greater best (greater (cond m (common w t) 0) (most l t)))
        go true q r ih = let z : ◌≡◌ {A = ℕ} 0 1 = cc in absurd (omega arith)
        go false q r ih =
            let i = ih r in
            let n : (m && eqb (common w t) (length w)) ≡ false = shape (get_or may k false) (slot words k) fl sl q in
            (rw n i.0, i.1 ∙ shape' (get_or may k false) (slot words k) fl sl ∙ raised_greater m best (common w t) (most l t))
          where
            shape : (f : Bool) (v : List ℕ) → f ≡ m → v ≡ w → (f && eqb (common v t) (length v)) ≡ false → (m && eqb (common w t) (length w)) ≡ false
            shape f v a b r = rw (a, b) at r

            shape' : (f : Bool) (v : List ℕ) → f ≡ m → v ≡ w
                → greater (cond f (greater best (common v t)) best) (most l t) ≡ greater (cond m (greater best (common w t)) best) (most l t)
            shape' f v a b = rw (a, b)

-- a word that stands at the front of a text is its beginning
front : (w t : List ℕ) → common w t ≡ length w → take (length w) t ≡ w
unfolding common
front [] t h = refl
front (c ∷ w) [] h = let z : 0 ≡ suc (length w) = h in absurd (omega arith)
front (c ∷ w) (b ∷ t) h = go (eqb b c) refl h (front w t)
  where
    go : (k : Bool) → eqb b c ≡ k → cond k (suc (common w t)) 0 ≡ suc (length w) → (common w t ≡ length w → take (length w) t ≡ w)
        → b ∷ take (length w) t ≡ c ∷ w
    go true p q ih = let e : b ≡ c = eqb-true b c p in let r : take (length w) t ≡ w = ih (let z : common w t ≡ length w = omega arith in z) in cc
    go false p q ih = absurd (let z : 0 ≡ suc (length w) = q in omega arith)

-- what f has from k on, an entry for each of a list
abbrev span : {A : Type 0} → (ℕ → A) → ℕ → List ℕ → List A
span f k [] = []
span f k (j ∷ js) = f k ∷ span f (suc k) js

-- a row for each number of a list, all of one flag and one step
rows : {words : List ℕ} {may : List Bool} {move : ℕ → Move} {ks : List ℕ} {k : ℕ} {l : List (Choice State)} (m : Bool) (v : Move) (w : ℕ → List ℕ) (x : ℕ → State) (js : List ℕ)
    → span (λ i. get_or may i false) k js ≡ map (λ _. m) js → span (slot words) k js ≡ map w js → span move k js ≡ map (λ _. v) js
    → ((j : ℕ) → Erases v ks (x j)) → Matches words may move ks (k + length js) l → Matches words may move ks k (each (λ j. choice m (w j) (x j)) js l)
unfolding each
rows {words = words} {may = may} {move = move} {ks = ks} {k = k} {l = l} m v w x [] a b c e h = subst (λ (i : ℕ). Matches words may move ks i l) (let z : k + 0 ≡ k = omega arith in z) h
rows {words = words} {may = may} {move = move} {ks = ks} {k = k} {l = l} m v w x (j ∷ js) a b c e h =
    let flag : get_or may k false ≡ m = cc in
    let flags : span (λ i. get_or may i false) (suc k) js ≡ map (λ _. m) js = cc in
    let entry : slot words k ≡ w j = cc in
    let entries : span (slot words) (suc k) js ≡ map w js = cc in
    let step : v ≡ move k = cc in
    let steps : span move (suc k) js ≡ map (λ _. v) js = cc in
    let past : k + suc (length js) ≡ suc k + length js = omega arith in
    row flag entry (λ _. subst (λ (u : Move). Erases u ks (x j)) step (e j)) (rows m v w x js flags entries steps e (subst (λ (i : ℕ). Matches words may move ks i l) past h))

-- the words of the table are those of the choices

matches_want : (fs : List Frame) → Matches word_table (want_may (top (codes fs))) (want_move (top (codes fs))) (codes fs) 0 (next (state fs want))
unfolding next axes variables axis_word word_table all_words want_may want_move slot focus_code codes_in is_path
matches_want fs =
    rows true (mv 1 0 14) axis_word (λ a. state fs (axis a)) axes refl refl refl (λ _. (refl, refl))
    (rows true (mv 3 0 14) (λ k. ascii "$" ++ (48 + k) ∷ []) (λ k. state fs (have (variable k))) variables refl refl refl (λ _. (refl, refl))
    (row refl refl (λ _. (refl, refl))
    (row refl refl (λ _. (ap (λ (b : Bool). cond b 11 10 ∷ codes fs) (sym (takes_top fs)) ∙ either (takes (top (codes fs))), refl))
    (row (takes_top fs) refl (λ _. (refl, refl))
    (row (slashes_top fs) refl (λ h. (slash_codes fs h, sym (slash_focus (top (codes fs)))))
    none)))))
  where
    either : (b : Bool) → cond b 11 10 ∷ codes fs ≡ pushed (cond b 11 10) (codes fs)
    either true = refl
    either false = refl

drop_more : (p : ℕ) (ks l : List ℕ) (a : ℕ) → a ∷ l ≡ drop p ks → l ≡ drop (suc p) ks
drop_more zero [] l a h = let z : ◌≡◌ {A = ℕ} 0 1 = cc in absurd (omega arith)
drop_more zero (k ∷ ks) l a h = cc
drop_more (suc p) [] l a h = let z : ◌≡◌ {A = ℕ} 0 1 = cc in absurd (omega arith)
drop_more (suc p) (k ∷ ks) l a h = drop_more p ks l a h

filtered_erases : (gs : List Frame) (d : Expr) (ks : List ℕ) (p : ℕ) → codes gs ≡ drop p ks → may_filter gs ≡ true → Erases (mv 3 (suc p) 14) ks (filtered gs d)
unfolding codes_in focus_code is_path
filtered_erases [] d ks p h m = no_yes refl m
filtered_erases (left l o ∷ fs) d ks p h m = no_yes refl m
filtered_erases (lead s ∷ fs) d ks p h m = no_yes refl m
filtered_erases (paren ∷ fs) d ks p h m = no_yes refl m
filtered_erases (negation ∷ fs) d ks p h m = no_yes refl m
filtered_erases (test x ∷ fs) d ks p h m = (drop_more p ks (codes fs) 13 h, refl)

paren_erases : (gs : List Frame) (d : Expr) (ks : List ℕ) (p : ℕ) (b : Bool) → codes gs ≡ drop p ks → is_path d ≡ b → may_paren gs ≡ true
    → Erases (mv (cond (eqb (top (codes gs)) 12) 2 (cond b 4 2)) (suc p) 14) ks (parenthesised gs d)
unfolding codes_in focus_code is_path
paren_erases [] d ks p b h e m = no_yes refl m
paren_erases (left l o ∷ fs) d ks p b h e m = no_yes refl m
paren_erases (lead s ∷ fs) d ks p b h e m = no_yes refl m
paren_erases (paren ∷ fs) d ks p b h e m =
    (drop_more p ks (codes fs) (cond (takes_test fs) 11 10) h, ap (λ (t : Bool). cond t 4 (cond t 3 2)) e ∙ go b (takes_test fs))
  where
    go : (b t : Bool) → ◌≡◌ {A = ℕ} (cond b 4 (cond b 3 2)) (cond (eqb (cond t 11 10) 12) 2 (cond b 4 2))
    go true true = refl
    go true false = refl
    go false true = refl
    go false false = refl
paren_erases (negation ∷ fs) d ks p b h e m = (drop_more p ks (codes fs) 12 h, refl)
paren_erases (test x ∷ fs) d ks p b h e m = no_yes refl m

below_none : (o : Op) (ks : List ℕ) → op_code o ∷ ks ≡ pushed (op_code o) ks
below_none or ks = refl
below_none and ks = refl
below_none same ks = refl
below_none union ks = refl
below_none intersect ks = refl
below_none except ks = refl
below_none (slash one) ks = refl
below_none (slash two) ks = refl

join_erases : (o : Op) (fs : List Frame) (e : Expr) → Erases (mv 0 (pops (left_level o) (codes fs)) (op_code o)) (codes fs) (joined o fs e)
unfolding joined codes_in focus_code
join_erases o fs e =
    (ap (λ (l : List ℕ). op_code o ∷ l) (opened_codes fs (left_level o) (is_slash o) false (low o) (flag o)) ∙ below_none o (drop (pops (left_level o) (codes fs)) (codes fs)), refl)
  where
    low : (o : Op) → leb (left_level o) 6 ≡ true
    low or = refl
    low and = refl
    low same = refl
    low union = refl
    low intersect = refl
    low except = refl
    low (slash s) = refl

    flag : (o : Op) → (leb (left_level o) 5 || is_slash o) ≡ true
    flag or = refl
    flag and = refl
    flag same = refl
    flag union = refl
    flag intersect = refl
    flag except = refl
    flag (slash s) = refl

and_true : (b : Bool) → b ≡ (b && true)
and_true true = refl
and_true false = refl

module _ (fs : List Frame) (e : Expr) where
  abbrev focus : ℕ
  focus = focus_code (have e)

  is_may : (eqb focus 5 && takes (top (codes fs))) ≡ (is_dot e && takes_test fs)
  is_may = rw (focus_dot e, takes_top fs)

  inner : (n : ℕ) → leb n 6 ≡ true → leb n 5 ≡ true → top (drop (pops n (codes fs)) (codes fs)) ≡ top (codes (opened n fs))
  inner n l m = ap top (sym (opened_codes fs n false false l (rw m)))

  filter_may : eqb (top (drop (pops 0 (codes fs)) (codes fs))) 13 ≡ may_filter (opened 0 fs)
  filter_may = rw (inner 0 refl refl) (filter_top (opened 0 fs))

  paren_may : (ltb 9 (top (drop (pops 0 (codes fs)) (codes fs))) && ltb (top (drop (pops 0 (codes fs)) (codes fs))) 13) ≡ may_paren (opened 0 fs)
  paren_may = rw (inner 0 refl refl) (paren_top (opened 0 fs))

  or_may : takes (top (drop (pops 0 (codes fs)) (codes fs))) ≡ may_join or fs e
  unfolding may_join
  or_may = rw (inner 0 refl refl) (takes_top (opened 0 fs))

  and_may : takes (top (drop (pops 1 (codes fs)) (codes fs))) ≡ may_join and fs e
  unfolding may_join
  and_may = rw (inner 1 refl refl) (takes_top (opened 1 fs))

  same_may : (ltb 2 focus && takes (top (drop (pops 3 (codes fs)) (codes fs)))) ≡ may_join same fs e
  unfolding may_join
  same_may = rw (focus_path e, inner 3 refl refl, takes_top (opened 3 fs))

  plain_may : (o : Op) → logical o ≡ false → makes_test o ≡ false → ltb 2 focus ≡ may_join o fs e
  unfolding may_join
  plain_may o h g = rw (h, g) (focus_path e ∙ and_true (is_path e))

  paren_move : may_paren (opened 0 fs) ≡ true
      → Erases (mv (cond (eqb (top (drop (pops 0 (codes fs)) (codes fs))) 12) 2 (cond (sort 0 (codes fs) (ltb 2 focus)) 4 2)) (suc (pops 0 (codes fs))) 14) (codes fs) (parenthesised (opened 0 fs) (closed 0 fs e))
  paren_move m =
      subst (λ (b : Bool). Erases (mv (cond (eqb (top (drop (pops 0 (codes fs)) (codes fs))) 12) 2 (cond b 4 2)) (suc (pops 0 (codes fs))) 14) (codes fs) (parenthesised (opened 0 fs) (closed 0 fs e)))
      (closed_sort fs false 0 e refl refl ∙ ap (sort 0 (codes fs)) (sym (focus_path e)))
      (subst (λ (t : ℕ). Erases (mv (cond (eqb t 12) 2 (cond (is_path (closed 0 fs e)) 4 2)) (suc (pops 0 (codes fs))) 14) (codes fs) (parenthesised (opened 0 fs) (closed 0 fs e)))
      (sym (inner 0 refl refl))
      (paren_erases (opened 0 fs) (closed 0 fs e) (codes fs) (pops 0 (codes fs)) (is_path (closed 0 fs e)) (opened_codes fs 0 false false refl refl) refl m))

  matches_behind : Matches word_table (have_may focus (codes fs)) (have_move focus (codes fs)) (codes fs) 20 (behind fs e)
  unfolding variables axes axis_word word_table all_words have_may have_move slot focus_code codes_in is_path
  matches_behind =
      rows (is_dot e && takes_test fs) (mv 2 0 14) (λ k. ascii " is $" ++ (48 + k) ∷ []) (λ k. state fs (have (is k))) variables (ap (λ (b : Bool). b ∷ b ∷ b ∷ []) is_may) refl refl (λ _. (refl, refl))
      (row (focus_dot e) refl (λ _. (refl, refl))
      (row (focus_path e) refl (λ _. (refl, refl))
      (row filter_may refl (filtered_erases (opened 0 fs) (closed 0 fs e) (codes fs) (pops 0 (codes fs)) (opened_codes fs 0 false false refl refl))
      (row paren_may refl paren_move
      (row or_may refl (λ _. join_erases or fs e)
      (row and_may refl (λ _. join_erases and fs e)
      (row same_may refl (λ _. join_erases same fs e)
      (row (plain_may union refl refl) refl (λ _. join_erases union fs e)
      (row (plain_may intersect refl refl) refl (λ _. join_erases intersect fs e)
      (row (plain_may except refl refl) refl (λ _. join_erases except fs e)
      (row (plain_may (slash one) refl refl) refl (λ _. join_erases (slash one) fs e)
      (row (focus_node e) refl (λ _. (refl, refl))
      (row (focus_group e) refl (λ _. (refl, refl))
      none)))))))))))))

-- the turns of the machine

abbrev pub gaps_of : State → List ℕ
gaps_of (state fs f) = codes fs

-- from s, the first n bytes of t are read, which are the word k, and the step m is made
pub record Goes (s : State) (t : List ℕ) (k : ℕ) (m : Move) (n : ℕ) : Type 0 where
  pub to : State
  pub taken : Taken s k to
  pub reads : Reads s (take n t) to
  pub steps : Erases m (gaps_of s) to
  pub some : 1 ≤ n
  pub within' : n ≤ length t

-- from s, reading t stops after p bytes
pub record Halts (s : State) (t : List ℕ) (p : ℕ) : Type 0 where
  pub after : reach next (between s) t ≡ p
  pub unread : is_between (run next (between s) t) ≡ false

goes : (s to : State) (t w : List ℕ) (k : ℕ) (m : Move) (n : ℕ) → Taken s k to → Offers (next s) w to → take n t ≡ w → n ≡ length w → Erases m (gaps_of s) to → Goes s t k m n
goes s to t w k m n c o h i e =
    record {
      to = to;
      taken = c;
      reads = ap (run next (between s)) h ∙ token s to w o;
      steps = e;
      some = let a : 1 ≤ length w = filled_length w (offered_cons (next s) w to (filled s) o) in omega arith;
      within' = let a : length (take n t) ≡ n = ap length h ∙ sym i in let b = length-take n t in omega arith;
    }
  where
    filled_length : (w : List ℕ) → is_cons w ≡ true → 1 ≤ length w
    filled_length [] c = no_yes refl c
    filled_length (b ∷ w) c = omega arith

halts : (s : State) (b : ℕ) (t : List ℕ) (p : ℕ) → hits (next s) (b ∷ t) ≡ false → p ≡ most (next s) (b ∷ t) → Halts s (b ∷ t) p
halts s b t p h e = let w = stops next s b t (filled s) h in record { after = w.0 ∙ sym e; unread = w.1 }

slot_front : (w t : List ℕ) (j : ℕ) → slot word_table j ≡ w → common w t ≡ length w → take (length (slot word_table j)) t ≡ w
slot_front w t j e h = ap (λ (v : List ℕ). take (length v) t) e ∙ front w t h

nth_at : (l : List (Choice State)) (j : ℕ) (x : State) → ((i : ℕ) × (j ≡ 0 + i) × Nth l i x) → Nth l j x
nth_at l j x (i, e, n) = subst (λ (y : ℕ). Nth l y x) (let z : i ≡ j = omega arith in z) n

module _ (fs : List Frame) (t : List ℕ) where
  pub want_goes : (j : ℕ) → scan_from word_table (want_may (top (codes fs))) t 0 20 0 ≡ Ok j
      → Goes (state fs want) t j (want_move (top (codes fs)) j) (length (slot word_table j))
  want_goes j h =
      let f = scan_found word_table (want_may (top (codes fs))) (want_move (top (codes fs))) (codes fs) t (next (state fs want)) 0 0 j (matches_want fs) (unfold next each axes variables in h) in
      goes (state fs want) f.to t f.found j (want_move (top (codes fs)) j) (length (slot word_table j)) (nth_at (next (state fs want)) j f.to f.nth) f.offered (slot_front f.found t j f.slotted f.stands) (ap length f.slotted) f.erases

  pub want_halts : (b p : ℕ) → scan_from word_table (want_may (top (codes fs))) (b ∷ t) 0 20 0 ≡ Err p → Halts (state fs want) (b ∷ t) p
  want_halts b p h =
      let w = scan_stop word_table (want_may (top (codes fs))) (want_move (top (codes fs))) (codes fs) (b ∷ t) (next (state fs want)) 0 0 p (matches_want fs) (unfold next each axes variables in h) in
      halts (state fs want) b t p w.0 (w.1 ∙ greater_zero (most (next (state fs want)) (b ∷ t)))

-- names are read a byte at a time

each_miss : (m : Bool) (x : ℕ → State) (ks : List ℕ) (l : List (Choice State)) (b : ℕ) (t : List ℕ) → (m && elem b ks) ≡ false
    → (hits (each (λ k. choice m (k ∷ []) (x k)) ks l) (b ∷ t) ≡ hits l (b ∷ t)) × (most (each (λ k. choice m (k ∷ []) (x k)) ks l) (b ∷ t) ≡ most l (b ∷ t))
unfolding each elem hits most common
each_miss m x [] l b t h = (refl, refl)
each_miss m x (k ∷ ks) l b t h =
    go m (eqb b k) (elem b ks) h (λ i. each_miss m x ks l b t i)
  where
    rest : Bool → List (Choice State)
    rest m = each (λ k. choice m (k ∷ []) (x k)) ks l

    go : (m q u : Bool) → (m && (q || u)) ≡ false
        → ((m && u) ≡ false → (hits (rest m) (b ∷ t) ≡ hits l (b ∷ t)) × (most (rest m) (b ∷ t) ≡ most l (b ∷ t)))
        → (((m && eqb (cond q 1 0) 1) || hits (rest m) (b ∷ t)) ≡ hits l (b ∷ t)) × (greater (cond m (cond q 1 0) 0) (most (rest m) (b ∷ t)) ≡ most l (b ∷ t))
    go false q u h ih = let w = ih refl in (w.0, greater_zero (most (rest false) (b ∷ t)) ∙ w.1)
    go true true u h ih = no_yes h refl
    go true false u h ih = let w = ih h in (w.0, greater_zero (most (rest true) (b ∷ t)) ∙ w.1)

named_focus : (e : Expr) (p : Bool) (b : ℕ) → fits 7 p e ≡ true → is_named e ≡ true → focus_code (have (longer e b)) ≡ letter_focus (focus_code (have e)) b
unfolding focus_code fits
named_focus e p b h n =
    by_name (λ (x : Expr). fits 7 p x ≡ true → focus_code (have (longer x b)) ≡ letter_focus (focus_code (have x)) b)
    (λ a name f. name_more name b (yes_right (elem a axes) (is_name name) f))
    e n h

module _ (fs : List Frame) (e : Expr) (b : ℕ) (t : List ℕ) where
  abbrev scanned : Result ℕ ℕ
  scanned = scan_from word_table (have_may (focus_code (have e)) (codes fs)) (b ∷ t) 20 16 0

  pub name_goes : fits 7 (takes_test fs) e ≡ true → is_named e ≡ true → elem b name_bytes ≡ true
      → Goes (state fs (have e)) (b ∷ t) 36 (mv (letter_focus (focus_code (have e)) b) 0 14) 1
  unfolding next
  name_goes f n h =
      goes (state fs (have e)) (state fs (have (longer e b))) (b ∷ t) (b ∷ []) 36 (mv (letter_focus (focus_code (have e)) b) 0 14) 1 (inl (refl, n, b, h, refl))
      (each_at (longer_choice fs e) name_bytes (behind fs e) (b ∷ []) (state fs (have (longer e b))) b h (inl (n, refl, refl)))
      refl
      refl
      (refl, named_focus e (takes_test fs) b f n)

  pub have_goes : (j : ℕ) → scanned ≡ Ok j → Goes (state fs (have e)) (b ∷ t) j (have_move (focus_code (have e)) (codes fs) j) (length (slot word_table j))
  unfolding next
  have_goes j h =
      let f = scan_found word_table (have_may (focus_code (have e)) (codes fs)) (have_move (focus_code (have e)) (codes fs)) (codes fs) (b ∷ t) (behind fs e) 20 0 j (matches_behind fs e) (unfold each variables in h) in
      goes (state fs (have e)) f.to (b ∷ t) f.found j (have_move (focus_code (have e)) (codes fs) j) (length (slot word_table j)) (inr f.nth)
      (each_skip (longer_choice fs e) name_bytes (behind fs e) f.found f.to f.offered) (slot_front f.found (b ∷ t) j f.slotted f.stands) (ap length f.slotted) f.erases

  pub have_halts : (p : ℕ) → (is_named e && elem b name_bytes) ≡ false → scanned ≡ Err p → Halts (state fs (have e)) (b ∷ t) p
  unfolding next
  have_halts p n h =
      let w = scan_stop word_table (have_may (focus_code (have e)) (codes fs)) (have_move (focus_code (have e)) (codes fs)) (codes fs) (b ∷ t) (behind fs e) 20 0 p (matches_behind fs e) (unfold each variables in h) in
      let m = each_miss (is_named e) (λ k. state fs (have (longer e k))) name_bytes (behind fs e) b t n in
      halts (state fs (have e)) b t p (m.0 ∙ w.0) (w.1 ∙ greater_zero (most (behind fs e) (b ∷ t)) ∙ sym m.1)

module _ (fs : List Frame) (a b : ℕ) (t : List ℕ) where
  pub first_goes : elem b name_bytes ≡ true → Goes (state fs (axis a)) (b ∷ t) 36 (mv (letter_focus 1 b) 0 14) 1
  unfolding next focus_code name_focus letters_focus
  first_goes h =
      goes (state fs (axis a)) (state fs (have (named a (b ∷ [])))) (b ∷ t) (b ∷ []) 36 (mv (letter_focus 1 b) 0 14) 1 (inl (refl, b, h, refl))
      (each_at (name_choice fs a) name_bytes (choice true (ascii "*") (state fs (have (wildcard a star))) ∷ []) (b ∷ []) (state fs (have (named a (b ∷ [])))) b h (inl (refl, refl, refl)))
      refl
      refl
      (refl, refl)

  pub star_goes : b ≡ 42 → Goes (state fs (axis a)) (b ∷ t) 37 (mv 3 0 14) 1
  unfolding next focus_code is_path
  star_goes h =
      goes (state fs (axis a)) (state fs (have (wildcard a star))) (b ∷ t) (ascii "*") 37 (mv 3 0 14) 1 (inr (refl, refl))
      (each_skip (name_choice fs a) name_bytes (choice true (ascii "*") (state fs (have (wildcard a star))) ∷ []) (ascii "*") (state fs (have (wildcard a star))) (inl (refl, refl, refl)))
      (ap (λ (k : ℕ). k ∷ []) h)
      refl
      (refl, refl)

  pub axis_halts : elem b name_bytes ≡ false → eqb b 42 ≡ false → Halts (state fs (axis a)) (b ∷ t) 0
  unfolding next hits most common
  axis_halts h n =
      let m = each_miss true (λ k. state fs (have (named a (k ∷ [])))) name_bytes (choice true (ascii "*") (state fs (have (wildcard a star))) ∷ []) b t h in
      halts (state fs (axis a)) b t 0 (m.0 ∙ rw n) (sym (m.1 ∙ rw n))

-- a turn is what the reading does

abbrev pub focus_of : State → ℕ
focus_of (state fs f) = focus_code f

-- what a turn says of the state
abbrev pub Turned : State → List ℕ → Turn → Type 0
Turned s t (Ok w) = Goes s t w.number w.step w.len
Turned s t (Err p) = Halts s t p

pub past_axis : (e : Expr) → (eqb (focus_code (have e)) 0 ≡ false) × (eqb (focus_code (have e)) 1 ≡ false) × (ltb 1 (focus_code (have e)) ≡ true)
unfolding focus_code
past_axis e = tested (focus_code (have e)) (go (is_named e) (is_dot e) (is_group e) (is_path e))
  where
    tested : (f : ℕ) → 2 ≤ f → (eqb f 0 ≡ false) × (eqb f 1 ≡ false) × (ltb 1 f ≡ true)
    tested f h = (ne_eqb f 0 (λ q. omega arith), ne_eqb f 1 (λ q. omega arith), lt-ltb 1 f h)

    go : (n d g p : Bool) → 2 ≤ cond n (name_focus (name_of e)) (cond d 5 (cond g 4 (cond p 3 2)))
    go true d g p = let h = name_high (name_of e) in omega arith
    go false true g p = omega arith
    go false false true p = omega arith
    go false false false true = omega arith
    go false false false false = omega arith

pub turned : (s : State) (c : List ℕ) → After s c → (b : ℕ) (t : List ℕ) → Turned s (b ∷ t) (turn_of (focus_of s) (gaps_of s) (b ∷ t))
unfolding turn_of
turned (state fs want) c r b t = unfold focus_code in go (scan_from word_table (want_may (top (codes fs))) (b ∷ t) 0 20 0) refl
  where
    go : (r : Result ℕ ℕ) → scan_from word_table (want_may (top (codes fs))) (b ∷ t) 0 20 0 ≡ r → Turned (state fs want) (b ∷ t) (of_scan r (want_move (top (codes fs))))
    go (Ok k) e = want_goes fs (b ∷ t) k e
    go (Err p) e = want_halts fs t b p e
turned (state fs (axis a)) c r b t = unfold focus_code in go (elem b name_bytes) refl (eqb b 42) refl
  where
    go : (n : Bool) → elem b name_bytes ≡ n → (q : Bool) → eqb b 42 ≡ q → Turned (state fs (axis a)) (b ∷ t) (cond n (letter_turn 1 b) (cond q (reads 37 (mv 3 0 14) 1) (Err 0)))
    go true e q h = first_goes fs a b t e
    go false e true h = star_goes fs a b t (eqb-true b 42 h)
    go false e false h = axis_halts fs a b t e h
turned (state fs (have e)) c r b t = rw ((past_axis e).0, (past_axis e).1, focus_named e) (go (is_named e) refl (elem b name_bytes) refl)
  where
    scan : (is_named e && elem b name_bytes) ≡ false → (r : Result ℕ ℕ) → scan_from word_table (have_may (focus_code (have e)) (codes fs)) (b ∷ t) 20 16 0 ≡ r
        → Turned (state fs (have e)) (b ∷ t) (of_scan r (have_move (focus_code (have e)) (codes fs)))
    scan n (Ok k) h = have_goes fs e b t k h
    scan n (Err p) h = have_halts fs e b t p n h

    go : (m : Bool) → is_named e ≡ m → (n : Bool) → elem b name_bytes ≡ n
        → Turned (state fs (have e)) (b ∷ t) (cond (m && n) (letter_turn (focus_code (have e)) b) (have_turn (focus_code (have e)) (codes fs) (b ∷ t)))
    go true p true q = name_goes fs e b t r.1 p q
    go true p false q = scan (rw (p, q)) (scan_from word_table (have_may (focus_code (have e)) (codes fs)) (b ∷ t) 20 16 0) refl
    go false p n q = scan (rw p) (scan_from word_table (have_may (focus_code (have e)) (codes fs)) (b ∷ t) 20 16 0) refl
