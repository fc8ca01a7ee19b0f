-- The items that the machine writes, turn by turn, are the postfix form of what has been read.
use Prim.Native.Nat.{ℕ, zero, suc, ◌+◌, ◌-◌, ◌≤◌, ◌<◌}
use native.Mathlib.Omega.{arith}
use mathlib.Core.Path.{◌≡◌, refl, sym, ap, ◌∙◌, subst}
use mathlib.Core.Logic.{⊎_elim}
use mathlib.Core.Bool.{Bool, true, false, not, ◌&&◌, ◌||◌, cond}
use mathlib.Core.List.{List, [], ◌∷◌, ◌++◌, append_assoc, append-nil}
use lib.ListN.{drop}
use lib.Dec.{leb, ltb}
use borrow.Author.Tests.{leb-true, leb-false, le-leb, lt-leb, lt-ltb, le-ltb, not-true}
use Rattle.model.proofs.Booleans.{no_yes, yes_left, or_left, or_right, or_cases}
use Rattle.model.specs.Encoding.{path_term, expr_term}
use Rattle.grammar.specs.Grammar.{Expr, Op, Slash, from, axes, variables, level, logical, makes_test, fits}
use Rattle.grammar.specs.Grammar.Slash.{one, two}
use Rattle.grammar.specs.Grammar.Op.{or, and, same, union, intersect, except, slash}
use Rattle.grammar.specs.Grammar.Expr.{wildcard, named, dot, dots, variable, bracket, closure, negate, is, filter, rooted, join}
use Rattle.grammar.specs.Online.{Choice}
use Rattle.grammar.specs.Online.Choice.{choice}
use Rattle.grammar.specs.Automaton.{Frame, Focus, State, takes_test, floor, opened, closed, is_path, is_dot, is_named, axis_of, longer, as_node, is_group, as_closure, may_slash, slashed, may_filter, filtered, may_paren, parenthesised, each, axis_choice, variable_choice, is_choice, may_join, joined, next, start, whole, outcome_at}
use Rattle.grammar.specs.Automaton.Frame.{left, lead, paren, negation, test}
use Rattle.grammar.specs.Automaton.Focus.{want, axis, have}
use Rattle.grammar.specs.Automaton.State.{state}
use Rattle.grammar.specs.Automaton.Outcome.{accepted, refused}
use Rattle.grammar.specs.Typed.{below_by, expr_by, path_by, path_of, below, expr_of}
use Rattle.grammar.proofs.Choices.{Indexed, Every}
use Rattle.grammar.proofs.Reading.{fits_path, floor_most}
use Rattle.grammar.proofs.Soundness.{Fine, After, by_name, by_group, node_named, closing, joins_paths, path_closed}
use Rattle.machine.specs.Machine.{op_code, is_slash, codes_in, codes, focus_code, top, binds, pops, sort}
use Rattle.machine.proofs.Machine.{binds_op, binds_either, sort_op, closed_sort, opened_codes, focus_named, focus_dot, focus_path}
use Rattle.entries.specs.Postfix.{Item, postfix}
use Rattle.entries.specs.Postfix.Item.{leaf, unary, binary}
use Rattle.emission.specs.Items.{as_test, node_step, gap_items, close_items, pending, slash_items, wants_test, last_items, word_items, end_items}

-- the innermost gap is that behind a leading '//'
abbrev pub double : List Frame → Bool
double [] = false
double (left l o ∷ fs) = false
double (lead one ∷ fs) = false
double (lead two ∷ fs) = true
double (paren ∷ fs) = false
double (negation ∷ fs) = false
double (test e ∷ fs) = false

double_floor : (fs : List Frame) → double fs ≡ true → floor fs ≡ 6
double_floor [] d = no_yes refl d
double_floor (left l o ∷ fs) d = no_yes refl d
double_floor (lead one ∷ fs) d = no_yes refl d
double_floor (lead two ∷ fs) d = refl
double_floor (paren ∷ fs) d = no_yes refl d
double_floor (negation ∷ fs) d = no_yes refl d
double_floor (test e ∷ fs) d = no_yes refl d

-- slashes bind at 6, and the other operators more loosely
loose : (o : Op) → is_slash o ≡ false → level o ≤ 4
loose or h = omega arith
loose and h = omega arith
loose same h = omega arith
loose union h = omega arith
loose intersect h = omega arith
loose except h = omega arith
loose (slash s) h = no_yes h refl

slash_level : (o : Op) → is_slash o ≡ true → level o ≡ 6
slash_level or h = no_yes refl h
slash_level and h = no_yes refl h
slash_level same h = no_yes refl h
slash_level union h = no_yes refl h
slash_level intersect h = no_yes refl h
slash_level except h = no_yes refl h
slash_level (slash s) h = refl

join_sort : (o : Op) (l r : Expr) → not (ltb (op_code o) 3) ≡ is_path (join o l r)
unfolding is_path
join_sort o l r = sort_op o

double_plain : (fs : List Frame) → double fs ≡ true → takes_test fs ≡ false
double_plain [] d = refl
double_plain (left l o ∷ fs) d = no_yes refl d
double_plain (lead s ∷ fs) d = refl
double_plain (paren ∷ fs) d = no_yes refl d
double_plain (negation ∷ fs) d = no_yes refl d
double_plain (test e ∷ fs) d = no_yes refl d

-- what holds of a name's axis and bytes, if the expression is a name
abbrev pub NamedBy : (ℕ → List ℕ → Type 0) → Expr → Type 0
NamedBy P (wildcard a w) = Unit {0}
NamedBy P (named a name) = P a name
NamedBy P dot = Unit {0}
NamedBy P dots = Unit {0}
NamedBy P (variable k) = Unit {0}
NamedBy P (bracket e) = Unit {0}
NamedBy P (closure e) = Unit {0}
NamedBy P (negate e) = Unit {0}
NamedBy P (is k) = Unit {0}
NamedBy P (filter e t) = Unit {0}
NamedBy P (rooted s e) = Unit {0}
NamedBy P (join o l r) = Unit {0}

-- the machine's axis is the one that has been read
abbrev pub OnAxis : State → ℕ → Type 0
OnAxis (state fs want) a = Unit {0}
OnAxis (state fs (axis b)) a = a ≡ b
OnAxis (state fs (have e)) a = NamedBy (λ b name. a ≡ b) e

-- the words that name an axis or a variable, by their numbers

axis_items : (v f : ℕ) (ks : List ℕ) (a g : ℕ) → v < 13 → word_items f ks (0 + v) a g ≡ []
unfolding word_items
axis_items v f ks a g l = rw (lt-ltb (0 + v) 20 (omega arith), lt-ltb (0 + v) 13 (omega arith))

variable_items : (v f : ℕ) (ks : List ℕ) (a g : ℕ) → v < 3 → word_items f ks (13 + v) a g ≡ leaf 6 v 0 ∷ []
unfolding word_items
variable_items v f ks a g l =
    rw (lt-ltb (13 + v) 20 (omega arith), le-ltb (13 + v) 13 (omega arith), lt-ltb (13 + v) 16 (omega arith))
    (ap (λ (i : ℕ). leaf 6 i 0 ∷ []) (let e : 13 + v - 13 ≡ v = omega arith in e))

is_items : (v f : ℕ) (ks : List ℕ) (a g : ℕ) → v < 3 → word_items f ks (20 + v) a g ≡ leaf 12 v 0 ∷ []
unfolding word_items
is_items v f ks a g l =
    rw (le-ltb (20 + v) 20 (omega arith), lt-ltb (20 + v) 34 (omega arith), lt-ltb (20 + v) 23 (omega arith))
    (ap (λ (i : ℕ). leaf 12 i 0 ∷ []) (let e : 20 + v - 20 ≡ v = omega arith in e))

indexed_cons : (P : ℕ → State → Type 0) (k : ℕ) (a : Choice State) (l : List (Choice State)) → Indexed P k (a ∷ []) → Indexed P (suc k) l → Indexed P k (a ∷ l)
indexed_cons P k (choice m w x) l h r = (h.0, r)

-- choices for the numbers from k on, where b + k is the number of the first
each_from : (P : ℕ → State → Type 0) (b : ℕ) (f : ℕ → Choice State) (l : List (Choice State)) (n k : ℕ)
    → ((v : ℕ) → v < k + n → Indexed P (b + v) (f v ∷ [])) → Indexed P (b + (k + n)) l → Indexed P (b + k) (each f (from k n) l)
unfolding each
each_from P b f l zero k h r = subst (λ (j : ℕ). Indexed P j l) (let e : b + (k + 0) ≡ b + k = omega arith in e) r
each_from P b f l (suc n) k h r =
    indexed_cons P (b + k) (f k) (each f (from (suc k) n) l) (h k (omega arith))
    (subst (λ (j : ℕ). Indexed P j (each f (from (suc k) n) l)) (let e : b + suc k ≡ suc (b + k) = omega arith in e)
    (each_from P b f l n (suc k) (λ v q. h v (omega arith)) (subst (λ (j : ℕ). Indexed P j l) (let e : b + (k + suc n) ≡ b + (suc k + n) = omega arith in e) r)))

-- the axis that the machine knows is still right behind word number k: it is k itself, if k is that of an axis
abbrev pub AxisOn : State → ℕ → State → Type 0
AxisOn s k x = (a : ℕ) → OnAxis s a → OnAxis x (cond (ltb k 13) k a)

filtered_axis : (gs : List Frame) (d : Expr) (a : ℕ) → may_filter gs ≡ true → OnAxis (filtered gs d) a
filtered_axis [] d a m = no_yes refl m
filtered_axis (left l o ∷ fs) d a m = no_yes refl m
filtered_axis (lead s ∷ fs) d a m = no_yes refl m
filtered_axis (paren ∷ fs) d a m = no_yes refl m
filtered_axis (negation ∷ fs) d a m = no_yes refl m
filtered_axis (test e ∷ fs) d a m = tt

parenthesised_axis : (gs : List Frame) (d : Expr) (a : ℕ) → may_paren gs ≡ true → OnAxis (parenthesised gs d) a
parenthesised_axis [] d a m = no_yes refl m
parenthesised_axis (left l o ∷ fs) d a m = no_yes refl m
parenthesised_axis (lead s ∷ fs) d a m = no_yes refl m
parenthesised_axis (paren ∷ fs) d a m = tt
parenthesised_axis (negation ∷ fs) d a m = tt
parenthesised_axis (test e ∷ fs) d a m = no_yes refl m

pub axis_on : (s : State) → Every AxisOn s
unfolding next axes variables joined
axis_on (state fs want) =
    each_from (AxisOn (state fs want)) 0 (axis_choice fs) _ 13 0 (λ v l. (λ _ a p. named_axis v a l, tt))
    (each_from (AxisOn (state fs want)) 13 (variable_choice fs) _ 3 0 (λ v l. (λ _ a p. tt, tt))
    (λ _ a p. tt, (λ _ a p. tt, (λ _ a p. tt, (λ _ a p. tt, tt)))))
  where
    named_axis : (v a : ℕ) → v < 13 → cond (ltb (0 + v) 13) (0 + v) a ≡ v
    named_axis v a l = rw (lt-ltb (0 + v) 13 (omega arith)) (omega arith)
axis_on (state fs (axis b)) = (λ i h a p. p, λ a p. tt)
axis_on (state fs (have e)) = (
  λ n b k a. by_name (λ (x : Expr). OnAxis (state fs (have x)) a → OnAxis (state fs (have (longer x b))) a) (λ i name p. p) e n,
  each_from (AxisOn (state fs (have e))) 20 (is_choice fs e) _ 3 0 (λ v l. (λ _ a p. tt, tt)) (
    λ _ a p. tt,
    (
      λ _ a p. tt,
      (
        λ m a p. filtered_axis (opened 0 fs) (closed 0 fs e) a m,
        (
          λ m a p. parenthesised_axis (opened 0 fs) (closed 0 fs e) a m,
          (λ _ a p. tt, (λ _ a p. tt, (λ _ a p. tt, (λ _ a p. tt, (λ _ a p. tt, (λ _ a p. tt, (λ _ a p. tt, (λ _ a p. tt, (λ _ a p. tt, tt))))))))),
        ),
      ),
    ),
  ),
)

-- no text is read whole that ends where an expression is wanted
never : {B : Type 0} (e : Expr) → refused ≡ accepted e → B
never e p = let z : ◌≡◌ {A = ℕ} 0 1 = cc in absurd (omega arith)

module _ (tag : List ℕ → ℕ) where
  -- an expression in postfix order: a path; a node expression; a run of steps behind '//'; and as it stands
  abbrev pub path_items : Expr → List Item
  path_items e = postfix (path_term (path_of e tag))

  abbrev pub test_items : Expr → List Item
  test_items e = postfix (expr_term (expr_of e tag))

  abbrev pub below_items : Expr → List Item
  below_items e = postfix (path_term (below e tag))

  abbrev pub value : Expr → List Item
  value e = cond (is_path e) (path_items e) (test_items e)

  value_path : (e : Expr) → is_path e ≡ true → value e ≡ path_items e
  value_path e h = rw h

  -- a path as a node expression has one item more
  test_value : (e : Expr) → test_items e ≡ value e ++ as_test (is_path e)
  unfolding is_path path_by expr_by path_term expr_term postfix
  test_value (wildcard a w) = refl
  test_value (named a name) = refl
  test_value dot = refl
  test_value dots = refl
  test_value (variable k) = refl
  test_value (bracket e) = test_value e
  test_value (closure e) = refl
  test_value (negate e) = sym (append-nil (test_items (negate e)))
  test_value (is k) = refl
  test_value (filter e t) = refl
  test_value (rooted one e) = refl
  test_value (rooted two e) = refl
  test_value (join or l r) = sym (append-nil (test_items (join or l r)))
  test_value (join and l r) = sym (append-nil (test_items (join and l r)))
  test_value (join same l r) = sym (append-nil (test_items (join same l r)))
  test_value (join union l r) = refl
  test_value (join intersect l r) = refl
  test_value (join except l r) = refl
  test_value (join (slash one) l r) = refl
  test_value (join (slash two) l r) = refl

  tested : (e : Expr) (a c : List Item) → a ++ (test_items e ++ c) ≡ a ++ (value e ++ (as_test (is_path e) ++ c))
  tested e a c = ap (λ (l : List Item). a ++ l) (ap (λ (l : List Item). l ++ c) (test_value e) ∙ append_assoc (value e) (as_test (is_path e)) c)

  -- behind '//' one step is composed with the step that '//' stands for
  below_step : (e : Expr) → fits 7 false e ≡ true → below_items e ≡ node_step 11 ∷ (path_items e ++ (binary 1 ∷ []))
  unfolding fits below_by path_by path_term postfix
  below_step (wildcard a w) h = refl
  below_step (named a name) h = refl
  below_step dot h = refl
  below_step dots h = refl
  below_step (variable k) h = refl
  below_step (bracket e) h = refl
  below_step (closure e) h = refl
  below_step (negate e) h = no_yes refl h
  below_step (is k) h = no_yes refl h
  below_step (filter e t) h = refl
  below_step (rooted s e) h = no_yes refl h
  below_step (join or l r) h = no_yes refl h
  below_step (join and l r) h = no_yes refl h
  below_step (join same l r) h = no_yes refl h
  below_step (join union l r) h = no_yes refl h
  below_step (join intersect l r) h = no_yes refl h
  below_step (join except l r) h = no_yes refl h
  below_step (join (slash s) l r) h = no_yes refl h

  -- a run of steps in a gap: behind a leading '//' it includes the step that '//' stands for
  unfoldable pub run_items : List Frame → Expr → List Item
  run_items fs e = cond (double fs) (below_items e) (path_items e)

  run_one : (fs : List Frame) (l r : Expr) → run_items fs l ++ (path_items r ++ (binary 1 ∷ [])) ≡ run_items fs (join (slash one) l r)
  unfolding run_items
  run_one fs l r = go (double fs)
    where
      go : (b : Bool)
          → cond b (below_items l) (path_items l) ++ (path_items r ++ (binary 1 ∷ [])) ≡ cond b (below_items (join (slash one) l r)) (path_items (join (slash one) l r))
      go true = unfold below_by path_term postfix in refl
      go false = unfold path_by path_term postfix in refl

  run_two : (fs : List Frame) (l r : Expr)
      → (run_items fs l ++ (node_step 11 ∷ binary 1 ∷ [])) ++ (path_items r ++ (binary 1 ∷ [])) ≡ run_items fs (join (slash two) l r)
  unfolding run_items
  run_two fs l r = go (double fs)
    where
      go : (b : Bool)
          → (cond b (below_items l) (path_items l) ++ (node_step 11 ∷ binary 1 ∷ [])) ++ (path_items r ++ (binary 1 ∷ []))
          ≡ cond b (below_items (join (slash two) l r)) (path_items (join (slash two) l r))
      go true = unfold below_by path_term postfix in refl
      go false = unfold path_by path_term postfix in refl

  -- the left operand of an operator whose gap stands in the gaps fs
  unfoldable pub operand : Op → List Frame → Expr → List Item
  operand or fs l = test_items l
  operand and fs l = test_items l
  operand same fs l = path_items l
  operand union fs l = path_items l
  operand intersect fs l = path_items l
  operand except fs l = path_items l
  operand (slash one) fs l = run_items fs l
  operand (slash two) fs l = run_items fs l ++ (node_step 11 ∷ binary 1 ∷ [])

  -- what has been written before a gap; the flag says that what stands in it is a run of steps, as in `codes_in`
  unfoldable pub emitted_in : Bool → List Frame → List Item
  emitted_in run [] = []
  emitted_in run (left l o ∷ fs) = emitted_in (is_slash o) fs ++ operand o fs l
  emitted_in run (lead one ∷ fs) = emitted_in false fs
  emitted_in run (lead two ∷ fs) = emitted_in false fs ++ cond run [] (node_step 11 ∷ [])
  emitted_in run (paren ∷ fs) = emitted_in false fs
  emitted_in run (negation ∷ fs) = emitted_in false fs
  emitted_in run (test e ∷ fs) = emitted_in false fs ++ path_items e

  -- what stands in it
  unfoldable standing : Bool → List Frame → Expr → List Item
  standing run fs e = cond run (run_items fs e) (value e)

  standing_plain : (run : Bool) (fs : List Frame) (e : Expr) → double fs ≡ false → (run ≡ true → is_path e ≡ true) → standing run fs e ≡ value e
  unfolding standing run_items
  standing_plain true fs e d h = rw d (sym (value_path e (h refl)))
  standing_plain false fs e d h = refl

  same_in : (r q : Bool) (fs : List Frame) → double fs ≡ false → emitted_in r fs ≡ emitted_in q fs
  unfolding emitted_in
  same_in r q [] d = refl
  same_in r q (left l o ∷ fs) d = refl
  same_in r q (lead one ∷ fs) d = refl
  same_in r q (lead two ∷ fs) d = no_yes d refl
  same_in r q (paren ∷ fs) d = refl
  same_in r q (negation ∷ fs) d = refl
  same_in r q (test e ∷ fs) d = refl

  -- an operator closes over its operands
  join_items : (o : Op) (fs : List Frame) (x e : Expr) → (not (logical o) ≡ true → is_path e ≡ true)
      → operand o fs x ++ (value e ++ gap_items (op_code o) (is_path e)) ≡ standing (is_slash o) fs (join o x e)
  join_items o fs x e h = go o h
    where
      plain : (a : List Item) (k : ℕ) → is_path e ≡ true → a ++ (value e ++ (binary k ∷ [])) ≡ a ++ (path_items e ++ (binary k ∷ []))
      plain a k p = ap (λ (l : List Item). a ++ (l ++ (binary k ∷ []))) (value_path e p)

      go : (o : Op) → (not (logical o) ≡ true → is_path e ≡ true) → operand o fs x ++ (value e ++ gap_items (op_code o) (is_path e)) ≡ standing (is_slash o) fs (join o x e)
      go or p = unfold operand standing is_path expr_by expr_term postfix in sym (tested e (test_items x) (binary 11 ∷ []))
      go and p = unfold operand standing is_path expr_by expr_term postfix in sym (tested e (test_items x) (binary 10 ∷ []))
      go same p = unfold operand standing is_path expr_by expr_term postfix in plain (path_items x) 14 (p refl)
      go union p = unfold operand standing is_path path_by path_term postfix in plain (path_items x) 2 (p refl)
      go intersect p = unfold operand standing is_path path_by path_term postfix in plain (path_items x) 3 (p refl)
      go except p = unfold operand standing is_path path_by path_term postfix in plain (path_items x) 4 (p refl)
      go (slash one) p = unfold operand standing in plain (run_items fs x) 1 (p refl) ∙ run_one fs x e
      go (slash two) p = unfold operand standing in plain (run_items fs x ++ (node_step 11 ∷ binary 1 ∷ [])) 1 (p refl) ∙ run_two fs x e

  -- e stands in the gaps fs, and closes those that bind at n or tighter: it is a path wherever one is asked for, and one step behind '//'
  record Stands (run : Bool) (n : ℕ) (fs : List Frame) (e : Expr) : Type 0 where
    in_run : run ≡ true → is_path e ≡ true
    tight : leb 6 n ≡ true → is_path e ≡ true
    plain : takes_test fs ≡ false → is_path e ≡ true
    single : run ≡ false → double fs ≡ true → fits 7 false e ≡ true

  -- no gap closes
  stays : (n : ℕ) (r : Bool) (fs : List Frame) (e : Expr) → double fs ≡ false → Stands r n fs e
      → emitted_in r fs ++ (standing r fs e ++ []) ≡ emitted_in (leb 6 n) fs ++ standing (leb 6 n) fs e
  stays n r fs e d s =
      ap (λ (l : List Item). emitted_in r fs ++ l) (append-nil (standing r fs e) ∙ standing_plain r fs e d s.in_run ∙ sym (standing_plain (leb 6 n) fs e d s.tight))
      ∙ ap (λ (l : List Item). l ++ standing (leb 6 n) fs e) (same_in r (leb 6 n) fs d)

  regroup : (a o s g c d : List Item) → o ++ (s ++ g) ≡ d → (a ++ o) ++ (s ++ (g ++ c)) ≡ a ++ (d ++ c)
  regroup a o s g c d p = group ∙ ap (λ (l : List Item). a ++ (l ++ c)) p
    where
      group : (a ++ o) ++ (s ++ (g ++ c)) ≡ a ++ ((o ++ (s ++ g)) ++ c)
      group = simp append_assoc

  -- the gaps close
  abbrev Closes : ℕ → Bool → List Frame → Expr → Type 0
  Closes n r fs e =
      emitted_in r fs ++ (standing r fs e ++ close_items n (codes_in r fs) (is_path e)) ≡ emitted_in (leb 6 n) (opened n fs) ++ standing (leb 6 n) (opened n fs) (closed n fs e)

  join_stands : (n : ℕ) (o : Op) (x e : Expr) (fs : List Frame) → n ≤ level o → floor fs ≤ level o → (not (makes_test o) || takes_test fs) ≡ true
      → Stands (is_slash o) n fs (join o x e)
  unfolding is_path
  join_stands n o x e fs l k h =
      record {
        in_run = λ p. let q = slash_level o p in joins_paths o (omega arith);
        tight = λ p. let q : 6 ≤ n = leb-true 6 n p in joins_paths o (omega arith);
        plain = λ p. ⊎_elim (λ q. q) (λ q. no_yes p q) (or_cases (not (makes_test o)) (takes_test fs) h);
        single = λ p d. let q = double_floor fs d in let w = loose o p in absurd (omega arith);
      }

  rooted_stands : (n : ℕ) (t : Slash) (e : Expr) (fs : List Frame) → floor fs ≤ 5 → Stands false n fs (rooted t e)
  unfolding is_path
  rooted_stands n t e fs k =
      record {
        in_run = λ p. refl;
        tight = λ p. refl;
        plain = λ p. refl;
        single = λ p d. let q = double_floor fs d in absurd (omega arith);
      }

  -- behind a leading '//': the gap of the first step, where it is still open, and that of the slash
  lead_close : (n : ℕ) (r p : Bool) (ks : List ℕ) → n ≤ 6
      → close_items n (cond r (8 ∷ ks) (9 ∷ 8 ∷ ks)) p ≡ cond r [] (binary 1 ∷ []) ++ cond (leb n 5) ((unary 7 ∷ []) ++ close_items n ks true) []
  unfolding close_items
  lead_close n true p ks l = refl
  lead_close n false p ks l = rw (le-leb n 6 l)

  lead_stays : (n : ℕ) (fs : List Frame) (e : Expr) → leb 6 n ≡ true
      → (emitted_in false fs ++ []) ++ below_items e ≡ emitted_in (leb 6 n) (lead two ∷ fs) ++ standing (leb 6 n) (lead two ∷ fs) e
  unfolding emitted_in standing run_items
  lead_stays n fs e h = rw h

  root_one : (e : Expr) (c : List Item) → path_items e ++ ((unary 7 ∷ []) ++ c) ≡ path_items (rooted one e) ++ c
  unfolding path_by path_term postfix
  root_one e c = sym (append_assoc (path_items e) (unary 7 ∷ []) c)

  module _ (e : Expr) (plain : is_path e ≡ true) (a : List Item) where
    rooted_items : (r : Bool) (c : List Item) → (r ≡ false → fits 7 false e ≡ true)
        → (a ++ cond r [] (node_step 11 ∷ [])) ++ (cond r (below_items e) (value e) ++ (cond r [] (binary 1 ∷ []) ++ ((unary 7 ∷ []) ++ c))) ≡ a ++ (path_items (rooted two e) ++ c)
    unfolding path_by path_term postfix
    rooted_items true c k = rw (append-nil a) (simp append_assoc)
    rooted_items false c k = rw (value_path e plain, below_step e (k refl)) (simp append_assoc)

    step_items_lem : (r : Bool) → (r ≡ false → fits 7 false e ≡ true)
        → (a ++ cond r [] (node_step 11 ∷ [])) ++ (cond r (below_items e) (value e) ++ (cond r [] (binary 1 ∷ []) ++ [])) ≡ (a ++ []) ++ below_items e
    step_items_lem true k = rw (append-nil (below_items e))
    step_items_lem false k = rw (value_path e plain, below_step e (k refl)) (simp append_assoc)

  closes : (fs : List Frame) (n : ℕ) (r : Bool) (e : Expr) → n ≤ 6 → Fine fs → Stands r n fs e → Closes n r fs e
  unfolding emitted_in opened closed codes_in close_items standing run_items is_path
  closes [] n r e l f s = unfold emitted_in opened in stays n r [] e refl s
  closes (left x o ∷ fs) n r e l f s =
      go (leb n (level o)) (binds n (op_code o)) refl (binds_op n o) (λ q. closes fs n (is_slash o) (join o x e) l f.3 (join_stands n o x e fs q f.1 f.2))
    where
      go : (t u : Bool) → leb n (level o) ≡ t → u ≡ t → (n ≤ level o → Closes n (is_slash o) fs (join o x e))
          → (emitted_in (is_slash o) fs ++ operand o fs x) ++ (standing r (left x o ∷ fs) e ++ cond u (gap_items (op_code o) (is_path e) ++ close_items n (codes_in (is_slash o) fs) (not (ltb (op_code o) 3))) [])
          ≡ emitted_in (leb 6 n) (cond t (opened n fs) (left x o ∷ fs)) ++ standing (leb 6 n) (cond t (opened n fs) (left x o ∷ fs)) (cond t (closed n fs (join o x e)) e)
      go true true p q ih =
          ap (λ (l : List Item). (emitted_in (is_slash o) fs ++ operand o fs x) ++ (l ++ (gap_items (op_code o) (is_path e) ++ close_items n (codes_in (is_slash o) fs) (not (ltb (op_code o) 3))))) (standing_plain r (left x o ∷ fs) e refl s.in_run)
          ∙ regroup (emitted_in (is_slash o) fs) (operand o fs x) (value e) (gap_items (op_code o) (is_path e)) (close_items n (codes_in (is_slash o) fs) (not (ltb (op_code o) 3))) (standing (is_slash o) fs (join o x e)) (join_items o fs x e (λ h. s.plain (not-true (logical o) h)))
          ∙ ap (λ (b : Bool). emitted_in (is_slash o) fs ++ (standing (is_slash o) fs (join o x e) ++ close_items n (codes_in (is_slash o) fs) b)) (join_sort o x e)
          ∙ ih (leb-true n (level o) p)
      go true false p q ih = no_yes refl q
      go false true p q ih = no_yes q refl
      go false false p q ih = unfold emitted_in in stays n r (left x o ∷ fs) e refl s
  closes (lead one ∷ fs) n r e l f s = go (leb n 5) refl (closes fs n false (rooted one e) l f.1 (rooted_stands n one e fs f.0))
    where
      go : (t : Bool) → leb n 5 ≡ t
          → emitted_in false fs ++ (path_items (rooted one e) ++ close_items n (codes_in false fs) true) ≡ emitted_in (leb 6 n) (opened n fs) ++ standing (leb 6 n) (opened n fs) (closed n fs (rooted one e))
          → emitted_in false fs ++ (standing r (lead one ∷ fs) e ++ cond t ((unary 7 ∷ []) ++ close_items n (codes_in false fs) true) [])
          ≡ emitted_in (leb 6 n) (cond t (opened n fs) (lead one ∷ fs)) ++ standing (leb 6 n) (cond t (opened n fs) (lead one ∷ fs)) (cond t (closed n fs (rooted one e)) e)
      go true p ih =
          ap (λ (l : List Item). emitted_in false fs ++ (l ++ ((unary 7 ∷ []) ++ close_items n (codes_in false fs) true))) (standing_plain r (lead one ∷ fs) e refl s.in_run ∙ value_path e (s.plain refl))
          ∙ ap (λ (l : List Item). emitted_in false fs ++ l) (root_one e (close_items n (codes_in false fs) true))
          ∙ ih
      go false p ih = unfold emitted_in in stays n r (lead one ∷ fs) e refl s
  closes (lead two ∷ fs) n r e l f s =
      ap (λ (c : List Item). (emitted_in false fs ++ cond r [] (node_step 11 ∷ [])) ++ (standing r (lead two ∷ fs) e ++ c)) (lead_close n r (is_path e) (codes_in false fs) l)
      ∙ go (leb n 5) refl (closes fs n false (rooted two e) l f.1 (rooted_stands n two e fs f.0))
    where
      go : (t : Bool) → leb n 5 ≡ t
          → emitted_in false fs ++ (path_items (rooted two e) ++ close_items n (codes_in false fs) true) ≡ emitted_in (leb 6 n) (opened n fs) ++ standing (leb 6 n) (opened n fs) (closed n fs (rooted two e))
          → (emitted_in false fs ++ cond r [] (node_step 11 ∷ [])) ++ (cond r (below_items e) (value e) ++ (cond r [] (binary 1 ∷ []) ++ cond t ((unary 7 ∷ []) ++ close_items n (codes_in false fs) true) []))
          ≡ emitted_in (leb 6 n) (cond t (opened n fs) (lead two ∷ fs)) ++ standing (leb 6 n) (cond t (opened n fs) (lead two ∷ fs)) (cond t (closed n fs (rooted two e)) e)
      go true p ih =
          rooted_items e (s.plain refl) (emitted_in false fs) r (close_items n (codes_in false fs) true) (λ q. s.single q refl) ∙ ih
      go false p ih =
          step_items_lem e (s.plain refl) (emitted_in false fs) r (λ q. s.single q refl) ∙ lead_stays n fs e (le-leb 6 n (leb-false n 5 p))
  closes (paren ∷ fs) n r e l f s = rw (binds_either n (takes_test fs)) (unfold emitted_in in stays n r (paren ∷ fs) e refl s)
  closes (negation ∷ fs) n r e l f s = unfold emitted_in in stays n r (negation ∷ fs) e refl s
  closes (test x ∷ fs) n r e l f s = unfold emitted_in in stays n r (test x ∷ fs) e refl s

  closes_value : (n : ℕ) (fs : List Frame) (e : Expr) → Closes n false fs e
      → emitted_in false fs ++ (value e ++ close_items n (codes fs) (is_path e)) ≡ emitted_in (leb 6 n) (opened n fs) ++ standing (leb 6 n) (opened n fs) (closed n fs e)
  unfolding standing
  closes_value n fs e h = h

  -- what has been written before a gap, and in a state: a name and '.' are pending
  abbrev pub emitted : List Frame → List Item
  emitted fs = emitted_in false fs

  abbrev pub written : State → List Item
  written (state fs want) = emitted fs
  written (state fs (axis a)) = emitted fs
  written (state fs (have e)) = emitted fs ++ cond (is_named e || is_dot e) [] (value e)

  -- nothing is written before the first byte
  pub written_start : written start ≡ []
  unfolding emitted_in
  written_start = refl

  -- the machine's tag is that of the name that has been read
  abbrev pub Tagged : State → ℕ → Type 0
  Tagged (state fs want) g = Unit {0}
  Tagged (state fs (axis a)) g = Unit {0}
  Tagged (state fs (have e)) g = NamedBy (λ b name. g ≡ tag name) e

  -- what is pending is written
  pended : (e : Expr) (a g : ℕ) → NamedBy (λ b name. a ≡ b) e → NamedBy (λ b name. g ≡ tag name) e
      → cond (is_named e || is_dot e) [] (value e) ++ cond (is_named e) (leaf 0 a g ∷ []) (cond (is_dot e) (node_step 0 ∷ []) []) ≡ value e
  unfolding is_path path_by path_term postfix
  pended (wildcard b w) a g p q = refl
  pended (named b name) a g p q = ap (λ (i : ℕ). leaf 0 i g ∷ []) p ∙ ap (λ (i : ℕ). leaf 0 b i ∷ []) q
  pended dot a g p q = refl
  pended dots a g p q = refl
  pended (variable k) a g p q = refl
  pended (bracket e) a g p q = append-nil (value (bracket e))
  pended (closure e) a g p q = append-nil (value (closure e))
  pended (negate e) a g p q = append-nil (value (negate e))
  pended (is k) a g p q = append-nil (value (is k))
  pended (filter e t) a g p q = append-nil (value (filter e t))
  pended (rooted s e) a g p q = append-nil (value (rooted s e))
  pended (join o l r) a g p q = append-nil (value (join o l r))

  behind_test : (e : Expr) (a c : List Item) → a ++ (test_items e ++ c) ≡ (a ++ value e) ++ (as_test (is_path e) ++ c)
  behind_test e a c = tested e a c ∙ sym (append_assoc a (value e) (as_test (is_path e) ++ c))

  -- ']', ')' and a slash: what the state after them has more
  filter_items : (gs : List Frame) (d : Expr) → may_filter gs ≡ true → written (filtered gs d) ≡ (emitted gs ++ value d) ++ (as_test (is_path d) ++ (binary 5 ∷ []))
  unfolding emitted_in is_path path_by path_term postfix
  filter_items [] d m = no_yes refl m
  filter_items (left l o ∷ fs) d m = no_yes refl m
  filter_items (lead s ∷ fs) d m = no_yes refl m
  filter_items (paren ∷ fs) d m = no_yes refl m
  filter_items (negation ∷ fs) d m = no_yes refl m
  filter_items (test x ∷ fs) d m =
      sym (append_assoc (emitted fs) (path_items x) (test_items d ++ (binary 5 ∷ []))) ∙ behind_test d (emitted fs ++ path_items x) (binary 5 ∷ [])

  paren_items : (gs : List Frame) (d : Expr) → may_paren gs ≡ true
      → written (parenthesised gs d) ≡ (emitted gs ++ value d) ++ (as_test (wants_test 26 (top (codes gs)) && is_path d) ++ last_items 26 (top (codes gs)))
  unfolding emitted_in codes_in is_path path_by expr_by expr_term postfix
  paren_items [] d m = no_yes refl m
  paren_items (left l o ∷ fs) d m = no_yes refl m
  paren_items (lead s ∷ fs) d m = no_yes refl m
  paren_items (paren ∷ fs) d m = go (takes_test fs)
    where
      go : (b : Bool) → emitted fs ++ value d ≡ (emitted fs ++ value d) ++ (as_test (wants_test 26 (cond b 11 10) && is_path d) ++ last_items 26 (cond b 11 10))
      go true = sym (append-nil (emitted fs ++ value d))
      go false = sym (append-nil (emitted fs ++ value d))
  paren_items (negation ∷ fs) d m = behind_test d (emitted fs) (unary 9 ∷ [])
  paren_items (test x ∷ fs) d m = no_yes refl m

  -- an expression in its gaps, with what the machine knows of a name
  module _ (fs : List Frame) (e : Expr) (fine : Fine fs) (fit : fits 7 (takes_test fs) e ≡ true) (a g : ℕ)
      (on : OnAxis (state fs (have e)) a) (tagged : Tagged (state fs (have e)) g) where
    -- what has been read, with what is pending
    full : written (state fs (have e)) ++ pending (focus_code (have e)) a g ≡ emitted fs ++ value e
    full =
        rw (focus_named e, focus_dot e)
        (append_assoc (emitted fs) (cond (is_named e || is_dot e) [] (value e)) (cond (is_named e) (leaf 0 a g ∷ []) (cond (is_dot e) (node_step 0 ∷ []) []))
        ∙ ap (λ (l : List Item). emitted fs ++ l) (pended e a g on tagged))

    stand : (n : ℕ) → (leb 6 n ≡ true → is_path e ≡ true) → Stands false n fs e
    stand n h =
        record {
          in_run = λ p. no_yes refl p;
          tight = h;
          plain = λ p. fits_path e 7 (subst (λ (b : Bool). fits 7 b e ≡ true) p fit);
          single = λ p d. subst (λ (b : Bool). fits 7 b e ≡ true) (double_plain fs d) fit;
        }

    -- and the gaps closed
    shut : (n : ℕ) (rest : List Item) → n ≤ 6 → (leb 6 n ≡ true → is_path e ≡ true)
        → written (state fs (have e)) ++ (pending (focus_code (have e)) a g ++ (close_items n (codes fs) (ltb 2 (focus_code (have e))) ++ rest))
        ≡ (emitted_in (leb 6 n) (opened n fs) ++ standing (leb 6 n) (opened n fs) (closed n fs e)) ++ rest
    shut n rest l h =
        group (written (state fs (have e))) (pending (focus_code (have e)) a g) (close_items n (codes fs) (ltb 2 (focus_code (have e))))
        ∙ ap (λ (x : List Item). (x ++ close_items n (codes fs) (ltb 2 (focus_code (have e)))) ++ rest) full
        ∙ ap (λ (b : Bool). ((emitted fs ++ value e) ++ close_items n (codes fs) b) ++ rest) (focus_path e)
        ∙ ap (λ (x : List Item). x ++ rest) (append_assoc (emitted fs) (value e) (close_items n (codes fs) (is_path e)) ∙ done)
      where
        group : (x y z : List Item) → x ++ (y ++ (z ++ rest)) ≡ ((x ++ y) ++ z) ++ rest
        group x y z = simp append_assoc

        done : emitted fs ++ (value e ++ close_items n (codes fs) (is_path e)) ≡ emitted_in (leb 6 n) (opened n fs) ++ standing (leb 6 n) (opened n fs) (closed n fs e)
        done = closes_value n fs e (closes fs n false e l fine (stand n h))

    -- whether a path then stands in the innermost gap
    kind : (n : ℕ) → leb n 5 ≡ true → is_path (closed n fs e) ≡ sort n (codes fs) (ltb 2 (focus_code (have e)))
    kind n h = closed_sort fs false n e (le-leb n 6 (let q : n ≤ 5 = leb-true n 5 h in omega arith)) h ∙ ap (sort n (codes fs)) (sym (focus_path e))

    closed_value : (n : ℕ) (rest : List Item) → leb n 5 ≡ true
        → (emitted (opened n fs) ++ value (closed n fs e)) ++ rest
        ≡ written (state fs (have e)) ++ (pending (focus_code (have e)) a g ++ (close_items n (codes fs) (ltb 2 (focus_code (have e))) ++ rest))
    unfolding standing
    closed_value n rest h =
        ap (λ (b : Bool). (emitted_in b (opened n fs) ++ standing b (opened n fs) (closed n fs e)) ++ rest) (sym low) ∙ sym (shut n rest small (λ p. no_yes low p))
      where
        small : n ≤ 6
        small = let q : n ≤ 5 = leb-true n 5 h in omega arith

        low : leb 6 n ≡ false
        low = let q : n ≤ 5 = leb-true n 5 h in lt-leb 6 n (omega arith)

    -- ']' and ')'

    filter_turn : may_filter (opened 0 fs) ≡ true
        → written (filtered (opened 0 fs) (closed 0 fs e)) ≡ written (state fs (have e)) ++ word_items (focus_code (have e)) (codes fs) 25 a g
    unfolding word_items
    filter_turn m =
        filter_items (opened 0 fs) (closed 0 fs e) m
        ∙ ap (λ (b : Bool). (emitted (opened 0 fs) ++ value (closed 0 fs e)) ++ (as_test b ++ (binary 5 ∷ []))) (kind 0 refl)
        ∙ closed_value 0 (as_test (sort 0 (codes fs) (ltb 2 (focus_code (have e)))) ++ (binary 5 ∷ [])) refl

    paren_turn : may_paren (opened 0 fs) ≡ true
        → written (parenthesised (opened 0 fs) (closed 0 fs e)) ≡ written (state fs (have e)) ++ word_items (focus_code (have e)) (codes fs) 26 a g
    unfolding word_items
    paren_turn m =
        paren_items (opened 0 fs) (closed 0 fs e) m
        ∙ ap (λ (t : List ℕ). stood ++ (as_test (wants_test 26 (top t) && is_path (closed 0 fs e)) ++ last_items 26 (top t))) (opened_codes fs 0 false false refl refl)
        ∙ ap (λ (b : Bool). stood ++ (as_test (wants_test 26 inner && b) ++ last_items 26 inner)) (kind 0 refl)
        ∙ closed_value 0 (as_test (wants_test 26 inner && sort 0 (codes fs) (ltb 2 (focus_code (have e)))) ++ last_items 26 inner) refl
      where
        stood : List Item
        stood = emitted (opened 0 fs) ++ value (closed 0 fs e)

        inner : ℕ
        inner = top (drop (pops 0 (codes fs)) (codes fs))

    -- operators: those of node expressions, those of paths, and the slash

    logical_turn : (n : ℕ) → leb n 5 ≡ true
        → emitted (opened n fs) ++ test_items (closed n fs e)
        ≡ written (state fs (have e)) ++ (pending (focus_code (have e)) a g ++ (close_items n (codes fs) (ltb 2 (focus_code (have e))) ++ (as_test (sort n (codes fs) (ltb 2 (focus_code (have e)))) ++ [])))
    logical_turn n h =
        ap (λ (l : List Item). emitted (opened n fs) ++ l) (sym (append-nil (test_items (closed n fs e))))
        ∙ behind_test (closed n fs e) (emitted (opened n fs)) []
        ∙ ap (λ (b : Bool). (emitted (opened n fs) ++ value (closed n fs e)) ++ (as_test b ++ [])) (kind n h)
        ∙ closed_value n (as_test (sort n (codes fs) (ltb 2 (focus_code (have e)))) ++ []) h

    path_turn : (n : ℕ) → leb n 5 ≡ true → 3 ≤ n → is_path e ≡ true
        → emitted (opened n fs) ++ path_items (closed n fs e)
        ≡ written (state fs (have e)) ++ (pending (focus_code (have e)) a g ++ (close_items n (codes fs) (ltb 2 (focus_code (have e))) ++ []))
    path_turn n h l p =
        ap (λ (x : List Item). emitted (opened n fs) ++ x) (sym (value_path (closed n fs e) (path_closed fs n e l p)))
        ∙ sym (append-nil (emitted (opened n fs) ++ value (closed n fs e)))
        ∙ closed_value n [] h

    slash_turn : is_path e ≡ true
        → emitted_in true (opened 6 fs) ++ run_items (opened 6 fs) (closed 6 fs e)
        ≡ written (state fs (have e)) ++ (pending (focus_code (have e)) a g ++ (close_items 6 (codes fs) (ltb 2 (focus_code (have e))) ++ []))
    slash_turn p =
        sym (append-nil (emitted_in true (opened 6 fs) ++ run_items (opened 6 fs) (closed 6 fs e)))
        ∙ sym (unfold standing in shut 6 [] (omega arith) (λ _. p))

  -- a second slash, or a leading one
  slash_items_lem : (fs : List Frame) → may_slash fs ≡ true → emitted (slashed fs) ≡ emitted fs ++ slash_items (top (codes fs))
  unfolding emitted_in operand codes_in
  slash_items_lem [] m = refl
  slash_items_lem (left l or ∷ fs) m = sym (append-nil (emitted fs ++ test_items l))
  slash_items_lem (left l and ∷ fs) m = sym (append-nil (emitted fs ++ test_items l))
  slash_items_lem (left l same ∷ fs) m = sym (append-nil (emitted fs ++ path_items l))
  slash_items_lem (left l union ∷ fs) m = sym (append-nil (emitted fs ++ path_items l))
  slash_items_lem (left l intersect ∷ fs) m = sym (append-nil (emitted fs ++ path_items l))
  slash_items_lem (left l except ∷ fs) m = sym (append-nil (emitted fs ++ path_items l))
  slash_items_lem (left l (slash one) ∷ fs) m = sym (append_assoc (emitted_in true fs) (run_items fs l) (node_step 11 ∷ binary 1 ∷ []))
  slash_items_lem (left l (slash two) ∷ fs) m = no_yes refl m
  slash_items_lem (lead one ∷ fs) m = refl
  slash_items_lem (lead two ∷ fs) m = no_yes refl m
  slash_items_lem (paren ∷ fs) m = go (takes_test fs)
    where
      go : (b : Bool) → emitted fs ≡ emitted fs ++ slash_items (cond b 11 10)
      go true = sym (append-nil (emitted fs))
      go false = sym (append-nil (emitted fs))
  slash_items_lem (negation ∷ fs) m = sym (append-nil (emitted fs))
  slash_items_lem (test e ∷ fs) m = sym (append-nil (emitted fs ++ path_items e))

  -- the word number k, which leads to x, adds what the machine writes
  abbrev pub Emits : State → ℕ → State → Type 0
  Emits (state fs f) k x = (a g : ℕ) → OnAxis (state fs f) a → Tagged (state fs f) g → written x ≡ written (state fs f) ++ word_items (focus_code f) (codes fs) k a g

  -- behind what was pending stands d, which makes l of it
  pending_turn : (fs : List Frame) (e : Expr) → (is_named e || is_dot e) ≡ true → (d : Expr) (l : List Item) → cond (is_named d || is_dot d) [] (value d) ≡ l
      → written (state fs (have d)) ≡ written (state fs (have e)) ++ l
  pending_turn fs e m d l p = rw m (ap (λ (x : List Item). emitted fs ++ x) p ∙ ap (λ (x : List Item). x ++ l) (sym (append-nil (emitted fs))))

  -- the axis of a name
  named_axis : (e : Expr) (a : ℕ) → is_named e ≡ true → NamedBy (λ b name. a ≡ b) e → axis_of e ≡ a
  named_axis e a n = by_name (λ (x : Expr). NamedBy (λ b name. a ≡ b) x → axis_of x ≡ a) (λ b name p. sym p) e n

  -- '*' closes over the path that the bracket holds
  closure_turn : (fs : List Frame) (e : Expr) → is_group e ≡ true → written (state fs (have (as_closure e))) ≡ written (state fs (have e)) ++ (unary 13 ∷ [])
  unfolding is_path path_by path_term postfix
  closure_turn fs e m =
      by_group (λ (x : Expr). written (state fs (have (as_closure x))) ≡ written (state fs (have x)) ++ (unary 13 ∷ []))
      (λ x p. rw p (sym (append_assoc (emitted fs) (path_items x) (unary 13 ∷ [])))) e m

  want_turns : (fs : List Frame) → Every Emits (state fs want)
  unfolding next axes variables word_items emitted_in is_path path_by path_term postfix
  want_turns fs =
      each_from (Emits (state fs want)) 0 (axis_choice fs) _ 13 0 (λ v l. (λ _ a g p q. adds (axis_items v (focus_code want) (codes fs) a g l) quiet, tt))
      (each_from (Emits (state fs want)) 13 (variable_choice fs) _ 3 0 (λ v l. (λ _ a g p q. adds (variable_items v (focus_code want) (codes fs) a g l) refl, tt))
      (λ _ a g p q. refl, (λ _ a g p q. quiet, (λ _ a g p q. quiet, (λ m a g p q. slash_items_lem fs m, tt)))))
    where
      quiet : emitted fs ≡ emitted fs ++ []
      quiet = sym (append-nil (emitted fs))

      adds : {x y z : List Item} → x ≡ y → z ≡ emitted fs ++ y → z ≡ emitted fs ++ x
      adds p q = q ∙ ap (λ (l : List Item). emitted fs ++ l) (sym p)

  axis_turns : (fs : List Frame) (b : ℕ) → Every Emits (state fs (axis b))
  unfolding word_items is_path path_by path_term postfix
  axis_turns fs b = (λ i h a g p q. refl, λ a g p q. ap (λ (j : ℕ). emitted fs ++ (leaf 0 j 65535 ∷ [])) (sym p))

  have_turns : (fs : List Frame) (e : Expr) → Fine fs → fits 7 (takes_test fs) e ≡ true → Every Emits (state fs (have e))
  unfolding variables word_items emitted_in operand may_join joined is_path path_by expr_by path_term expr_term postfix
  have_turns fs e f h = (
    λ n b k a g p q. pending_turn fs e (or_left (is_named e) (is_dot e) n) (longer e b) [] refl,
    each_from (Emits (state fs (have e))) 20 (is_choice fs e) _ 3 0
        (λ v l. (λ m a g p q. pending_turn fs e (or_right (is_named e) (is_dot e) (yes_left (is_dot e) (takes_test fs) m)) (is v) (leaf 12 v 0 ∷ []) refl ∙ ap (λ (x : List Item). written (state fs (have e)) ++ x) (sym (is_items v (focus_code (have e)) (codes fs) a g l)), tt)) (
          λ m a g p q. pending_turn fs e (or_right (is_named e) (is_dot e) m) dots (node_step 2 ∷ []) refl,
          (
            λ m a g p q. ap (λ (l : List Item). emitted fs ++ l) (sym (value_path e m)) ∙ sym (full fs e f h a g p q),
            (
              λ m a g p q. filter_turn fs e f h a g p q m,
              (
                λ m a g p q. paren_turn fs e f h a g p q m,
                (
                  λ m a g p q. logical_turn fs e f h a g p q 0 refl,
                  (
                    λ m a g p q. logical_turn fs e f h a g p q 1 refl,
                    (
                      λ m a g p q. path_turn fs e f h a g p q 3 refl (omega arith) (yes_left (is_path e) (takes_test (opened 3 fs)) m),
                      (
                        λ m a g p q. path_turn fs e f h a g p q 3 refl (omega arith) (yes_left (is_path e) true m),
                        (
                          λ m a g p q. path_turn fs e f h a g p q 4 refl (omega arith) (yes_left (is_path e) true m),
                          (
                            λ m a g p q. path_turn fs e f h a g p q 4 refl (omega arith) (yes_left (is_path e) true m),
                            (
                              λ m a g p q. slash_turn fs e f h a g p q (yes_left (is_path e) true m),
                              (λ m a g p q. node_turn (node_named e m) a p, (λ m a g p q. closure_turn fs e m, tt)),
                            ),
                          ),
                        ),
                      ),
                    ),
                  ),
                ),
              ),
            ),
          ),
        ),
  )
    where
      node_turn : is_named e ≡ true → (a : ℕ) → OnAxis (state fs (have e)) a → written (state fs (have (as_node e))) ≡ written (state fs (have e)) ++ (node_step a ∷ [])
      node_turn n a p = pending_turn fs e (or_left (is_named e) (is_dot e) n) (as_node e) (node_step a ∷ []) (ap (λ (j : ℕ). node_step j ∷ []) (named_axis e a n p))

  -- every word adds the items of what it completes
  pub emits : (s : State) (c : List ℕ) → After s c → Every Emits s
  emits (state fs want) c r = want_turns fs
  emits (state fs (axis b)) c r = axis_turns fs b
  emits (state fs (have e)) c r = have_turns fs e r.0 r.1

  -- the end of the text
  pub ends : (fs : List Frame) (f : Focus) (c : List ℕ) (e : Expr) → After (state fs f) c → outcome_at (state fs f) ≡ accepted e
      → (a g : ℕ) → OnAxis (state fs f) a → Tagged (state fs f) g → written (state fs f) ++ end_items (focus_code f) (codes fs) a g ≡ path_items e
  unfolding end_items
  ends fs want c e r p a g on tagged = never e p
  ends fs (axis b) c e r p a g on tagged = never e p
  ends fs (have d) c e r p a g on tagged =
      ap (λ (l : List Item). written (state fs (have d)) ++ (pending (focus_code (have d)) a g ++ l)) (sym (append-nil (close_items 0 (codes fs) (ltb 2 (focus_code (have d))))))
      ∙ sym (closed_value fs d r.0 r.1 a g on tagged 0 [] refl)
      ∙ go (opened 0 fs) (closed 0 fs d) (closing fs 0 7 d r.0 (omega arith) (floor_most fs) r.1).fit p
    where
      go : (gs : List Frame) (x : Expr) → fits 0 (takes_test gs) x ≡ true → whole gs x ≡ accepted e → (emitted gs ++ value x) ++ [] ≡ path_items e
      go [] x h q =
          let s : x ≡ e = cc in
          append-nil (emitted [] ++ value x) ∙ ap (λ (l : List Item). l ++ value x) written_start ∙ value_path x (fits_path x 0 h) ∙ ap path_items s
      go (k ∷ gs) x h q = never e q
