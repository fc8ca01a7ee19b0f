-- The names of a text while it is read: those read to their end, and the one that is being read.
use Prim.Native.Nat.{ℕ, ◌+◌, ◌≤◌}
use native.Mathlib.Omega.{arith}
use mathlib.Core.Path.{◌≡◌, refl, sym, ap, ◌∙◌, subst}
use mathlib.Core.Bool.{Bool, true, false, cond}
use mathlib.Core.List.{List, [], ◌∷◌, ◌++◌, append_assoc, append-nil}
use lib.Dec.{leb, ltb}
use lib.ListN.{length, drop, length-append}
use lib.Seq.{drop_at}
use Rattle.model.proofs.Booleans.{no_yes, yes_left}
use Rattle.grammar.specs.Grammar.{Expr, Op, ascii, axes, axis_word, variables, level, left_level, slash_word, word, print}
use Rattle.grammar.specs.Grammar.Slash.{one}
use Rattle.grammar.specs.Grammar.Op.{or, and, same, union, intersect, except, slash}
use Rattle.grammar.specs.Grammar.Expr.{wildcard, named, dot, dots, variable, bracket, closure, negate, is, filter, rooted, join}
use Rattle.grammar.specs.Automaton.{Frame, State, takes_test, opened, closed, is_path, slashed, may_filter, filtered, may_paren, parenthesised, is_dot, joined, is_named, longer, as_closure, axis_choice, variable_choice, is_choice, next, start, whole, outcome_at}
use Rattle.grammar.specs.Automaton.Frame.{left, lead, paren, negation, test}
use Rattle.grammar.specs.Automaton.Focus.{want, axis, have}
use Rattle.grammar.specs.Automaton.State.{state}
use Rattle.grammar.specs.Automaton.Outcome.{accepted}
use Rattle.grammar.specs.Typed.{TypedName, names_in}
use Rattle.grammar.proofs.Soundness.{shown, in_focus, After, dot_is, by_name, node_named, by_group}
use Rattle.grammar.proofs.Choices.{Every, each_indexed}

-- the names in what stands before the gaps
unfoldable pub gap_names : List Frame → List TypedName
gap_names [] = []
gap_names (left l o ∷ fs) = gap_names fs ++ names_in (length (shown fs)) l
gap_names (lead s ∷ fs) = gap_names fs
gap_names (paren ∷ fs) = gap_names fs
gap_names (negation ∷ fs) = gap_names fs
gap_names (test e ∷ fs) = gap_names fs ++ names_in (length (shown fs)) e

-- and in e, which stands in the innermost
abbrev names_with : List Frame → Expr → List TypedName
names_with fs e = gap_names fs ++ names_in (length (shown fs)) e

-- the names read to their end, in order: the one that stands last may go on
unfoldable pub finished : State → List TypedName
finished (state fs want) = gap_names fs
finished (state fs (axis a)) = gap_names fs
finished (state fs (have e)) = gap_names fs ++ cond (is_named e) [] (names_in (length (shown fs)) e)

-- the name that is being read
unfoldable pub pending_name : State → List TypedName
pending_name (state fs want) = []
pending_name (state fs (axis a)) = []
pending_name (state fs (have e)) = cond (is_named e) (names_in (length (shown fs)) e) []

-- a name is being read; the axis before a name has been read
abbrev pub in_name : State → Bool
in_name (state fs want) = false
in_name (state fs (axis a)) = false
in_name (state fs (have e)) = is_named e

abbrev pub is_axis_focus : State → Bool
is_axis_focus (state fs want) = false
is_axis_focus (state fs (axis a)) = true
is_axis_focus (state fs (have e)) = false

-- the name that is being read, if one is, begins at place p, where the expression in the gap begins at q
abbrev BegunIn : ℕ → Expr → ℕ → Type 0
BegunIn q (wildcard a w) p = Unit {0}
BegunIn q (named a name) p = p ≡ q + length (axis_word a)
BegunIn q dot p = Unit {0}
BegunIn q dots p = Unit {0}
BegunIn q (variable k) p = Unit {0}
BegunIn q (bracket e) p = Unit {0}
BegunIn q (closure e) p = Unit {0}
BegunIn q (negate e) p = Unit {0}
BegunIn q (is k) p = Unit {0}
BegunIn q (filter e t) p = Unit {0}
BegunIn q (rooted s e) p = Unit {0}
BegunIn q (join o l r) p = Unit {0}

abbrev pub Begun : State → ℕ → Type 0
Begun (state fs want) p = Unit {0}
Begun (state fs (axis a)) p = Unit {0}
Begun (state fs (have e)) p = BegunIn (length (shown fs)) e p

-- both are the names of all that has been read
all_names : (fs : List Frame) (e : Expr) → finished (state fs (have e)) ++ pending_name (state fs (have e)) ≡ names_with fs e
unfolding finished pending_name
all_names fs e = go (is_named e)
  where
    go : (b : Bool) → (gap_names fs ++ cond b [] (names_in (length (shown fs)) e)) ++ cond b (names_in (length (shown fs)) e) [] ≡ names_with fs e
    go true = ap (λ (l : List TypedName). l ++ names_in (length (shown fs)) e) (append-nil (gap_names fs))
    go false = append-nil (names_with fs e)

-- closing gaps keeps the names
names_closed : (fs : List Frame) (n : ℕ) (e : Expr) → names_with (opened n fs) (closed n fs e) ≡ names_with fs e
unfolding opened closed gap_names names_in shown
names_closed [] n e = refl
names_closed (left l o ∷ fs) n e = go (leb n (level o)) (names_closed fs n (join o l e))
  where
    place : length (shown fs) + length (print l) + length (word o) ≡ length (shown fs ++ (print l ++ word o))
    place = rw (length-append (shown fs) (print l ++ word o), length-append (print l) (word o)) (omega arith)

    go :
        (t : Bool) → names_with (opened n fs) (closed n fs (join o l e)) ≡ names_with fs (join o l e)
        → names_with (cond t (opened n fs) (left l o ∷ fs)) (cond t (closed n fs (join o l e)) e) ≡ names_with (left l o ∷ fs) e
    go true ih = ih ∙ rw (sym place) (sym (append_assoc (gap_names fs) (names_in (length (shown fs)) l) (names_in (length (shown fs) + length (print l) + length (word o)) e)))
    go false ih = refl
names_closed (lead s ∷ fs) n e = go (leb n 5) (names_closed fs n (rooted s e))
  where
    go :
        (t : Bool) → names_with (opened n fs) (closed n fs (rooted s e)) ≡ names_with fs (rooted s e)
        → names_with (cond t (opened n fs) (lead s ∷ fs)) (cond t (closed n fs (rooted s e)) e) ≡ names_with (lead s ∷ fs) e
    go true ih = ih ∙ rw (length-append (shown fs) (slash_word s)) refl
    go false ih = refl
names_closed (paren ∷ fs) n e = refl
names_closed (negation ∷ fs) n e = refl
names_closed (test x ∷ fs) n e = refl

-- brackets are closed, where the gaps gs are left with d in the innermost
names_filtered : (gs : List Frame) (d : Expr) → may_filter gs ≡ true → finished (filtered gs d) ≡ names_with gs d
unfolding finished gap_names names_in shown
names_filtered [] d m = no_yes refl m
names_filtered (left l o ∷ fs) d m = no_yes refl m
names_filtered (lead s ∷ fs) d m = no_yes refl m
names_filtered (paren ∷ fs) d m = no_yes refl m
names_filtered (negation ∷ fs) d m = no_yes refl m
names_filtered (test x ∷ fs) d m =
    rw (sym place) (sym (append_assoc (gap_names fs) (names_in (length (shown fs)) x) (names_in (length (shown fs) + length (print x) + 1) d)))
  where
    place : length (shown fs) + length (print x) + 1 ≡ length (shown fs ++ (print x ++ ascii "["))
    place = rw (length-append (shown fs) (print x ++ ascii "["), length-append (print x) (ascii "[")) (omega arith)

names_parenthesised : (gs : List Frame) (d : Expr) → may_paren gs ≡ true → finished (parenthesised gs d) ≡ names_with gs d
unfolding finished gap_names names_in shown
names_parenthesised [] d m = no_yes refl m
names_parenthesised (left l o ∷ fs) d m = no_yes refl m
names_parenthesised (lead s ∷ fs) d m = no_yes refl m
names_parenthesised (paren ∷ fs) d m = rw (length-append (shown fs) (ascii "(")) refl
names_parenthesised (negation ∷ fs) d m = rw (length-append (shown fs) (ascii "not(")) refl
names_parenthesised (test x ∷ fs) d m = no_yes refl m

names_slashed : (fs : List Frame) → gap_names (slashed fs) ≡ gap_names fs
unfolding gap_names
names_slashed [] = refl
names_slashed (left l or ∷ fs) = refl
names_slashed (left l and ∷ fs) = refl
names_slashed (left l same ∷ fs) = refl
names_slashed (left l union ∷ fs) = refl
names_slashed (left l intersect ∷ fs) = refl
names_slashed (left l except ∷ fs) = refl
names_slashed (left l (slash s) ∷ fs) = refl
names_slashed (lead s ∷ fs) = refl
names_slashed (paren ∷ fs) = refl
names_slashed (negation ∷ fs) = refl
names_slashed (test e ∷ fs) = refl

-- the word number k leads from s to x: the name that was being read is read to its end by the words below 34; '()' makes it a name no
-- longer, with a byte more it goes on, and before the star behind a bracket none was being read
abbrev pub NamesOn : State → ℕ → State → Type 0
NamesOn s k x = finished x ≡ finished s ++ cond (ltb k 34) (pending_name s) []

-- no name was being read
none_pending : (s x : State) (k : ℕ) → pending_name s ≡ [] → finished x ≡ finished s → NamesOn s k x
none_pending s x k p q = q ∙ go (ltb k 34)
  where
    go : (b : Bool) → finished s ≡ finished s ++ cond b (pending_name s) []
    go true = rw p (sym (append-nil (finished s)))
    go false = sym (append-nil (finished s))

-- what stands last is a name, and is none of those read to their end
name_last : (fs : List Frame) (e : Expr) → is_named e ≡ true → gap_names fs ++ [] ≡ finished (state fs (have e)) ++ []
unfolding finished
name_last fs e h = rw h (sym (append-nil (gap_names fs ++ [])))

-- every word below 34 ends the name that is being read
pub names_on : (s : State) → Every NamesOn s
unfolding finished pending_name names_in gap_names next joined axes variables
names_on (state fs want) =
    each_indexed (NamesOn s) (axis_choice fs) axes _ 0 (λ i a. (λ _. none_pending s (state fs (axis a)) i refl refl, tt))
    (each_indexed (NamesOn s) (variable_choice fs) variables _ 13 (λ i k. (λ _. none_pending s (state fs (have (variable k))) i refl (append-nil (gap_names fs)), tt)) (
      λ _. refl,
      (
        λ _. sym (append-nil (gap_names fs)),
        (
          λ _. sym (append-nil (gap_names fs)),
          (
            λ _. names_slashed fs ∙ sym (append-nil (gap_names fs)),
            tt,
          ),
        ),
      ),
    ))
  where
    s : State
    s = state fs want
names_on (state fs (axis a)) = (λ b h. refl, refl)
names_on (state fs (have e)) = (
  λ h b k. name_last fs e h,
  each_indexed (NamesOn s) (is_choice fs e) variables _ 20 (λ i k. (λ n. behind_dot (is k) i refl refl (yes_left (is_dot e) (takes_test fs) n), tt)) (
    λ n. behind_dot dots 23 refl refl n,
    (
      λ _. sym (all_names fs e),
      (
        λ m. names_filtered (opened 0 fs) (closed 0 fs e) m ∙ names_closed fs 0 e ∙ sym (all_names fs e),
        (
          λ m. names_parenthesised (opened 0 fs) (closed 0 fs e) m ∙ names_closed fs 0 e ∙ sym (all_names fs e),
          (
            λ _. joins or,
            (
              λ _. joins and,
              (
                λ _. joins same,
                (
                  λ _. joins union,
                  (
                    λ _. joins intersect,
                    (
                      λ _. joins except,
                      (
                        λ _. joins (slash one),
                        (
                          λ h. name_last fs e (node_named e h),
                          (
                            λ h. by_group (λ (x : Expr). NamesOn (state fs (have x)) 35 (state fs (have (as_closure x)))) behind_bracket e h,
                            tt,
                          ),
                        ),
                      ),
                    ),
                  ),
                ),
              ),
            ),
          ),
        ),
      ),
    ),
  ),
)
  where
    s : State
    s = state fs (have e)

    behind_dot : (d : Expr) (k : ℕ) → is_named d ≡ false → names_in (length (shown fs)) d ≡ [] → is_dot e ≡ true → NamesOn s k (state fs (have d))
    behind_dot d k h n i =
        none_pending s (state fs (have d)) k (ap (λ (x : Expr). pending_name (state fs (have x))) (dot_is e i))
        (rw (h, n) refl ∙ ap (λ (x : Expr). finished (state fs (have x))) (sym (dot_is e i)))

    behind_bracket : (d : Expr) → is_path d ≡ true → NamesOn (state fs (have (bracket d))) 35 (state fs (have (closure d)))
    behind_bracket d _ = none_pending (state fs (have (bracket d))) (state fs (have (closure d))) 35 refl refl

    joins : (o : Op) → gap_names (opened (left_level o) fs) ++ names_in (length (shown (opened (left_level o) fs))) (closed (left_level o) fs e) ≡ finished s ++ pending_name s
    joins o = names_closed fs (left_level o) e ∙ sym (all_names fs e)

-- no name has been read at the beginning
pub names_start : finished start ≡ []
unfolding finished gap_names
names_start = refl

-- the names of an accepted text
pub names_end : (s : State) (e : Expr) → outcome_at s ≡ accepted e → names_in 0 e ≡ finished s ++ pending_name s
unfolding gap_names shown
names_end (state fs want) e h = let z : ◌≡◌ {A = ℕ} 0 1 = cc in absurd (omega arith)
names_end (state fs (axis a)) e h = let z : ◌≡◌ {A = ℕ} 0 1 = cc in absurd (omega arith)
names_end (state fs (have d)) e h = go (opened 0 fs) (closed 0 fs d) h (names_closed fs 0 d ∙ sym (all_names fs d))
  where
    go :
        (gs : List Frame) (x : Expr) → whole gs x ≡ accepted e → names_with gs x ≡ finished (state fs (have d)) ++ pending_name (state fs (have d))
        → names_in 0 e ≡ finished (state fs (have d)) ++ pending_name (state fs (have d))
    go [] x p q = let r : x ≡ e = cc in ap (names_in 0) (sym r) ∙ q
    go (g ∷ gs) x p q = let z : ◌≡◌ {A = ℕ} 0 1 = cc in absurd (omega arith)

-- the word number k leads from s to x: a name begins behind its axis, where c has been read, and goes on from where it began
abbrev pub BegunOn : List ℕ → State → ℕ → State → Type 0
BegunOn c s k x = (p : ℕ) → Begun s p → Begun x (cond (is_axis_focus s) (length c) p)

begun_filtered : (gs : List Frame) (d : Expr) (p : ℕ) → may_filter gs ≡ true → Begun (filtered gs d) p
begun_filtered [] d p m = no_yes refl m
begun_filtered (left l o ∷ fs) d p m = no_yes refl m
begun_filtered (lead s ∷ fs) d p m = no_yes refl m
begun_filtered (paren ∷ fs) d p m = no_yes refl m
begun_filtered (negation ∷ fs) d p m = no_yes refl m
begun_filtered (test x ∷ fs) d p m = tt

begun_parenthesised : (gs : List Frame) (d : Expr) (p : ℕ) → may_paren gs ≡ true → Begun (parenthesised gs d) p
begun_parenthesised [] d p m = no_yes refl m
begun_parenthesised (left l o ∷ fs) d p m = no_yes refl m
begun_parenthesised (lead s ∷ fs) d p m = no_yes refl m
begun_parenthesised (paren ∷ fs) d p m = tt
begun_parenthesised (negation ∷ fs) d p m = tt
begun_parenthesised (test x ∷ fs) d p m = no_yes refl m

pub begun_on : (s : State) (c : List ℕ) → After s c → Every (BegunOn c) s
unfolding next joined axes variables in_focus
begun_on (state fs want) c w =
    each_indexed (BegunOn c (state fs want)) (axis_choice fs) axes _ 0 (λ i a. (λ _ p g. tt, tt))
    (each_indexed (BegunOn c (state fs want)) (variable_choice fs) variables _ 13 (λ i k. (λ _ p g. tt, tt)) (
      λ _ p g. tt,
      (
        λ _ p g. tt,
        (
          λ _ p g. tt,
          (
            λ _ p g. tt,
            tt,
          ),
        ),
      ),
    ))
begun_on (state fs (axis a)) c w = (λ b h p g. ap length (sym w.2) ∙ length-append (shown fs) (axis_word a), λ p g. tt)
begun_on (state fs (have e)) c w = (
  λ h b k p. by_name (λ (x : Expr). BegunIn (length (shown fs)) x p → BegunIn (length (shown fs)) (longer x b) p) (λ a name g. g) e h,
  each_indexed (BegunOn c (state fs (have e))) (is_choice fs e) variables _ 20 (λ i k. (λ _ p g. tt, tt)) (
    λ _ p g. tt,
    (
      λ _ p g. tt,
      (
        λ m p g. begun_filtered (opened 0 fs) (closed 0 fs e) p m,
        (
          λ m p g. begun_parenthesised (opened 0 fs) (closed 0 fs e) p m,
          (
            λ _ p g. tt,
            (
              λ _ p g. tt,
              (
                λ _ p g. tt,
                (
                  λ _ p g. tt,
                  (
                    λ _ p g. tt,
                    (
                      λ _ p g. tt,
                      (
                        λ _ p g. tt,
                        (
                          λ _ p g. tt,
                          (
                            λ _ p g. tt,
                            tt,
                          ),
                        ),
                      ),
                    ),
                  ),
                ),
              ),
            ),
          ),
        ),
      ),
    ),
  ),
)

-- a name that is being read is what has been read from the place on where it began
abbrev Ending : State → List ℕ → ℕ → Type 0
Ending s c p = (pending_name s ≡ record { place = p; name = drop p c } ∷ []) × (p ≤ length c)

ending_in_lem : (fs : List Frame) (e : Expr) (c : List ℕ) (p : ℕ) → shown fs ++ print e ≡ c → BegunIn (length (shown fs)) e p → is_named e ≡ true → Ending (state fs (have e)) c p
unfolding pending_name names_in print
ending_in_lem fs (wildcard a v) c p w g h = no_yes refl h
ending_in_lem fs (named a name) c p w g h =
    subst (λ (d : List ℕ). Ending (state fs (have (named a name))) d p) w
    (subst (λ (q : ℕ). Ending (state fs (have (named a name))) (shown fs ++ (axis_word a ++ name)) q) (sym g) (
      ap (λ (l : List ℕ). record { place = length (shown fs) + length (axis_word a); name = l } ∷ []) (sym rest),
      rw (length-append (shown fs) (axis_word a ++ name), length-append (axis_word a) name) (omega arith),
    ))
  where
    rest : drop (length (shown fs) + length (axis_word a)) (shown fs ++ (axis_word a ++ name)) ≡ name
    rest =
        ap (drop (length (shown fs) + length (axis_word a))) (sym (append_assoc (shown fs) (axis_word a) name))
        ∙ drop_at (shown fs ++ axis_word a) name (length (shown fs) + length (axis_word a)) (length-append (shown fs) (axis_word a))
ending_in_lem fs dot c p w g h = no_yes refl h
ending_in_lem fs dots c p w g h = no_yes refl h
ending_in_lem fs (variable k) c p w g h = no_yes refl h
ending_in_lem fs (bracket e) c p w g h = no_yes refl h
ending_in_lem fs (closure e) c p w g h = no_yes refl h
ending_in_lem fs (negate e) c p w g h = no_yes refl h
ending_in_lem fs (is k) c p w g h = no_yes refl h
ending_in_lem fs (filter e t) c p w g h = no_yes refl h
ending_in_lem fs (rooted s e) c p w g h = no_yes refl h
ending_in_lem fs (join o l r) c p w g h = no_yes refl h

ending : (s : State) (c : List ℕ) (p : ℕ) → After s c → Begun s p → in_name s ≡ true → Ending s c p
unfolding in_focus
ending (state fs want) c p w g h = no_yes refl h
ending (state fs (axis a)) c p w g h = no_yes refl h
ending (state fs (have e)) c p w g h = ending_in_lem fs e c p w.2 g h

pub pending_part : (s : State) (c : List ℕ) (p : ℕ) → After s c → Begun s p → in_name s ≡ true → pending_name s ≡ record { place = p; name = drop p c } ∷ []
pending_part s c p w g h = (ending s c p w g h).0

pub pending_most : (s : State) (c : List ℕ) (p : ℕ) → After s c → Begun s p → in_name s ≡ true → p ≤ length c
pending_most s c p w g h = (ending s c p w g h).1

-- elsewhere none is being read
pub pending_none : (s : State) → in_name s ≡ false → pending_name s ≡ []
unfolding pending_name
pending_none (state fs want) h = refl
pending_none (state fs (axis a)) h = refl
pending_none (state fs (have e)) h = rw h refl
