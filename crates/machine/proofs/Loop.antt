-- Laws for the loop that reads a text turn by turn.
use Prim.Native.Nat.{ℕ, zero, suc, ◌+◌, ◌-◌, ◌≤◌, ◌<◌}
use native.Mathlib.Omega.{arith}
use native.Mathlib.Numerals.{add-one}
use mathlib.Core.Path.{◌≡◌, refl, sym, ap, ◌∙◌, subst}
use mathlib.Core.Bool.{Bool, true, false, cond}
use mathlib.Core.List.{List, [], ◌∷◌, ◌++◌}
use lib.ListN.{length, take, drop, get_or, set, length-take, length-drop, length-set, take-append-drop, drop_of_length-le}
use lib.Seq.{drop-cons, get_or-set_same, get_or-set_other}
use lib.Dec.{ltb, eqb}
use borrow.Author.Tests.{eq-eqb, ne_eqb}
use Rattle.model.proofs.Booleans.{no_yes}
use Rattle.machine.specs.declared.Move.{Move}
use Rattle.grammar.specs.Online.{Place, run, feed, reach, is_dead}
use Rattle.grammar.specs.Online.Place.{dead, between, within}
use Rattle.grammar.specs.Grammar.{Expr}
use Rattle.grammar.specs.Grammar.Slash.{one, two}
use Rattle.grammar.specs.Automaton.{Frame, State, Outcome, opened, closed, whole, outcome_at, outcome_of, is_accepted, next, start, readable, stops_at}
use Rattle.grammar.specs.Automaton.Frame.{left, lead, paren, negation, test}
use Rattle.grammar.specs.Automaton.Focus.{want, axis, have}
use Rattle.grammar.specs.Automaton.State.{state}
use Rattle.grammar.specs.Automaton.Outcome.{accepted, refused}
use Rattle.std.specs.Prelude.{Err}
use Rattle.machine.specs.Machine.{Turn, reads, codes_in, codes, focus_code, binds, pops, pushed, moved, stack_of, turn_of, may_end}
use Rattle.grammar.proofs.Online.{Good, run_append, run_dead, reach_most}
use Rattle.grammar.proofs.Soundness.{After, good}
use Rattle.grammar.proofs.Choices.{Taken}
use Rattle.machine.proofs.Finding.{is_between}
use Rattle.machine.proofs.Machine.{Goes, Halts, gaps_of, focus_of, Turned, turned, past_axis, opened_codes, Erases}
use Rattle.machine.proofs.Steps.{stack_drop}

-- the machine stands at `at`: what the reading of the first bytes has come to
pub record At (text stack : List ℕ) (depth f at : ℕ) : Type 0 where
  pub inside : at ≤ length text
  pub shallow : depth ≤ at
  pub room : length stack ≡ 1024
  pub here : State
  pub read : run next (between start) (take at text) ≡ between here
  pub gaps : gaps_of here ≡ stack_of stack depth
  pub focus : focus_of here ≡ f

pub at_start : (text stack : List ℕ) → length stack ≡ 1024 → At text stack 0 0 0
unfolding run stack_of codes_in focus_code
at_start text stack h = record { inside = omega arith; shallow = omega arith; room = h; here = start; read = refl; gaps = refl; focus = refl }

-- the reach over a beginning that is read
reach_split : (s t : List ℕ) (p : Place State) (x : State) → run next p s ≡ between x → reach next p (s ++ t) ≡ length s + reach next (between x) t
unfolding run reach
reach_split [] t p x h = ap (λ (q : Place State). reach next q t) h ∙ omega arith
reach_split (b ∷ s) t p x h =
    go (feed next p b) h (reach_split s t (feed next p b) x)
  where
    go : (q : Place State) → run next q s ≡ between x → (run next q s ≡ between x → reach next q (s ++ t) ≡ length s + reach next (between x) t)
        → cond (is_dead q) 0 (suc (reach next q (s ++ t))) ≡ suc (length s) + reach next (between x) t
    go dead r ih = let z : dead ≡ between x = sym (run_dead next s) ∙ r in let y : ◌≡◌ {A = ℕ} 0 1 = cc in absurd (omega arith)
    go (between y) r ih = let z = ih r in omega arith
    go (within l) r ih = let z = ih r in omega arith

module _ (text stack : List ℕ) (depth f at : ℕ) (w : At text stack depth f at) where
  -- the state is the one after these bytes
  pub at_after : After w.here (take at text)
  at_after = subst (λ (p : Place State). Good After (take at text) p) w.read (good (take at text))

  pub whole_run : run next (between start) text ≡ run next (between w.here) (drop at text)
  whole_run =
      ap (run next (between start)) (sym (take-append-drop at text)) ∙ run_append next (between start) (take at text) (drop at text)
      ∙ ap (λ (p : Place State). run next p (drop at text)) w.read

  pub whole_reach : stops_at text ≡ at + reach next (between w.here) (drop at text)
  unfolding stops_at
  whole_reach =
      ap (reach next (between start)) (sym (take-append-drop at text)) ∙ reach_split (take at text) (drop at text) (between start) w.here w.read
      ∙ (let l : length (take at text) ≡ at = let a = length-take at text in let i = w.inside in omega arith in ap (λ (n : ℕ). n + reach next (between w.here) (drop at text)) l)

  -- the turn at this place, in the words of the state
  pub turn_here : (r : Turn) → at < length text → r ≡ turn_of f (stack_of stack depth) (drop at text) → Turned w.here (drop at text) r
  turn_here r h e =
      let d = drop-cons text at 0 h in
      let q : r ≡ turn_of (focus_of w.here) (gaps_of w.here) (get_or text at 0 ∷ drop (suc at) text) =
      e ∙ ap (λ (n : ℕ). turn_of n (stack_of stack depth) (drop at text)) (sym w.focus) ∙ ap (λ (l : List ℕ). turn_of (focus_of w.here) l (drop at text)) (sym w.gaps) ∙ ap (turn_of (focus_of w.here) (gaps_of w.here)) d in
      subst (λ (t : List ℕ). Turned w.here t r) (sym d)
      (subst (λ (u : Turn). Turned w.here (get_or text at 0 ∷ drop (suc at) text) u) (sym q) (turned w.here (take at text) at_after (get_or text at 0) (drop (suc at) text)))

  halted : (r : Turn) (p : ℕ) → at < length text → r ≡ turn_of f (stack_of stack depth) (drop at text) → r ≡ Err p → Halts w.here (drop at text) p
  halted r p h e s = subst (λ (u : Turn). Turned w.here (drop at text) u) s (turn_here r h e)

  pub halt_fits : (r : Turn) (p : ℕ) → at < length text → r ≡ turn_of f (stack_of stack depth) (drop at text) → r ≡ Err p → at + p ≤ length text
  halt_fits r p h e s =
      let k = (halted r p h e s).after in
      let m = reach_most next (drop at text) (between w.here) in
      let l = length-drop at text in
      omega arith

  pub halt_place : (r : Turn) (p : ℕ) → at < length text → r ≡ turn_of f (stack_of stack depth) (drop at text) → r ≡ Err p → at + p ≡ stops_at text
  halt_place r p h e s = sym (whole_reach ∙ ap (λ (n : ℕ). at + n) (halted r p h e s).after)

  pub halt_unread : (r : Turn) (p : ℕ) → at < length text → r ≡ turn_of f (stack_of stack depth) (drop at text) → r ≡ Err p → false ≡ readable text
  unfolding readable
  halt_unread r p h e s =
      sym (ap (λ (q : Place State). is_accepted (outcome_of q)) whole_run ∙ none (run next (between w.here) (drop at text)) (halted r p h e s).unread)
    where
      none : (q : Place State) → is_between q ≡ false → is_accepted (outcome_of q) ≡ false
      none dead i = refl
      none (between x) i = no_yes i refl
      none (within l) i = refl

-- the stack after a step

at_most : (b : Bool) → cond b 1 0 ≤ 1
at_most true = omega arith
at_most false = omega arith

erased_gaps : (m : Move) (ks : List ℕ) (s : State) → Erases m ks s → gaps_of s ≡ moved m ks
erased_gaps m ks (state gs f) h = h.0

erased_focus : (m : Move) (ks : List ℕ) (s : State) → Erases m ks s → focus_of s ≡ m.focus
erased_focus m ks (state gs f) h = h.1

take_more : (l : List ℕ) (a n : ℕ) → take (a + n) l ≡ take a l ++ take n (drop a l)
take_more l zero n = let e : 0 + n ≡ n = omega arith in rw e
take_more [] (suc a) n = let e : suc a + n ≡ suc (a + n) = omega arith in rw (e, take_nil n)
  where
    take_nil : (n : ℕ) → take {A = ℕ} n [] ≡ []
    take_nil zero = refl
    take_nil (suc n) = refl
take_more (x ∷ l) (suc a) n = let e : suc a + n ≡ suc (a + n) = omega arith in rw (e, take_more l a n)

set_above : (a : List ℕ) (i v d : ℕ) → d ≤ i → stack_of (set a i v) d ≡ stack_of a d
unfolding stack_of
set_above a i v zero h = refl
set_above a i v (suc d) h =
    let n : d ≡ i → ⊥ = λ e. omega arith in
    rw (set_above a i v d (omega arith), get_or-set_other a i d v 0 n)

push_set : (a : List ℕ) (d v : ℕ) → d < length a → stack_of (set a d v) (d + cond (ltb v 14) 1 0) ≡ pushed v (stack_of a d)
unfolding stack_of
push_set a d v h = go (ltb v 14)
  where
    go : (b : Bool) → stack_of (set a d v) (d + cond b 1 0) ≡ cond b (v ∷ stack_of a d) (stack_of a d)
    go true = rw (add-one d, get_or-set_same a d v 0 h, set_above a d v d (omega arith))
    go false = let e : d + 0 ≡ d = omega arith in rw e (set_above a d v d (omega arith))

module _ (text stack : List ℕ) (depth f at : ℕ) (w : At text stack depth f at) where
  went : (r : Turn) (k : ℕ) (m : Move) (n : ℕ) → at < length text → r ≡ turn_of f (stack_of stack depth) (drop at text) → r ≡ reads k m n → Goes w.here (drop at text) k m n
  went r k m n h e s = subst (λ (u : Turn). Turned w.here (drop at text) u) s (turn_here text stack depth f at w r h e)

  pub go_fits : (r : Turn) (k : ℕ) (m : Move) (n : ℕ) → at < length text → r ≡ turn_of f (stack_of stack depth) (drop at text) → r ≡ reads k m n → (1 ≤ n) × (at + n ≤ length text)
  go_fits r k m n h e s =
      let g = went r k m n h e s in
      let a = g.some in let b = g.within' in let l = length-drop at text in
      (a, omega arith)

  pub go_some : (r : Turn) (k : ℕ) (m : Move) (n : ℕ) → at < length text → r ≡ turn_of f (stack_of stack depth) (drop at text) → r ≡ reads k m n → 1 ≤ n
  go_some r k m n h e s = (go_fits r k m n h e s).0

  pub go_within : (r : Turn) (k : ℕ) (m : Move) (n : ℕ) → at < length text → r ≡ turn_of f (stack_of stack depth) (drop at text) → r ≡ reads k m n → at + n ≤ length text
  go_within r k m n h e s = (go_fits r k m n h e s).1

  -- the machine then stands where the word k has led
  pub record Went (k : ℕ) (next-stack : List ℕ) (deep f' at' : ℕ) : Type 0 where
    pub next : At text next-stack deep f' at'
    pub taken : Taken w.here k next.here

  pub at_go : (r : Turn) (k : ℕ) (m : Move) (n keep deep : ℕ) (next-stack : List ℕ) → at < length text → length text ≤ 1024
      → r ≡ turn_of f (stack_of stack depth) (drop at text) → r ≡ reads k m n
      → keep ≡ depth - m.pops → next-stack ≡ set stack keep m.push → deep ≡ keep + cond (ltb m.push 14) 1 0
      → Went k next-stack deep m.focus (at + n)
  at_go r k m n keep deep next-stack h big e s kept t d =
      let g = went r k m n h e s in
      let fit = go_fits r k m n h e s in
      let rm = w.room in
      let sh = w.shallow in
      let low : keep < length stack = omega arith in
      let bit = at_most (ltb m.push 14) in
      record {
        next = record {
          inside = fit.1;
          shallow = let a = fit.0 in omega arith;
          room = ap length t ∙ length-set stack keep m.push ∙ rm;
          here = g.to;
          read = ap (run next (between start)) (take_more text at n) ∙ run_append next (between start) (take at text) (take n (drop at text)) ∙ ap (λ (p : Place State). run next p (take n (drop at text))) w.read ∙ g.reads;
          gaps =
              erased_gaps m (gaps_of w.here) g.to g.steps
              ∙ ap (moved m) w.gaps
              ∙ ap (pushed m.push) (stack_drop stack depth m.pops ∙ ap (stack_of stack) (sym kept))
              ∙ sym (push_set stack keep m.push low)
              ∙ ap (λ (l : List ℕ). stack_of l (keep + cond (ltb m.push 14) 1 0)) (sym t)
              ∙ ap (stack_of next-stack) (sym d);
          focus = erased_focus m (gaps_of w.here) g.to g.steps;
        };
        taken = g.taken;
      }

-- the end of the text

pops_most : (n : ℕ) (ks : List ℕ) → pops n ks ≤ length ks
unfolding pops
pops_most n [] = omega arith
pops_most n (k ∷ ks) = go (binds n k) (pops_most n ks)
  where
    go : (b : Bool) → pops n ks ≤ length ks → cond b (suc (pops n ks)) 0 ≤ suc (length ks)
    go true ih = omega arith
    go false ih = omega arith

some_code : (g : Frame) (gs : List Frame) → 1 ≤ length (codes (g ∷ gs))
unfolding codes_in
some_code (left l o) gs = omega arith
some_code (lead one) gs = omega arith
some_code (lead two) gs = omega arith
some_code paren gs = omega arith
some_code negation gs = omega arith
some_code (test e) gs = omega arith

all_closed : (fs : List Frame) (e : Expr) → eqb (pops 0 (codes fs)) (length (codes fs)) ≡ is_accepted (whole (opened 0 fs) (closed 0 fs e))
all_closed fs e = go (opened 0 fs) (opened_codes fs 0 false false refl refl)
  where
    go : (gs : List Frame) → codes gs ≡ drop (pops 0 (codes fs)) (codes fs) → eqb (pops 0 (codes fs)) (length (codes fs)) ≡ is_accepted (whole gs (closed 0 fs e))
    go [] h =
        let a : length (codes []) ≡ length (codes fs) - pops 0 (codes fs) = ap length h ∙ length-drop (pops 0 (codes fs)) (codes fs) in
        let z : length (codes []) ≡ 0 = unfold codes_in in refl in
        let m = pops_most 0 (codes fs) in
        eq-eqb (pops 0 (codes fs)) (length (codes fs)) (omega arith)
    go (g ∷ gs) h =
        let a : length (codes (g ∷ gs)) ≡ length (codes fs) - pops 0 (codes fs) = ap length h ∙ length-drop (pops 0 (codes fs)) (codes fs) in
        let z = some_code g gs in
        ne_eqb (pops 0 (codes fs)) (length (codes fs)) (λ x. omega arith)

ended : (s : State) → may_end (focus_of s) (gaps_of s) ≡ is_accepted (outcome_at s)
ended (state fs want) = unfold focus_code in refl
ended (state fs (axis a)) = unfold focus_code in refl
ended (state fs (have e)) = rw (past_axis e).2 (all_closed fs e)

module _ (text stack : List ℕ) (depth f at : ℕ) (w : At text stack depth f at) where
  pub end_place : length text ≤ at → at ≡ stops_at text
  end_place h =
      let d : drop at text ≡ [] = drop_of_length-le text h in
      let z : reach next (between w.here) [] ≡ 0 = unfold reach in refl in
      sym (whole_reach text stack depth f at w ∙ (let y : reach next (between w.here) (drop at text) ≡ 0 = ap (reach next (between w.here)) d ∙ z in let x : at + reach next (between w.here) (drop at text) ≡ at = omega arith in x))

  -- what the whole text is read as
  pub end_outcome : length text ≤ at → outcome_of (run next (between start) text) ≡ outcome_at w.here
  end_outcome h =
      let d : drop at text ≡ [] = drop_of_length-le text h in
      let u : run next (between start) text ≡ between w.here = whole_run text stack depth f at w ∙ ap (run next (between w.here)) d ∙ unfold run in refl in
      ap outcome_of u

  pub end_read : length text ≤ at → may_end f (stack_of stack depth) ≡ readable text
  unfolding readable
  end_read h =
      ap (λ (n : ℕ). may_end n (stack_of stack depth)) (sym w.focus) ∙ ap (may_end (focus_of w.here)) (sym w.gaps) ∙ ended w.here ∙ ap is_accepted (sym (end_outcome h))

  -- the text is read as one expression, and so says the state
  pub record Accepted : Type 0 where
    pub path : Expr
    pub stands : outcome_at w.here ≡ accepted path
    pub reads : outcome_of (run next (between start) text) ≡ accepted path

  pub end_accepted : length text ≤ at → readable text ≡ true → Accepted
  unfolding readable
  end_accepted h r = go (outcome_at w.here) refl (ap is_accepted (sym (end_outcome h)) ∙ r)
    where
      go : (o : Outcome) → outcome_at w.here ≡ o → is_accepted o ≡ true → Accepted
      go (accepted e) p q = record { path = e; stands = p; reads = end_outcome h ∙ p }
      go refused p q = no_yes refl q

  pub end_refused : length text ≤ at → readable text ≡ false → (outcome_at w.here ≡ refused) × (outcome_of (run next (between start) text) ≡ refused)
  unfolding readable
  end_refused h r = go (outcome_at w.here) refl (ap is_accepted (sym (end_outcome h)) ∙ r)
    where
      go : (o : Outcome) → outcome_at w.here ≡ o → is_accepted o ≡ false → (outcome_at w.here ≡ refused) × (outcome_of (run next (between start) text) ≡ refused)
      go (accepted e) p q = no_yes q refl
      go refused p q = (p, end_outcome h ∙ p)
