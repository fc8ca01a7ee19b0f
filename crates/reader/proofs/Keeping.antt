-- What the reading of a text keeps from turn to turn, and what it comes to.
use Rattle.std.specs.Prelude.{Option, Result, Ok, Err}
use Prim.Native.Nat.{ℕ, ◌+◌, ◌-◌, ◌*◌, ◌≤◌, ◌<◌}
use native.Mathlib.Omega.{arith}
use mathlib.Core.Path.{◌≡◌, refl, sym, ap, ◌∙◌, subst}
use mathlib.Core.Logic.{⊎_elim}
use mathlib.Core.Bool.{Bool, true, false, cond}
use mathlib.Core.List.{List, [], ◌∷◌, ◌++◌, append-nil}
use lib.ListN.{length, take, drop}
use lib.Seq.{length-take-le}
use lib.Dec.{ltb, eqb}
use borrow.Author.Tests.{ltb-false, le-ltb}
use Rattle.model.proofs.Booleans.{Seen, yes!, no!, seen, no_yes}
use Rattle.model.specs.declared.refusal.Refusal.{Refusal}
use Rattle.model.specs.Refusals.{reply, told, verdict}
use Rattle.model.specs.Encoding.{Term, size, path_term}
use Rattle.grammar.specs.Grammar.{Expr}
use Rattle.grammar.specs.Online.{Choice, run}
use Rattle.grammar.specs.Online.Choice.{choice}
use Rattle.grammar.specs.Automaton.{State, next, start, each, behind, outcome_at, readable, stops_at}
use Rattle.grammar.specs.Automaton.State.{state}
use Rattle.grammar.specs.Automaton.Focus.{want, axis, have}
use Rattle.grammar.specs.Automaton.Outcome.{accepted}
use Rattle.grammar.specs.Typed.{path_of, names_in}
use Rattle.grammar.proofs.Soundness.{After}
use Rattle.grammar.proofs.Choices.{Nth, Taken, every_taken}
use Rattle.grammar.proofs.Names.{finished, pending_name, is_axis_focus, Begun, NamesOn, names_on, names_start, names_end, BegunOn, begun_on}
use Rattle.machine.specs.declared.Move.{Move}
use Rattle.machine.specs.Machine.{Turn, reads, codes_in, focus_code, stack_of, may_end}
use Rattle.machine.proofs.Machine.{gaps_of, focus_of, Goes}
use Rattle.machine.proofs.Loop.{At, at_after, turn_here, halt_fits, halt_place, halt_unread, go_some, go_within, Went, at_go, end_place, end_read, Accepted, end_accepted}
use Rattle.entries.specs.declared.Draft.{Draft}
use Rattle.entries.specs.Postfix.{Item, Made, Sound, Wrote, postfix, append_all, made, blank}
use Rattle.entries.proofs.Postfix.{wrote_none, wrote_on, built, entries_counted}
use Rattle.emission.specs.Items.{word_items, end_items}
use Rattle.emission.proofs.Emission.{OnAxis, AxisOn, axis_on, Tagged, Emits, written, emits, ends, written_start}
use Rattle.reader.specs.declared.Progress.{Progress}
use Rattle.reader.specs.declared.Sought.{Sought}
use Rattle.reader.specs.Read.{expression, typed, tag_in, query_of, any_unknown, unknown_place}
use Rattle.reader.specs.Turns.{beginning, first_unknown, any_in, place_in, sought_at, kept, opens, moved, turn_at, Within, Took, place_checks, Finished, ReadsTo}
use Rattle.reader.proofs.Names.{on_axis, some_tag, Ends, ends_here, goes_on, place_most, any_first, place_first}

-- the words have numbers below 38

nth_below : (l : List (Choice State)) (i : ℕ) (x : State) → Nth l i x → i < length l
nth_below [] i x n = absurd n
nth_below (choice m w y ∷ l) i x n =
    ⊎_elim (λ a. let e = a.0 in omega arith) (λ a. let e = a.1 in let h = nth_below l a.0 x a.2 in omega arith) n

taken_below : (s : State) (k : ℕ) (x : State) → Taken s k x → k < 38
unfolding next each Rattle.grammar.specs.Grammar.axes Rattle.grammar.specs.Grammar.variables
taken_below (state fs want) k x t = let h : k < 20 = nth_below (next (state fs want)) k x t in omega arith
taken_below (state fs (axis a)) k x t = ⊎_elim (λ u. let e = u.0 in omega arith) (λ u. let e = u.0 in omega arith) t
taken_below (state fs (have e)) k x t =
    ⊎_elim (λ u. let q = u.0 in omega arith) (λ u. let q = u.1 in let h : u.0 < 16 = nth_below (behind fs e) u.0 x u.2 in omega arith) t

-- the words from 34 on write no name, whatever the tag
unnamed_items : (f : ℕ) (ks : List ℕ) (k a g h : ℕ) → ltb k 34 ≡ false → word_items f ks k a g ≡ word_items f ks k a h
unfolding word_items
unnamed_items f ks k a g h e = let l = ltb-false k 34 e in rw (le-ltb k 20 (omega arith), e)

module _ (text house site : List ℕ) where
  abbrev tag : List ℕ → ℕ
  tag = tag_in house site

  -- one turn, over any tag that fits
  emitted_on : (s x : State) (c : List ℕ) (k a g : ℕ) → After s c → Taken s k x → OnAxis s a → Tagged tag s g
      → written tag x ≡ written tag s ++ word_items (focus_of s) (gaps_of s) k a g
  emitted_on (state fs f) x c k a g h t o w = every_taken (Emits tag) (state fs f) k x t (emits tag (state fs f) c h) a g o w

  emitted_end : (s : State) (c : List ℕ) (e : Expr) (a g : ℕ) → After s c → outcome_at s ≡ accepted e → OnAxis s a → Tagged tag s g
      → written tag s ++ end_items (focus_of s) (gaps_of s) a g ≡ postfix (path_term (path_of e tag))
  emitted_end (state fs f) c e a g h o n w = ends tag fs f c e h o a g n w

  module _ (b₀ : Made) where
    -- the place, the stack and the table are those of the state that the text up to here leads to
    pub record Kept (p : Progress) (stack : List ℕ) (b : Made) : Type 0 where
      pub place : At text stack p.depth p.focus p.at
      pub axis : OnAxis place.here p.axis
      pub begun : Begun place.here p.start
      pub started : p.start ≤ p.at
      pub unknown : p.unknown ≡ first_unknown house site (finished place.here)
      pub placed : place_in p.unknown ≤ p.at
      pub wrote : Wrote (written tag place.here) b₀ b

    pub kept_start : (stack : List ℕ) → length stack ≡ 1024 → Sound b₀ → Kept beginning stack b₀
    unfolding first_unknown run stack_of codes_in focus_code
    kept_start stack h s =
        record {
          place = record { inside = omega arith; shallow = omega arith; room = h; here = start; read = refl; gaps = refl; focus = refl };
          axis = tt;
          begun = tt;
          started = omega arith;
          unknown = sym (ap (first_unknown house site) names_start);
          placed = omega arith;
          wrote = subst (λ (l : List Item). Wrote l b₀ b₀) (sym (written_start tag)) (wrote_none b₀ s);
        }

    module _ (p : Progress) (stack : List ℕ) (b : Made) (w : Kept p stack b) where
      abbrev here : State
      here = w.place.here

      after : After here (take p.at text)
      after = at_after text stack p.depth p.focus p.at w.place

      ended : Ends house site text here p
      ended = ends_here house site text here p after w.place.focus w.begun w.unknown

      -- the turn stays in the text
      pub within_text : p.at < length text → (t : Turn) → t ≡ turn_at text p stack → Within p.at (length text) t
      within_text h (Err n) e = halt_fits text stack p.depth p.focus p.at w.place (Err n) n h e refl
      within_text h (Ok x) e =
          let g : Goes here (drop p.at text) x.number x.step x.len = turn_here text stack p.depth p.focus p.at w.place (Ok x) h e in
          (taken_below here x.number g.to g.taken, go_within text stack p.depth p.focus p.at w.place (Ok x) x.number x.step x.len h e refl)

      -- no text goes on
      pub kept_stuck : (n : ℕ) (r : Result Unit Refusal) (b' : Made) → p.at < length text → Err n ≡ turn_at text p stack
          → told r ≡ reply 24 (p.at + n) → ReadsTo text house site r b'
      unfolding verdict
      kept_stuck n r b' h e u =
          let f : false ≡ readable text = halt_unread text stack p.depth p.focus p.at w.place (Err n) n h e refl in
          record {
            judged =
                u ∙ ap (reply 24) (halt_place text stack p.depth p.focus p.at w.place (Err n) n h e refl)
                ∙ ap (λ (y : Bool). verdict (place_checks (stops_at text) y (unknown_place house site (names_in 0 (typed text))) (any_unknown house site (names_in 0 (typed text))))) f;
            entries = λ y. no_yes (sym f) y;
            columns = λ y. no_yes (sym f) y;
            front = λ y. no_yes (sym f) y;
          }

      -- a word was read
      module _ (k : ℕ) (m : Move) (n : ℕ) (low : p.at < length text) (short : length text ≤ 1024) (turn : reads k m n ≡ turn_at text p stack) where
        abbrev seeks : Sought
        seeks = sought_at text house site p (ltb k 34)

        module _ (q : Progress) (stack' : List ℕ) (b' : Made) (t : Took text house site p stack b k m n q stack' b') where
          went : Went text stack p.depth p.focus p.at w.place k stack' (kept p m + opens m) m.focus (p.at + n)
          went = at_go text stack p.depth p.focus p.at w.place (reads k m n) k m n (kept p m) (kept p m + opens m) stack' low short turn refl refl t.gaps refl

          abbrev there : State
          there = went.next.here

          axis_there : OnAxis there (cond (ltb k 13) k p.axis)
          axis_there = every_taken AxisOn here k there went.taken (axis_on here) p.axis w.axis

          begun_there : Begun there (cond (eqb p.focus 1) p.at p.start)
          begun_there =
              let b : Begun there (cond (is_axis_focus here) (length (take p.at text)) p.start) =
              every_taken (BegunOn (take p.at text)) here k there went.taken (begun_on here (take p.at text) after) p.start w.begun in
              let l : length (take p.at text) ≡ p.at = length-take-le p.at text w.place.inside in
              let f : eqb p.focus 1 ≡ is_axis_focus here = ap (λ (i : ℕ). eqb i 1) (sym w.place.focus) ∙ on_axis here in
              subst (Begun there) (ap (λ (i : ℕ). cond (is_axis_focus here) i p.start) l ∙ ap (λ (b : Bool). cond b p.at p.start) (sym f)) b

          names_there : finished there ≡ finished here ++ cond (ltb k 34) (pending_name here) []
          names_there = every_taken NamesOn here k there went.taken (names_on here)

          -- the names and what is written, as a name ends or not
          record Read : Type 0 where
            unknown : seeks.unknown ≡ first_unknown house site (finished there)
            placed : place_in seeks.unknown ≤ p.at
            items : written tag there ≡ written tag here ++ word_items p.focus (stack_of stack p.depth) k p.axis seeks.tag

          items_over : (g : ℕ) → Tagged tag here g → written tag there ≡ written tag here ++ word_items p.focus (stack_of stack p.depth) k p.axis g
          items_over g h =
              emitted_on here there (take p.at text) k p.axis g after went.taken w.axis h
              ∙ ap (λ (f : ℕ). written tag here ++ word_items f (gaps_of here) k p.axis g) w.place.focus
              ∙ ap (λ (ks : List ℕ). written tag here ++ word_items p.focus ks k p.axis g) w.place.gaps

          read_on : Seen (ltb k 34) → Read
          read_on (yes! e) =
              let z : seeks ≡ sought_at text house site p true = ap (sought_at text house site p) e in
              let f : finished here ++ pending_name here ≡ finished there = sym (names_there ∙ ap (λ (b : Bool). finished here ++ cond b (pending_name here) []) e) in
              record {
                unknown = ap (λ (x : Sought). x.unknown) z ∙ ended.unknown ∙ ap (first_unknown house site) f;
                placed = place_most house site text p (ltb k 34) w.placed w.started;
                items = items_over seeks.tag (subst (λ (x : Sought). Tagged tag here x.tag) (sym z) ended.tag);
              }
          read_on (no! e) =
              let z : seeks ≡ record { tag = 0; unknown = p.unknown } = ap (sought_at text house site p) e ∙ goes_on house site text p in
              let f : finished here ≡ finished there = sym (names_there ∙ ap (λ (b : Bool). finished here ++ cond b (pending_name here) []) e ∙ append-nil (finished here)) in
              record {
                unknown = ap (λ (x : Sought). x.unknown) z ∙ w.unknown ∙ ap (first_unknown house site) f;
                placed = let y = ap (λ (x : Sought). place_in x.unknown) z in let v = w.placed in omega arith;
                items =
                    items_over (some_tag house site here).0 (some_tag house site here).1
                    ∙ ap (λ (is : List Item). written tag here ++ is) (unnamed_items p.focus (stack_of stack p.depth) k p.axis (some_tag house site here).0 seeks.tag e);
              }

          pub kept_on : Kept q stack' b'
          unfolding moved
          kept_on =
              let d = read_on (seen (ltb k 34)) in
              let some : 1 ≤ n = go_some text stack p.depth p.focus p.at w.place (reads k m n) k m n low turn refl in
              subst (λ (x : Progress). Kept x stack' b') (sym t.place)
              (record {
                place = went.next;
                axis = axis_there;
                begun = begun_there;
                started = start_most (eqb p.focus 1);
                unknown = d.unknown;
                placed = let v = d.placed in omega arith;
                wrote =
                    subst (λ (is : List Item). Wrote is b₀ b') (sym d.items)
                    (wrote_on (written tag here) (word_items p.focus (stack_of stack p.depth) k p.axis seeks.tag) b₀ b b' w.wrote t.wrote);
              })
            where
              start_most : (b : Bool) → cond b p.at p.start ≤ p.at + n
              start_most true = omega arith
              start_most false = let v = w.started in omega arith

          -- the place goes on
          pub kept_less : length text - q.at < length text - p.at
          unfolding moved
          kept_less =
              let some : 1 ≤ n = go_some text stack p.depth p.focus p.at w.place (reads k m n) k m n low turn refl in
              let e : q.at ≡ p.at + n = ap (λ (x : Progress). x.at) t.place in
              omega arith

      -- the text ends
      module _ (high : length text ≤ p.at) (r : Result Unit Refusal) (b' : Made) (f : Finished text house site p stack b r b') (sound : Sound b₀) (empty : b₀.draft ≡ blank) where
        module _ (y : readable text ≡ true) where
          done : Accepted text stack p.depth p.focus p.at w.place
          done = end_accepted text stack p.depth p.focus p.at w.place high y

          typed_is : typed text ≡ done.path
          unfolding typed
          typed_is = ap expression done.reads

          all_names : finished here ++ pending_name here ≡ names_in 0 (typed text)
          all_names = sym (names_end here done.path done.stands) ∙ ap (names_in 0) (sym typed_is)

          abbrev term : Term
          term = path_term (query_of text house site)

          all_items : written tag here ++ end_items p.focus (stack_of stack p.depth) p.axis (sought_at text house site p true).tag ≡ postfix term
          unfolding query_of
          all_items =
              ap (λ (i : ℕ). written tag here ++ end_items i (stack_of stack p.depth) p.axis (sought_at text house site p true).tag) (sym w.place.focus)
              ∙ ap (λ (ks : List ℕ). written tag here ++ end_items (focus_of here) ks p.axis (sought_at text house site p true).tag) (sym w.place.gaps)
              ∙ emitted_end here (take p.at text) done.path p.axis (sought_at text house site p true).tag after done.stands w.axis ended.tag
              ∙ ap (λ (e : Expr). postfix (path_term (path_of e tag))) (sym typed_is)

          all_made : b' ≡ append_all (postfix term) (made blank b₀.table b₀.operands)
          all_made =
              (wrote_on (written tag here) (end_items p.focus (stack_of stack p.depth) p.axis (sought_at text house site p true).tag) b₀ b b' w.wrote f.wrote).whole
              ∙ ap (λ (is : List Item). append_all is b₀) all_items
              ∙ ap (λ (d : Draft). append_all (postfix term) (made d b₀.table b₀.operands)) empty

          same_unknown : (sought_at text house site p true).unknown ≡ first_unknown house site (names_in 0 (typed text))
          same_unknown = ended.unknown ∙ ap (first_unknown house site) all_names

        -- the verdict, with the names or without
        same_verdict : (y : Bool) → readable text ≡ y
            → verdict (place_checks (stops_at text) y (place_in (sought_at text house site p true).unknown) (any_in (sought_at text house site p true).unknown))
            ≡ verdict (place_checks (stops_at text) y (unknown_place house site (names_in 0 (typed text))) (any_unknown house site (names_in 0 (typed text))))
        unfolding verdict
        same_verdict false e = refl
        same_verdict true e =
            let u = same_unknown e in
            ap (λ (o : Option ℕ). verdict (place_checks (stops_at text) true (place_in o) (any_in o))) u
            ∙ ap (λ (i : ℕ). verdict (place_checks (stops_at text) true i (any_in (first_unknown house site (names_in 0 (typed text)))))) (place_first house site (names_in 0 (typed text)))
            ∙ ap (λ (a : Bool). verdict (place_checks (stops_at text) true (unknown_place house site (names_in 0 (typed text))) a)) (any_first house site (names_in 0 (typed text)))

        pub kept_end : ReadsTo text house site r b'
        kept_end =
            record {
              judged =
                  f.judged
                  ∙ ap (λ (i : ℕ). verdict (place_checks i (may_end p.focus (stack_of stack p.depth)) (place_in (sought_at text house site p true).unknown) (any_in (sought_at text house site p true).unknown))) (end_place text stack p.depth p.focus p.at w.place high)
                  ∙ ap (λ (y : Bool). verdict (place_checks (stops_at text) y (place_in (sought_at text house site p true).unknown) (any_in (sought_at text house site p true).unknown))) (end_read text stack p.depth p.focus p.at w.place high)
                  ∙ same_verdict (readable text) refl;
              entries = λ y. ap (λ (x : Made). x.draft.entries) (all_made y) ∙ entries_counted b₀.table b₀.operands sound.room sound.places (term y);
              columns = λ y h. ap (λ (x : Made). x.draft.columns) (all_made y) ∙ (built b₀.table b₀.operands sound.room sound.places (term y) h).1;
              front = λ y h. ap (λ (x : Made). take (4 * size (term y)) x.table) (all_made y) ∙ (built b₀.table b₀.operands sound.room sound.places (term y) h).2;
            }
