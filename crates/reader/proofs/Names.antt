-- The names of a text while it is read: their tags, and the place of the first that has none.
use Rattle.std.specs.Prelude.{Option, Some, None}
use Prim.Native.Nat.{ℕ, zero, suc, ◌-◌, ◌≤◌}
use native.Mathlib.Omega.{arith}
use mathlib.Core.Path.{◌≡◌, refl, sym, ap, ◌∙◌, subst}
use mathlib.Core.Bool.{Bool, true, false, not, ◌&&◌, ◌||◌, cond}
use mathlib.Core.List.{List, [], ◌∷◌, ◌++◌, append-nil}
use lib.ListN.{take, drop}
use lib.Dec.{ltb, eqb}
use Rattle.model.proofs.Booleans.{no_yes}
use Rattle.grammar.specs.Grammar.Expr.{wildcard, named, dot, dots, variable, bracket, closure, negate, is, filter, rooted, join}
use Rattle.grammar.specs.Automaton.{State}
use Rattle.grammar.specs.Automaton.Focus.{want, axis, have}
use Rattle.grammar.specs.Automaton.State.{state}
use Rattle.grammar.specs.Typed.{TypedName, names_in}
use Rattle.grammar.proofs.Soundness.{After}
use Rattle.grammar.proofs.Names.{finished, pending_name, in_name, is_axis_focus, Begun, pending_part, pending_none}
use Rattle.machine.specs.Machine.{focus_code}
use Rattle.machine.proofs.Machine.{focus_of, focus_named, past_axis}
use Rattle.emission.proofs.Emission.{Tagged}
use Rattle.names.specs.Tags.{tag_of, tag_number, is_known}
use Rattle.reader.specs.declared.Progress.{Progress}
use Rattle.reader.specs.declared.Sought.{Sought}
use Rattle.reader.specs.Read.{tag_in, any_unknown, unknown_place}
use Rattle.reader.specs.Turns.{first_place, own_place, first_unknown, any_in, place_in, sought_name, sought_at}

-- the focus tells whether a name is being read, and whether an axis was
pub in_name_lem : (s : State) → ltb 5 (focus_of s) ≡ in_name s
unfolding focus_code
in_name_lem (state fs want) = refl
in_name_lem (state fs (axis a)) = refl
in_name_lem (state fs (have e)) = focus_named e

pub on_axis : (s : State) → eqb (focus_of s) 1 ≡ is_axis_focus s
on_axis (state fs want) = unfold focus_code in refl
on_axis (state fs (axis a)) = unfold focus_code in refl
on_axis (state fs (have e)) = (past_axis e).1

-- the bytes between two places
pub between_places : (l : List ℕ) (a b : ℕ) → drop a (take b l) ≡ take (b - a) (drop a l)
between_places l zero b = let e : b - 0 ≡ b = omega arith in rw e
between_places [] (suc a) b = drop_nothing b ∙ sym (take_nothing (b - suc a))
  where
    take_nothing : (n : ℕ) → take {A = ℕ} n [] ≡ []
    take_nothing zero = refl
    take_nothing (suc n) = refl

    drop_nothing : (n : ℕ) → drop {A = ℕ} (suc a) (take n []) ≡ []
    drop_nothing zero = refl
    drop_nothing (suc n) = refl
between_places (x ∷ l) (suc a) zero = let e : 0 - suc a ≡ 0 = omega arith in rw e
between_places (x ∷ l) (suc a) (suc b) = between_places l a b ∙ (let e : b - a ≡ suc b - suc a = omega arith in rw e)

module _ (house site : List ℕ) where
  -- one name more: the first without a tag
  first_last : (ns : List TypedName) (n : TypedName)
      → first_unknown house site (ns ++ (n ∷ [])) ≡ first_place (first_unknown house site ns) (own_place (tag_of house site n.name) n.place)
  unfolding first_unknown
  first_last [] n = refl
  first_last (m ∷ ns) n = go (is_known (tag_of house site m.name)) (first_last ns n)
    where
      go : (b : Bool) → first_unknown house site (ns ++ (n ∷ [])) ≡ first_place (first_unknown house site ns) (own_place (tag_of house site n.name) n.place)
          → cond b (first_unknown house site (ns ++ (n ∷ []))) (Some m.place)
          ≡ first_place (cond b (first_unknown house site ns) (Some m.place)) (own_place (tag_of house site n.name) n.place)
      go true ih = ih
      go false ih = refl

  -- whether there is one, and its place
  pub any_first : (ns : List TypedName) → any_in (first_unknown house site ns) ≡ any_unknown house site ns
  unfolding first_unknown any_unknown
  any_first [] = refl
  any_first (n ∷ ns) = go (is_known (tag_of house site n.name)) (any_first ns)
    where
      go : (b : Bool) → any_in (first_unknown house site ns) ≡ any_unknown house site ns
          → any_in (cond b (first_unknown house site ns) (Some n.place)) ≡ (not b || any_unknown house site ns)
      go true ih = ih
      go false ih = refl

  pub place_first : (ns : List TypedName) → place_in (first_unknown house site ns) ≡ unknown_place house site ns
  unfolding first_unknown unknown_place
  place_first [] = refl
  place_first (n ∷ ns) = go (is_known (tag_of house site n.name)) (place_first ns)
    where
      go : (b : Bool) → place_in (first_unknown house site ns) ≡ unknown_place house site ns
          → place_in (cond b (first_unknown house site ns) (Some n.place)) ≡ cond b (unknown_place house site ns) n.place
      go true ih = ih
      go false ih = refl

  -- where no name is being read, any tag will do
  untagged : (s : State) (g : ℕ) → in_name s ≡ false → Tagged (tag_in house site) s g
  untagged (state fs want) g h = tt
  untagged (state fs (axis a)) g h = tt
  untagged (state fs (have (wildcard a w))) g h = tt
  untagged (state fs (have (named a name))) g h = no_yes h refl
  untagged (state fs (have dot)) g h = tt
  untagged (state fs (have dots)) g h = tt
  untagged (state fs (have (variable k))) g h = tt
  untagged (state fs (have (bracket e))) g h = tt
  untagged (state fs (have (closure e))) g h = tt
  untagged (state fs (have (negate e))) g h = tt
  untagged (state fs (have (is k))) g h = tt
  untagged (state fs (have (filter e t))) g h = tt
  untagged (state fs (have (rooted s e))) g h = tt
  untagged (state fs (have (join o l r))) g h = tt

  abbrev first_name : List TypedName → List ℕ
  first_name [] = []
  first_name (n ∷ ns) = n.name

  tagged_name : (s : State) (p : ℕ) (name : List ℕ) → in_name s ≡ true → pending_name s ≡ record { place = p; name = name } ∷ [] → Tagged (tag_in house site) s (tag_in house site name)
  unfolding pending_name names_in
  tagged_name (state fs want) p name i h = no_yes refl i
  tagged_name (state fs (axis a)) p name i h = no_yes refl i
  tagged_name (state fs (have (wildcard a w))) p name i h = tt
  tagged_name (state fs (have (named a b))) p name i h = ap (tag_in house site) (sym (ap first_name h))
  tagged_name (state fs (have dot)) p name i h = tt
  tagged_name (state fs (have dots)) p name i h = tt
  tagged_name (state fs (have (variable k))) p name i h = tt
  tagged_name (state fs (have (bracket e))) p name i h = tt
  tagged_name (state fs (have (closure e))) p name i h = tt
  tagged_name (state fs (have (negate e))) p name i h = tt
  tagged_name (state fs (have (is k))) p name i h = tt
  tagged_name (state fs (have (filter e t))) p name i h = tt
  tagged_name (state fs (have (rooted s e))) p name i h = tt
  tagged_name (state fs (have (join o l r))) p name i h = tt

  -- every state has a tag that fits
  pub some_tag : (s : State) → (g : ℕ) × Tagged (tag_in house site) s g
  some_tag (state fs want) = (0, tt)
  some_tag (state fs (axis a)) = (0, tt)
  some_tag (state fs (have (wildcard a w))) = (0, tt)
  some_tag (state fs (have (named a b))) = (tag_in house site b, refl)
  some_tag (state fs (have dot)) = (0, tt)
  some_tag (state fs (have dots)) = (0, tt)
  some_tag (state fs (have (variable k))) = (0, tt)
  some_tag (state fs (have (bracket e))) = (0, tt)
  some_tag (state fs (have (closure e))) = (0, tt)
  some_tag (state fs (have (negate e))) = (0, tt)
  some_tag (state fs (have (is k))) = (0, tt)
  some_tag (state fs (have (filter e t))) = (0, tt)
  some_tag (state fs (have (rooted s e))) = (0, tt)
  some_tag (state fs (have (join o l r))) = (0, tt)

  -- what is sought where a name ends, if one does
  pub record Ends (text : List ℕ) (s : State) (p : Progress) : Type 0 where
    pub tag : Tagged (tag_in house site) s (sought_at text house site p true).tag
    pub unknown : (sought_at text house site p true).unknown ≡ first_unknown house site (finished s ++ pending_name s)

  abbrev one_name : ℕ → List ℕ → List TypedName
  one_name p l = record { place = p; name = l } ∷ []

  nothing_sought : (text : List ℕ) (p : Progress) (ended : Bool) → (ltb 5 p.focus && ended) ≡ false
      → sought_at text house site p ended ≡ record { tag = 0; unknown = p.unknown }
  unfolding sought_at
  nothing_sought text p ended h = rw h

  name_sought : (text : List ℕ) (p : Progress) → ltb 5 p.focus ≡ true
      → sought_at text house site p true ≡ sought_name (tag_of house site (take (p.at - p.start) (drop p.start text))) p
  unfolding sought_at
  name_sought text p h = rw h

  pub ends_here : (text : List ℕ) (s : State) (p : Progress) → After s (take p.at text) → focus_of s ≡ p.focus → Begun s p.start
      → p.unknown ≡ first_unknown house site (finished s) → Ends text s p
  ends_here text s p af f b u = go (in_name s) refl
    where
      named_here : ltb 5 p.focus ≡ in_name s
      named_here = ap (λ (n : ℕ). ltb 5 n) (sym f) ∙ in_name_lem s

      go : (i : Bool) → in_name s ≡ i → Ends text s p
      go false i =
          let h : (ltb 5 p.focus && true) ≡ false = ap (λ (v : Bool). v && true) (named_here ∙ i) in
          let e = nothing_sought text p true h in
          let n : finished s ≡ finished s ++ pending_name s = sym (ap (λ (l : List TypedName). finished s ++ l) (pending_none s i) ∙ append-nil (finished s)) in
          record {
            tag = subst (λ (x : Sought). Tagged (tag_in house site) s x.tag) (sym e) (untagged s 0 i);
            unknown = ap (λ (x : Sought). x.unknown) e ∙ u ∙ ap (first_unknown house site) n;
          }
      go true i =
          let e = name_sought text p (named_here ∙ i) in
          let name : List ℕ = take (p.at - p.start) (drop p.start text) in
          let typed : TypedName = record { place = p.start; name = name } in
          let n : pending_name s ≡ typed ∷ [] =
          pending_part s (take p.at text) p.start af b i ∙ ap (one_name p.start) (between_places text p.start p.at) in
          let m : finished s ++ (typed ∷ []) ≡ finished s ++ pending_name s = ap (λ (l : List TypedName). finished s ++ l) (sym n) in
          record {
            tag = subst (λ (x : Sought). Tagged (tag_in house site) s x.tag) (sym e) (tagged_name s p.start name i n);
            unknown =
                ap (λ (x : Sought). x.unknown) e
                ∙ ap (λ (o : Option ℕ). first_place o (own_place (tag_of house site name) p.start)) u
                ∙ sym (first_last (finished s) typed)
                ∙ ap (first_unknown house site) m;
          }

  -- no name ends
  pub goes_on : (text : List ℕ) (p : Progress) → sought_at text house site p false ≡ record { tag = 0; unknown = p.unknown }
  goes_on text p = nothing_sought text p false (and_false (ltb 5 p.focus))
    where
      and_false : (b : Bool) → (b && false) ≡ false
      and_false true = refl
      and_false false = refl

  -- the place of a name without a tag is one that has been passed
  pub place_most : (text : List ℕ) (p : Progress) (ended : Bool) → place_in p.unknown ≤ p.at → p.start ≤ p.at → place_in (sought_at text house site p ended).unknown ≤ p.at
  unfolding sought_at
  place_most text p ended h l =
      go (ltb 5 p.focus && ended) (is_known (tag_of house site (take (p.at - p.start) (drop p.start text)))) p.unknown h
    where
      go : (b c : Bool) (o : Option ℕ) → place_in o ≤ p.at
          → place_in (cond {A = Sought} b (record { tag = tag_number (tag_of house site (take (p.at - p.start) (drop p.start text))); unknown = first_place o (cond c None (Some p.start)) }) (record { tag = 0; unknown = o })).unknown ≤ p.at
      go true c (Some i) h = h
      go true true None h = h
      go true false None h = l
      go false c o h = h
