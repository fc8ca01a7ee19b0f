-- Laws of a name request: a name found by its number, what an accepted and a refused request are given, and that a name lies
-- in its table.
use Prim.Native.Nat.{ℕ, zero, suc, ◌+◌, ◌-◌, ◌≤◌, ◌<◌}
use native.Mathlib.Omega.{arith}
use mathlib.Core.Path.{◌≡◌, refl, sym, ap, ◌∙◌}
use mathlib.Core.Bool.{true, false, cond}
use mathlib.Core.List.{List, [], ◌∷◌, ◌++◌}
use lib.ListN.{length, take, drop, get_or}
use denote.Ref.{Bor}
use lib.Dec.{ltb, eqb}
use borrow.Author.Tests.{eqb-true, eq-eqb, ne_eqb, lt-ltb, le-ltb, ltb-true, ltb-false}
use Rattle.model.specs.Refusals.{refuse, reply, refused, verdict}
use Rattle.model.specs.declared.Reply.{Reply}
use Rattle.model.specs.declared.refusal.Refusal.{Refusal}
use Rattle.model.specs.declared.refusal.Refusal.TheVariants.{NoName}
use Rattle.model.proofs.Booleans.{Seen, yes!, no!, seen, or_right, no_or}
use Rattle.model.proofs.Refusals.{numbered, Passes, accepted, stop, pass, accept, stop_err, pass_ok, refused_some}
use Rattle.names.specs.declared.Table.{Table}
use Rattle.names.specs.declared.Table.TheVariants.{House, Site}
use Rattle.names.specs.declared.Part.{Part}
use Rattle.std.specs.Prelude.{Result, Ok, Err}
use Rattle.names.proofs.Reading.{fits_rest}
use Rattle.names.specs.Names.{bad_length, malformed_from, names_from, names, part, nothing, by_tag, unnamed, name_table_checks, name_checks, part_for, table_of, reply_of, part_of, found, Decided, IsPart}

-- a name found by its number: in the first of two lists, or past it in the second

pub in_first : (a b : List Part) (k : ℕ) (p : Part) (f : Result Part ℕ) → f ≡ found a k → f ≡ Ok p → Ok p ≡ found (a ++ b) k
unfolding found
in_first [] b k p f e h = cc
in_first (q ∷ qs) b zero p f e h = sym h ∙ e
in_first (q ∷ qs) b (suc k) p f e h = in_first qs b k p f e h

pub in_second : (a b : List Part) (k j : ℕ) (f g : Result Part ℕ) → f ≡ found a k → f ≡ Err j → g ≡ found b j → g ≡ found (a ++ b) k
unfolding found
in_second [] b k j f g e h r = let z : j ≡ k = cc in r ∙ ap (found b) z
in_second (q ∷ qs) b zero j f g e h r = cc
in_second (q ∷ qs) b (suc k) j f g e h r = in_second qs b k j f g e h r

-- what was found says whether there is such a name, and which it is

found_is : (ps : List Part) (k : ℕ) (p : Part) → found ps k ≡ Ok p → (ltb k (length ps) ≡ true) × (get_or ps k nothing ≡ p)
unfolding found
found_is [] k p h = ((cc), (cc))
found_is (q ∷ qs) zero p h = (lt-ltb zero (suc (length qs)) (omega arith), (cc))
found_is (q ∷ qs) (suc k) p h = let w = found_is qs k p h in (lt-ltb (suc k) (suc (length qs)) (omega (arith, ltb-true k (length qs) w.0)), w.1)

found_not : (ps : List Part) (k j : ℕ) → found ps k ≡ Err j → ltb k (length ps) ≡ false
unfolding found
found_not [] k j h = le-ltb k zero (omega arith)
found_not (q ∷ qs) zero j h = cc
found_not (q ∷ qs) (suc k) j h = le-ltb (suc k) (suc (length qs)) (omega (arith, ltb-false k (length qs) (found_not qs k j h)))

tables_numbered : (house site : List ℕ) → numbered (name_table_checks house site) ≡ true
unfolding name_table_checks numbered
tables_numbered house site = refl

module _ (house site : List ℕ) (tag : ℕ) where
  pub too_high : 65533 < tag → true ≡ unnamed house site tag
  unfolding unnamed
  too_high l = rw (lt-ltb 65533 tag l)

  pub missing : (t j : ℕ) (f : Result Part ℕ) → f ≡ found (by_tag house site) t → f ≡ Err j → t ≡ tag → true ≡ unnamed house site tag
  unfolding unnamed
  missing t j f e h q = sym (rw (found_not (by_tag house site) tag j (ap (found (by_tag house site)) (sym q) ∙ sym e ∙ h)) (or_right (ltb 65533 tag) true refl))

  pub present : (t : ℕ) (p : Part) (f : Result Part ℕ) → f ≡ found (by_tag house site) t → f ≡ Ok p → t ≡ tag → tag ≤ 65533 → false ≡ unnamed house site tag
  unfolding unnamed
  present t p f e h q l =
      rw (le-ltb 65533 tag l, (found_is (by_tag house site) tag p (ap (found (by_tag house site)) (sym q) ∙ sym e ∙ h)).0)

  -- the verdict where both tables are runs of names

  module _ (r : Reply) (p : reply 0 0 ≡ verdict (name_table_checks house site)) where
    none : r ≡ reply 22 0 → true ≡ unnamed house site tag → r ≡ verdict (name_checks house site tag)
    unfolding name_checks
    none z u =
        pass_ok (name_table_checks house site) (refuse 22 (unnamed house site tag) ∷ []) r
        (stop 22 [] 0 true (unnamed house site tag) r z u refl) p (tables_numbered house site)

    one : r ≡ reply 0 0 → false ≡ unnamed house site tag → r ≡ verdict (name_checks house site tag)
    unfolding name_checks
    one z u =
        pass_ok (name_table_checks house site) (refuse 22 (unnamed house site tag) ∷ []) r
        (pass 22 [] 0 false (unnamed house site tag) r (accept r z) u refl) p (tables_numbered house site)

  -- a refused request, and one that is accepted

  no_request : (e : Refusal) → refused e ≡ verdict (name_checks house site tag) → Decided house site tag (Err e)
  unfolding part_for
  no_request e v = record {
    replied = v;
    given = rw (ne_eqb (verdict (name_checks house site tag)).number 0 (λ h. refused_some e (ap (λ (r : Reply). r.number) v ∙ h)));
  }

  pub refused_21 : (e : Refusal) → refused e ≡ verdict (name_table_checks house site) → Decided house site tag (Err e)
  unfolding name_checks
  refused_21 e v = no_request e (stop_err (name_table_checks house site) (refuse 22 (unnamed house site tag) ∷ []) e v)

  pub refused_22 : reply 0 0 ≡ verdict (name_table_checks house site) → true ≡ unnamed house site tag → Decided house site tag (Err NoName)
  refused_22 p u = no_request NoName (none (reply 22 0) p refl u)

  pub named : (t : ℕ) (p : Part) (f : Result Part ℕ) → reply 0 0 ≡ verdict (name_table_checks house site) → f ≡ found (by_tag house site) t → f ≡ Ok p → t ≡ tag
      → tag ≤ 65533 → Decided house site tag (Ok p)
  unfolding part_for
  named t p f v e h q l = record {
    replied = accepts;
    given = sym (rw (eq-eqb (verdict (name_checks house site tag)).number 0 (ap (λ (r : Reply). r.number) (sym accepts)))
        (found_is (by_tag house site) tag p (ap (found (by_tag house site)) (sym q) ∙ sym e ∙ h)).1);
  }
    where
      accepts : reply 0 0 ≡ verdict (name_checks house site tag)
      accepts = one (reply 0 0) v refl (present t p f e h q l)

-- a name lies in its table

-- what holds of nothing and of each part that ends by the end of the bytes holds of each name
name_in : (P : Part → Type 0) (w : Table) (t : List ℕ) (from rest : ℕ) → malformed_from rest t ≡ false → P nothing
    → ((s l : ℕ) → s + l ≤ from + length t → P (part w s l)) → (k : ℕ) → P (get_or (names_from w from rest t) k nothing)
unfolding malformed_from names_from
name_in P w [] from rest h z f k = z
name_in P w (b ∷ bs) from zero h z f zero =
    let l : b ≤ length bs = fits_rest b bs (no_or (bad_length b) (malformed_from b bs) h).1 in f (suc from) b (omega arith)
name_in P w (b ∷ bs) from zero h z f (suc k) =
    name_in P w bs (suc from) b (no_or (bad_length b) (malformed_from b bs) h).1 z (λ s l e. f s l (omega arith)) k
name_in P w (b ∷ bs) from (suc rest) h z f k = name_in P w bs (suc from) rest h z (λ s l e. f s l (omega arith)) k

either_list : (P : Part → Type 0) (a b : List Part) → ((k : ℕ) → P (get_or a k nothing)) → ((k : ℕ) → P (get_or b k nothing)) → (k : ℕ) → P (get_or (a ++ b) k nothing)
either_list P [] b f g k = g k
either_list P (p ∷ ps) b f g zero = f zero
either_list P (p ∷ ps) b f g (suc k) = either_list P ps b (λ k. f (suc k)) g k

-- the part lies in its table
abbrev Inside : List ℕ → List ℕ → Part → Type 0
Inside house site p = p.start + p.len ≤ length (table_of p.table house site)

inside : (house site : List ℕ) (tag : ℕ) → Inside house site (part_for house site tag)
unfolding part_for name_checks name_table_checks numbered Passes
inside house site tag = go (seen (eqb (verdict (name_checks house site tag)).number 0))
  where
    go : Seen (eqb (verdict (name_checks house site tag)).number 0)
        → Inside house site (cond (eqb (verdict (name_checks house site tag)).number 0) (get_or (by_tag house site) tag nothing) nothing)
    go (yes! e) =
        let w : Passes (name_checks house site tag) = accepted (name_checks house site tag) refl (eqb-true (verdict (name_checks house site tag)).number 0 e) in
        rw e
        (either_list (Inside house site) (names House house) (names Site site)
        (name_in (Inside house site) House house 0 0 w.0 (omega arith) (λ s l e. omega arith))
        (name_in (Inside house site) Site site 0 0 w.1.0 (omega arith) (λ s l e. omega arith))
        tag)
    go (no! e) = rw e (omega arith)

-- the reply of a decided request

module _ (house site : List ℕ) (tag : ℕ) (l : Result Part Refusal) where
  pub is_accepted_lem : (p : Part) → Decided house site tag l → l ≡ Ok p → reply 0 0 ≡ verdict (name_checks house site tag)
  is_accepted_lem p a e = sym (ap reply_of e) ∙ a.replied

  pub is_refused : (e : Refusal) → Decided house site tag l → l ≡ Err e → refused e ≡ verdict (name_checks house site tag)
  is_refused e a h = sym (ap reply_of h) ∙ a.replied

-- the part that it names

module _ (house site : List ℕ) (tag : ℕ) (l : Result Part Refusal) (p : Part) where
  pub is_name : Decided house site tag l → l ≡ Ok p → p ≡ part_for house site tag
  is_name a e = sym (ap part_of e) ∙ a.given

  pub ends_in : (w : Table) → Decided house site tag l → l ≡ Ok p → p.table ≡ w → p.start + p.len ≤ length (table_of w house site)
  ends_in w a e t = rw t at (rw (sym (is_name a e)) at (inside house site tag))

  pub ends_below : (n : ℕ) → length house < n → length site < n → Decided house site tag l → l ≡ Ok p → p.start + p.len < n
  ends_below n h s a e = go p.table refl
    where
      go : (w : Table) → p.table ≡ w → p.start + p.len < n
      go House t = omega (arith, ends_in House a e t)
      go Site t = omega (arith, ends_in Site a e t)

pub no_name : (house site : List ℕ) (tag : ℕ) (l : Result Part Refusal) (e : Refusal) → Decided house site tag l → l ≡ Err e → nothing ≡ part_for house site tag
no_name house site tag l e a h = sym (ap part_of h) ∙ a.given

-- the slice of that part, from its start to its end
pub is_part : (house site r : Bor (List ℕ)) (w : Table) (p q : Part) → p ≡ q → p.table ≡ w → r.ref_ptr.0 ≡ (table_of w house site).ref_ptr.0
    → r.ref_ptr.1 ≡ (table_of w house site).ref_ptr.1 + p.start
    → r.now ≡ take ((p.start + p.len) - p.start) (drop p.start (table_of w house site).now)
    → IsPart house site r q
is_part house site r w p q e t b o n =
    let k : (p.start + p.len) - p.start ≡ p.len = omega arith in
    rw (sym e) (record { block = rw t b; offset = rw t o; bytes = rw t (rw k at n) })
