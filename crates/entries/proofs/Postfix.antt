-- A term's items make its table: the numbers that stand on the stack are those that the table names.
use Prim.Native.Nat.{ℕ, suc, ◌+◌, ◌-◌, ◌*◌, ◌≤◌, ◌<◌, min, max}
use native.Mathlib.Omega.{arith}
use mathlib.Core.Path.{◌≡◌, refl, sym, ap, ap₂, ◌∙◌, subst}
use mathlib.Core.Bool.{cond}
use mathlib.Core.List.{List, [], ◌∷◌, ◌++◌, append_assoc}
use lib.ListN.{length, get_or, set, take, drop, length-append}
use lib.Seq.{take_at, take-take, take-set-le, get_or-take, get_or-set_same, length-take-le}
use lib.Dec.{ltb}
use borrow.Author.Tests.{ltb-true, ltb-false, lt-ltb}
use Rattle.model.proofs.Booleans.{Seen, yes!, no!, seen}
use Rattle.model.specs.Encoding.{Term, size, entry4, encode, columns}
use Rattle.entries.specs.Postfix.{Item, Made, postfix, put, entered, needing, operand, append, append_all, made, blank, Sound, Wrote}
use Rattle.entries.specs.Size.{counted}
use Rattle.entries.proofs.Drafts.{append_sound}

pub append_all_append : (a b : List Item) (m : Made) → append_all (a ++ b) m ≡ append_all b (append_all a m)
unfolding append_all
append_all_append [] b m = refl
append_all_append (i ∷ is) b m = append_all_append is b (append i m)

pub append_all_sound : (is : List Item) (m : Made) → Sound m → Sound (append_all is m)
unfolding append_all
append_all_sound [] m w = w
append_all_sound (i ∷ is) m w = append_all_sound is (append i m) (append_sound i m w)

-- calls, one after the other

pub wrote_none : (m : Made) → Sound m → Wrote [] m m
unfolding append_all
wrote_none m w = record { whole = refl; sound = w }

pub wrote_on : (a b : List Item) (m n o : Made) → Wrote a m n → Wrote b n o → Wrote (a ++ b) m o
wrote_on a b m n o v w = record { whole = w.whole ∙ ap (append_all b) v.whole ∙ sym (append_all_append a b m); sound = w.sound }

-- an entry more

module _ (r : Made) (w : Sound r) (h : r.draft.entries < 64) (k l q g d : ℕ) where
  new_table : take (4 * (r.draft.entries + 1)) (put (4 * r.draft.entries) (entry4 k l q g) r.table) ≡ take (4 * r.draft.entries) r.table ++ entry4 k l q g
  new_table =
      let i = 4 * r.draft.entries in
      let t = r.table in
      let e : length (take i t) ≡ i = length-take-le i t (omega (arith, w.room)) in
      ap (take (4 * (r.draft.entries + 1))) (sym (append_assoc (take i t) (entry4 k l q g) (drop (i + 4) t)))
      ∙ take_at (take i t ++ entry4 k l q g) (drop (i + 4) t) (4 * (r.draft.entries + 1)) (omega (arith, e, length-append (take i t) (entry4 k l q g)))

  new_top : d ≤ r.draft.entries → get_or (set r.operands d r.draft.entries) d 0 ≡ r.draft.entries
  new_top p = get_or-set_same r.operands d r.draft.entries 0 (omega (arith, w.places))

-- how a term's items change what was made: the entries of the term behind those before, and the number of its last one on the stack
pub record Grown (t : Term) (m r : Made) : Type 0 where
  pub entries : r.draft.entries ≡ m.draft.entries + size t
  pub depth : r.draft.depth ≡ m.draft.depth + 1
  pub needs : r.draft.columns ≡ max m.draft.columns (columns t)
  pub table : take (4 * (m.draft.entries + size t)) r.table ≡ take (4 * m.draft.entries) m.table ++ encode m.draft.entries t
  pub below : take m.draft.depth r.operands ≡ take m.draft.depth m.operands
  pub top : get_or r.operands m.draft.depth 0 ≡ m.draft.entries + size t - 1

grown_leaf : (k l g : ℕ) (m : Made) → Sound m → m.draft.entries < 64 → Grown (Term.leaf k l g) m (append (Item.leaf k l g) m)
unfolding append size encode columns
grown_leaf k l g m w h =
    let n = needing k l m in
    let v : Sound n = record { room = w.room; places = w.places; stacked = w.stacked; counted = w.counted } in
    let d = m.draft.depth in
    let e : append (Item.leaf k l g) m ≡ entered k l 0 g d n = rw (lt-ltb m.draft.entries 64 h) in
    subst (Grown (Term.leaf k l g) m) (sym e) (record {
      entries = refl;
      depth = refl;
      needs = refl;
      table = new_table n v h k l 0 g d;
      below = take-set-le d m.operands d m.draft.entries (omega arith);
      top = new_top n v h k l 0 g d w.stacked ∙ (let z : m.draft.entries ≡ m.draft.entries + 1 - 1 = omega arith in z);
    })

grown_unary : (k : ℕ) (a : Term) (m r : Made) → Grown a m r → Sound m → Sound r → m.draft.entries + size (Term.unary k a) ≤ 64
    → Grown (Term.unary k a) m (append (Item.unary k) r)
unfolding append size encode columns
grown_unary k a m r u w v h =
    let d = m.draft.depth in
    let n = m.draft.entries in
    let z : r.draft.entries ≡ n + size a = u.entries in
    let y : r.draft.depth - 1 ≡ d = omega (arith, u.depth) in
    let f : r.draft.entries < 64 = omega arith in
    let x = n + size a - 1 in
    let o : operand 0 r ≡ x = ap (λ (i : ℕ). get_or r.operands i 0) y ∙ u.top in
    let e : append (Item.unary k) r ≡ entered k x 0 0 d r =
    rw (lt-ltb r.draft.entries 64 f) (ap₂ (λ (l i : ℕ). entered k l 0 0 i r) o y) in
    subst (Grown (Term.unary k a) m) (sym e) (record {
      entries = omega arith;
      depth = refl;
      needs = u.needs;
      table = ap (λ (i : ℕ). take (4 * i) (put (4 * r.draft.entries) (entry4 k x 0 0) r.table)) (let q : n + suc (size a) ≡ r.draft.entries + 1 = omega arith in q)
          ∙ new_table r v f k x 0 0 d
          ∙ ap (λ (i : ℕ). take (4 * i) r.table ++ entry4 k x 0 0) z
          ∙ ap (λ (s : List ℕ). s ++ entry4 k x 0 0) u.table
          ∙ append_assoc (take (4 * n) m.table) (encode n a) (entry4 k x 0 0);
      below = take-set-le d r.operands d r.draft.entries (omega arith) ∙ u.below;
      top = new_top r v f k x 0 0 d (omega (arith, w.stacked)) ∙ (let q : r.draft.entries ≡ n + suc (size a) - 1 = omega arith in q);
    })

grown_binary : (k : ℕ) (a b : Term) (m r s : Made) → Grown a m r → Grown b r s → Sound m → Sound s → m.draft.entries + size (Term.binary k a b) ≤ 64
    → Grown (Term.binary k a b) m (append (Item.binary k) s)
unfolding append size encode columns
grown_binary k a b m r s u u' w v h =
    let d = m.draft.depth in
    let n = m.draft.entries in
    let z : r.draft.entries ≡ n + size a = u.entries in
    let z' : s.draft.entries ≡ n + size a + size b = omega (arith, u'.entries) in
    let y : r.draft.depth ≡ d + 1 = u.depth in
    let y₁ : s.draft.depth - 1 ≡ r.draft.depth = omega (arith, u'.depth) in
    let y₂ : s.draft.depth - 2 ≡ d = omega (arith, u'.depth) in
    let f : s.draft.entries < 64 = omega arith in
    let x = n + size a - 1 in
    let x' = n + size a + size b - 1 in
    let p = take-take d r.draft.depth s.operands (omega arith) in
    let p' = take-take d r.draft.depth r.operands (omega arith) in
    let lower : get_or s.operands d 0 ≡ x =
    sym (get_or-take r.draft.depth s.operands d 0 (omega arith)) ∙ ap (λ (l : List ℕ). get_or l d 0) u'.below
    ∙ get_or-take r.draft.depth r.operands d 0 (omega arith) ∙ u.top in
    let o : operand 0 s ≡ x' = ap (λ (i : ℕ). get_or s.operands i 0) y₁ ∙ u'.top ∙ ap (λ (i : ℕ). i + size b - 1) z in
    let o' : operand 1 s ≡ x = ap (λ (i : ℕ). get_or s.operands i 0) y₂ ∙ lower in
    let e : append (Item.binary k) s ≡ entered k x x' 0 d s =
    rw (lt-ltb s.draft.entries 64 f)
    (ap (λ (i : ℕ). entered k (operand 1 s) (operand 0 s) 0 i s) y₂ ∙ ap₂ (λ (l q : ℕ). entered k l q 0 d s) o' o) in
    subst (Grown (Term.binary k a b) m) (sym e) (record {
      entries = omega arith;
      depth = refl;
      needs = omega (arith, u.needs, u'.needs);
      table = ap (λ (i : ℕ). take (4 * i) (put (4 * s.draft.entries) (entry4 k x x' 0) s.table)) (let q : n + suc (size a + size b) ≡ s.draft.entries + 1 = omega arith in q)
          ∙ new_table s v f k x x' 0 d
          ∙ ap (λ (i : ℕ). take (4 * i) s.table ++ entry4 k x x' 0) u'.entries
          ∙ ap (λ (l : List ℕ). l ++ entry4 k x x' 0) (u'.table ∙ ap (λ (i : ℕ). take (4 * i) r.table ++ encode i b) z ∙ ap (λ (l : List ℕ). l ++ encode (n + size a) b) u.table)
          ∙ append_assoc (take (4 * n) m.table ++ encode n a) (encode (n + size a) b) (entry4 k x x' 0)
          ∙ append_assoc (take (4 * n) m.table) (encode n a) (encode (n + size a) b ++ entry4 k x x' 0);
      below = take-set-le d s.operands d s.draft.entries (omega arith) ∙ sym p ∙ ap (take d) u'.below ∙ p' ∙ u.below;
      top = new_top s v f k x x' 0 d (omega (arith, w.stacked)) ∙ (let q : s.draft.entries ≡ n + suc (size a + size b) - 1 = omega arith in q);
    })

pub grown : (t : Term) (m : Made) → Sound m → m.draft.entries + size t ≤ 64 → Grown t m (append_all (postfix t) m)
unfolding postfix size append_all
grown (Term.leaf k l g) m w h = grown_leaf k l g m w (omega arith)
grown (Term.unary k a) m w h =
    subst (Grown (Term.unary k a) m) (sym (append_all_append (postfix a) (Item.unary k ∷ []) m))
    (grown_unary k a m (append_all (postfix a) m) (grown a m w (omega arith)) w (append_all_sound (postfix a) m w) h)
grown (Term.binary k a b) m w h =
    let r = append_all (postfix a) m in
    let s = append_all (postfix b) r in
    let v = append_all_sound (postfix a) m w in
    let u = grown a m w (omega arith) in
    subst (Grown (Term.binary k a b) m)
    (sym (append_all_append (postfix a) (postfix b ++ (Item.binary k ∷ [])) m ∙ append_all_append (postfix b) (Item.binary k ∷ []) r))
    (grown_binary k a b m r s u (grown b r v (omega (arith, u.entries))) w (append_all_sound (postfix b) r v) h)

-- from nothing on

module _ (table operands : List ℕ) (room : length table ≡ 256) (places : length operands ≡ 64) where
  pub blank_sound : Sound (made blank table operands)
  blank_sound = record { room = room; places = places; stacked = omega arith; counted = omega arith }

  -- for the reader: a term's items give its table, and the number of variables that it needs
  pub built : (t : Term) → size t ≤ 64
      → let m = append_all (postfix t) (made blank table operands) in
      (m.draft.entries ≡ size t) × (m.draft.columns ≡ columns t) × (take (4 * size t) m.table ≡ encode 0 t)
  built t h =
      let z : 0 + size t ≡ size t = omega arith in
      let u = grown t (made blank table operands) blank_sound (omega arith) in
      let c = u.needs in
      (u.entries ∙ z, omega arith, ap (λ (i : ℕ). take (4 * i) (append_all (postfix t) (made blank table operands)).table) (sym z) ∙ u.table)

-- more than 64 entries are counted as 65

module _ (e : ℕ) (a b : Made) (p : a.draft.entries ≡ e + 1) (q : b.draft.entries ≡ 65) (h : e ≤ 65) where
  one_entry : (cond (ltb e 64) a b).draft.entries ≡ min 65 (e + 1)
  one_entry = go (seen (ltb e 64))
    where
      go : Seen (ltb e 64) → (cond (ltb e 64) a b).draft.entries ≡ min 65 (e + 1)
      go (yes! t) = let l = ltb-true e 64 t in rw t (omega arith)
      go (no! t) = let l = ltb-false e 64 t in rw t (omega arith)

append_entries : (i : Item) (m : Made) → Sound m → (append i m).draft.entries ≡ min 65 (m.draft.entries + 1)
unfolding append
append_entries (Item.leaf k l g) m w = one_entry m.draft.entries _ _ refl refl w.counted
append_entries (Item.unary k) m w = one_entry m.draft.entries _ _ refl refl w.counted
append_entries (Item.binary k) m w = one_entry m.draft.entries _ _ refl refl w.counted

append_all_entries : (is : List Item) (m : Made) → Sound m → (append_all is m).draft.entries ≡ min 65 (m.draft.entries + length is)
unfolding append_all
append_all_entries [] m w = omega (arith, w.counted)
append_all_entries (i ∷ is) m w =
    omega (arith, w.counted, append_entries i m w, append_all_entries is (append i m) (append_sound i m w))

length_postfix : (t : Term) → length (postfix t) ≡ size t
unfolding postfix size
length_postfix (Term.leaf k l g) = refl
length_postfix (Term.unary k a) = omega (arith, length_postfix a, length-append (postfix a) (Item.unary k ∷ []))
length_postfix (Term.binary k a b) =
    omega (arith, length_postfix a, length_postfix b, length-append (postfix a) (postfix b ++ (Item.binary k ∷ [])), length-append (postfix b) (Item.binary k ∷ []))

-- for the reader: a table that would have more entries is known by their count
pub too_many : (t : Term) (m : Made) → Sound m → 64 < m.draft.entries + size t → (append_all (postfix t) m).draft.entries ≡ 65
too_many t m w h = omega (arith, append_all_entries (postfix t) m w, length_postfix t)

module _ (table operands : List ℕ) (room : length table ≡ 256) (places : length operands ≡ 64) (t : Term) where
  -- for the reader: from nothing on, a term comes to its size in entries, more than 64 counted as 65
  pub entries_counted : (append_all (postfix t) (made blank table operands)).draft.entries ≡ counted (size t)
  entries_counted = go (seen (ltb 64 (size t)))
    where
      go : Seen (ltb 64 (size t)) → (append_all (postfix t) (made blank table operands)).draft.entries ≡ counted (size t)
      go (yes! h) =
          let l = ltb-true 64 (size t) h in
          rw h (too_many t (made blank table operands) (blank_sound table operands room places) (omega arith))
      go (no! h) = rw h (built table operands room places t (ltb-false 64 (size t) h)).0
