-- Laws for the code: stores, and items appended by them.
use Prim.Native.Nat.{ℕ, suc, ◌+◌, ◌-◌, ◌*◌, ◌≤◌, ◌<◌, max}
use native.Mathlib.Omega.{arith}
use mathlib.Core.Path.{◌≡◌, sym, ap, ◌∙◌, subst}
use mathlib.Core.Bool.{cond}
use mathlib.Core.List.{List, [], ◌∷◌, append_assoc}
use lib.ListN.{length, get_or, set, take, drop, length-set}
use lib.Seq.{sets-eq, length-sets}
use lib.Dec.{ltb}
use borrow.Author.Tests.{ltb-true, lt-ltb, le-ltb}
use Rattle.model.specs.Kinds.{names_variable}
use Rattle.model.proofs.Booleans.{Seen, yes!, no!, seen}
use Rattle.model.specs.Encoding.{entry4}
use Rattle.entries.specs.declared.Draft.{Draft}
use Rattle.entries.specs.Postfix.{Item, Made, put, entered, full, past, operand, needing, append, append_all, made, Sound, Wrote}

-- four stores, one behind the other
pub put_stores : (t : List ℕ) (i k l r g : ℕ) → i + 4 ≤ length t → set (set (set (set t i k) (i + 1) l) (i + 2) r) (i + 3) g ≡ put i (entry4 k l r g) t
put_stores t i k l r g h =
    let a : i + 1 ≡ suc i = omega arith in
    let b : i + 2 ≡ suc (suc i) = omega arith in
    let c : i + 3 ≡ suc (suc (suc i)) = omega arith in
    rw (a, b, c) (sets-eq (entry4 k l r g) t i h ∙ append_assoc (take i t) (entry4 k l r g) (drop (i + 4) t))

pub length_put : (t : List ℕ) (i : ℕ) (new : List ℕ) → i + length new ≤ length t → length (put i new t) ≡ length t
length_put t i new h = ap length (sym (append_assoc (take i t) new (drop (i + length new) t)) ∙ sym (sets-eq new t i h)) ∙ length-sets t i new

-- an item more keeps the table sound
entered_sound : (k l r g d : ℕ) (m : Made) → Sound m → m.draft.entries < 64 → d ≤ m.draft.entries → Sound (entered k l r g d m)
entered_sound k l r g d m w h p = record {
  room = length_put m.table (4 * m.draft.entries) (entry4 k l r g) (omega (arith, w.room)) ∙ w.room;
  places = length-set m.operands d m.draft.entries ∙ w.places;
  stacked = omega arith;
  counted = omega arith;
}

full_sound : (m : Made) → Sound m → Sound (full m)
full_sound m w = record { room = w.room; places = w.places; stacked = omega (arith, w.stacked, w.counted); counted = omega arith }

either : (m a b : Made) → (m.draft.entries < 64 → Sound a) → Sound b → Sound (cond (ltb m.draft.entries 64) a b)
either m a b f g = go (seen (ltb m.draft.entries 64))
  where
    go : Seen (ltb m.draft.entries 64) → Sound (cond (ltb m.draft.entries 64) a b)
    go (yes! t) = rw t (f (ltb-true m.draft.entries 64 t))
    go (no! t) = rw t g

pub append_sound : (i : Item) (m : Made) → Sound m → Sound (append i m)
unfolding append
append_sound (Item.leaf k l g) m w =
    let n = needing k l m in
    let v : Sound n = record { room = w.room; places = w.places; stacked = w.stacked; counted = w.counted } in
    either m _ _ (λ h. entered_sound k l 0 g m.draft.depth n v h w.stacked) (full_sound n v)
append_sound (Item.unary k) m w =
    either m _ _ (λ h. entered_sound k (operand 0 m) 0 0 (m.draft.depth - 1) m w h (omega (arith, w.stacked))) (full_sound m w)
append_sound (Item.binary k) m w =
    either m _ _ (λ h. entered_sound k (operand 1 m) (operand 0 m) 0 (m.draft.depth - 2) m w h (omega (arith, w.stacked))) (full_sound m w)

pub wrote_one : (i : Item) (m n : Made) → n ≡ append i m → Sound m → Wrote (i ∷ []) m n
unfolding append_all
wrote_one i m n e w = record { whole = e; sound = subst Sound (sym e) (append_sound i m w) }

pub entered_is : (d : Draft) (t o : List ℕ) (k l r g at : ℕ) → 4 * d.entries + 4 ≤ length t
    → made (record { entries = d.entries + 1; depth = at + 1; columns = d.columns })
    (set (set (set (set t (4 * d.entries) k) (4 * d.entries + 1) l) (4 * d.entries + 2) r) (4 * d.entries + 3) g) (set o at d.entries)
    ≡ entered k l r g at (made d t o)
entered_is d t o k l r g at h =
    ap (λ (u : List ℕ). made (record { entries = d.entries + 1; depth = at + 1; columns = d.columns }) u (set o at d.entries)) (put_stores t (4 * d.entries) k l r g h)

-- the three kinds of items, where there is room for an entry more and where there is none
module _ (d : Draft) (t o : List ℕ) (s : Sound (made d t o)) where
  wrote_item : (i : Item) (n : Made) → n ≡ append i (made d t o) → Wrote (i ∷ []) (made d t o) n
  wrote_item i n e = wrote_one i (made d t o) n e s

  pub leaf_room : (k l g c : ℕ) (n : Made)
      → n ≡ entered k l 0 g d.depth (made (record { entries = d.entries; depth = d.depth; columns = c }) t o)
      → c ≡ max d.columns (cond (names_variable k) (suc l) 0) → d.entries < 64 → Wrote (Item.leaf k l g ∷ []) (made d t o) n
  unfolding append
  leaf_room k l g c n e p h =
      wrote_item (Item.leaf k l g) n
      (rw (lt-ltb d.entries 64 h) (e ∙ ap (λ (c : ℕ). entered k l 0 g d.depth (made (record { entries = d.entries; depth = d.depth; columns = c }) t o)) p))

  pub leaf_full : (k l g c : ℕ) → c ≡ max d.columns (cond (names_variable k) (suc l) 0) → 64 ≤ d.entries
      → Wrote (Item.leaf k l g ∷ []) (made d t o) (made (past (record { entries = d.entries; depth = d.depth; columns = c })) t o)
  unfolding append
  leaf_full k l g c p h =
      wrote_item (Item.leaf k l g) _
      (rw (le-ltb d.entries 64 h) (ap (λ (c : ℕ). made (past (record { entries = d.entries; depth = d.depth; columns = c })) t o) p))

  pub unary_room : (k at l : ℕ) (n : Made) → n ≡ entered k l 0 0 at (made d t o) → l ≡ get_or o at 0 → at ≡ d.depth - 1 → d.entries < 64
      → Wrote (Item.unary k ∷ []) (made d t o) n
  unfolding append
  unary_room k at l n e p q h =
      let p' : l ≡ get_or o (d.depth - 1) 0 = p ∙ ap (λ (i : ℕ). get_or o i 0) q in
      wrote_item (Item.unary k) n
      (rw (lt-ltb d.entries 64 h) (e ∙ ap (λ (i : ℕ). entered k l 0 0 i (made d t o)) q ∙ ap (λ (l : ℕ). entered k l 0 0 (d.depth - 1) (made d t o)) p'))

  pub binary_room : (k at top l r : ℕ) (n : Made) → n ≡ entered k l r 0 at (made d t o) → l ≡ get_or o at 0 → r ≡ get_or o top 0 → at ≡ d.depth - 2 → top ≡ d.depth - 1
      → d.entries < 64 → Wrote (Item.binary k ∷ []) (made d t o) n
  unfolding append
  binary_room k at top l r n e p p₁ q q₁ h =
      let p' : l ≡ get_or o (d.depth - 2) 0 = p ∙ ap (λ (i : ℕ). get_or o i 0) q in
      let r' : r ≡ get_or o (d.depth - 1) 0 = p₁ ∙ ap (λ (i : ℕ). get_or o i 0) q₁ in
      wrote_item (Item.binary k) n
      (rw (lt-ltb d.entries 64 h)
      (e
      ∙ ap (λ (i : ℕ). entered k l r 0 i (made d t o)) q
      ∙ ap (λ (l : ℕ). entered k l r 0 (d.depth - 2) (made d t o)) p'
      ∙ ap (λ (r : ℕ). entered k (get_or o (d.depth - 2) 0) r 0 (d.depth - 2) (made d t o)) r'))

  pub unary_full : (k : ℕ) → 64 ≤ d.entries → Wrote (Item.unary k ∷ []) (made d t o) (made (past d) t o)
  unfolding append
  unary_full k h = wrote_item (Item.unary k) _ (rw (le-ltb d.entries 64 h))

  pub binary_full : (k : ℕ) → 64 ≤ d.entries → Wrote (Item.binary k ∷ []) (made d t o) (made (past d) t o)
  unfolding append
  binary_full k h = wrote_item (Item.binary k) _ (rw (le-ltb d.entries 64 h))
