-- Laws of the passes over the rows of a table. What stands in the rows after some turns is a relation; each turn writes a row.
use Prim.Native.Nat.{ℕ, suc, ◌+◌, ◌≤◌, ◌<◌, min}
use native.Mathlib.Numerals.{add-one}
use native.Mathlib.Omega.{arith}
use mathlib.Core.Path.{◌≡◌, refl, sym, ap, ap₂, ◌∙◌}
use mathlib.Core.Bool.{Bool, true, false, not, ◌&&◌, ◌||◌, cond, and_comm, and-false, or-false, or_self, and-or_distrib_left}
use mathlib.Core.List.{List}
use lib.Dec.{ltb, eqb}
use borrow.Author.Tests.{ltb-true, ltb-false, lt-ltb, le-ltb, eq-eqb, ne_eqb}
use Rattle.model.specs.Sets.{any, turn}
use Rattle.model.specs.Tree.{Tree}
use Rattle.model.specs.Axes.{matches, passes}
use Rattle.model.proofs.Booleans.{Seen, yes!, no!, seen, bool_ext, not_yes}
use Rattle.model.proofs.Exists.{any_cong, any_never, any_or, any_one}
use Rattle.model.proofs.Axes.{eqb_comm}
use Rattle.sets.specs.NodeSets.{always}
use Rattle.steps.specs.Moves.{hop, plus, star}
use Rattle.steps.proofs.Closure.{hop_falls, hop_is}
use Rattle.steps.proofs.Loops.{reach, hop_at, plus_at, sending, part, part_all, part_more}
use Rattle.bits.specs.BitTables.{bit_relation}
use Rattle.bits.specs.Rows.{Becomes, RowBecomes, starting_in, kept_row}
use Rattle.bits.proofs.Rows.{row_other}
use Rattle.moves.specs.Columns.{Moved}
use Rattle.moves.specs.Rows.{joined_rows, lower}
use Rattle.moves.proofs.Columns.{moved_of}

-- nothing is written yet
becomes_start : (n : ℕ) (R : ℕ → ℕ → Bool) (w : List ℕ) → ((x y : ℕ) → x < n → y < 256 → bit_relation w x y ≡ R x y) → Becomes n R w w
becomes_start n R w f = record { size = refl; bits = f; rest = λ i h. refl }

-- what stands in the rows, in other words
becomes_as : (n : ℕ) (R Q : ℕ → ℕ → Bool) (w o : List ℕ) → Becomes n R w o → ((x y : ℕ) → x < n → y < 256 → R x y ≡ Q x y) → Becomes n Q w o
becomes_as n R Q w o b f = record { size = b.size; bits = λ x y h k. b.bits x y h k ∙ f x y h k; rest = b.rest }

-- a row is written
becomes_row : (n x : ℕ) (R Q : ℕ → ℕ → Bool) (S : ℕ → Bool) (w l o : List ℕ) → Becomes n R w l → RowBecomes x S l o → x < n
    → ((k : ℕ) → k < 256 → S k ≡ Q x k) → ((z k : ℕ) → z < n → k < 256 → (z ≡ x → ⊥) → R z k ≡ Q z k) → Becomes n Q w o
becomes_row n x R Q S w l o b r h f g = record {
  size = r.size ∙ b.size;
  bits = λ z k m j. at z k m j (native.Mathlib.Decide.ℕ_discrete z x);
  rest = λ i m. r.behind i (omega arith) ∙ b.rest i m;
}
  where
    at : (z k : ℕ) → z < n → k < 256 → Dec (z ≡ x) → bit_relation o z k ≡ Q z k
    at z k m j (yes e) = ap (λ (q : ℕ). bit_relation o q k) e ∙ r.bits k j ∙ f k j ∙ ap (λ (q : ℕ). Q q k) (sym e)
    at z k m j (no d) = row_other z x S l o r d k j ∙ b.bits z k m j ∙ g z k m j d

-- a number is below i exactly if it is at most i, where it is not i
below_other : (z i : ℕ) → (z ≡ i → ⊥) → ltb z i ≡ ltb z (suc i)
below_other z i d = bool_ext (ltb z i) (ltb z (suc i))
    (λ p. lt-ltb z (suc i) (let q : z < i = ltb-true z i p in omega arith)) (λ p. lt-ltb z i (let q : z < suc i = ltb-true z (suc i) p in omega arith))

-- the rows below i are F's, the others G's

unfoldable pub mixed : ℕ → (ℕ → ℕ → Bool) → (ℕ → ℕ → Bool) → ℕ → ℕ → Bool
mixed i F G x k = cond (ltb x i) (F x k) (G x k)

module _ (F G : ℕ → ℕ → Bool) where
  mixed_low : (i x k : ℕ) → x < i → mixed i F G x k ≡ F x k
  unfolding mixed
  mixed_low i x k l = rw (lt-ltb x i l)

  mixed_high : (i x k : ℕ) → i ≤ x → mixed i F G x k ≡ G x k
  unfolding mixed
  mixed_high i x k l = rw (le-ltb x i l)

  mixed_other : (i z k : ℕ) → (z ≡ i → ⊥) → mixed i F G z k ≡ mixed (suc i) F G z k
  unfolding mixed
  mixed_other i z k d = ap (λ (b : Bool). cond b (F z k) (G z k)) (below_other z i d)

-- a node's link, or itself

lower_linked : (L : ℕ → ℕ) (y : ℕ) → ltb (L y) y ≡ true → lower L y ≡ L y
unfolding lower
lower_linked L y e = rw e

lower_alone : (L : ℕ → ℕ) (y : ℕ) → ltb (L y) y ≡ false → lower L y ≡ y
unfolding lower
lower_alone L y e = rw e

-- the same as the lesser of two numbers
pub link_min : (L : ℕ → ℕ) (y p r : ℕ) → p ≡ L y → r ≡ min p y → r ≡ lower L y
link_min L y p r e q = go (seen (ltb (L y) y))
  where
    go : Seen (ltb (L y) y) → r ≡ lower L y
    go (yes! h) = (let l : L y < y = ltb-true (L y) y h in let f : r ≡ L y = omega arith in f) ∙ sym (lower_linked L y h)
    go (no! h) = (let l : y ≤ L y = ltb-false (L y) y h in let f : r ≡ y = omega arith in f) ∙ sym (lower_alone L y h)

pub lower_least : (L : ℕ → ℕ) (y p : ℕ) → p ≡ lower L y → p ≤ y
lower_least L y p e = go (seen (ltb (L y) y))
  where
    go : Seen (ltb (L y) y) → p ≤ y
    go (yes! q) = let a : lower L y ≡ L y = lower_linked L y q in let b : L y < y = ltb-true (L y) y q in omega arith
    go (no! q) = let a : lower L y ≡ y = lower_alone L y q in omega arith

-- no hop, or one or more

star_reach : (n : ℕ) (S : ℕ → Bool) (P Q : ℕ → ℕ → Bool) (x : ℕ) → x < n → ((z : ℕ) → Q z x ≡ (eqb z x || P z x)) → (S x || reach n P S x) ≡ reach n Q S x
unfolding reach
star_reach n S P Q x l q = sym
    (any_cong n _ _ (λ z h. ap (λ (b : Bool). S z && b) (q z) ∙ and-or_distrib_left (S z) (eqb z x) (P z x)) ∙ sym (any_or n (λ z. S z && eqb z x) (λ z. S z && P z x))
    ∙ ap (λ (b : Bool). b || any n (λ z. S z && P z x)) (any_cong n _ _ (λ z h. and_comm (S z) (eqb z x)) ∙ any_one n x S l))

module _ (L : ℕ → ℕ) (n : ℕ) (w : List ℕ) where
  abbrev B : ℕ → ℕ → Bool
  B = bit_relation w

  -- one hop away: the rows from i on are done

  unfoldable pub hopped : ℕ → ℕ → Bool
  hopped x k = reach n (hop L) (λ z. B z k) x

  pub hop_away_start : Becomes n (mixed n B hopped) w w
  hop_away_start = becomes_start n (mixed n B hopped) w (λ x k h m. sym (mixed_low B hopped n x k h))

  pub hop_away_more : (l o : List ℕ) (i y p : ℕ) → Becomes n (mixed i B hopped) w l → RowBecomes y (kept_row (ltb p y) (bit_relation l) p) l o → p ≡ lower L y → i ≡ suc y → y < n
      → Becomes n (mixed y B hopped) w o
  unfolding hopped
  hop_away_more l o i y p b r e s h = becomes_row n y (mixed i B hopped) (mixed y B hopped) _ w l o b r h
      (λ k m. row k m (seen (ltb (L y) y)))
      (λ z k m j d. ap (λ (q : ℕ). mixed q B hopped z k) s ∙ sym (mixed_other B hopped y z k d))
    where
      done : (k : ℕ) → mixed y B hopped y k ≡ (ltb (L y) y && B (L y) k)
      done k = mixed_high B hopped y y k (omega arith) ∙ hop_at L n (λ z. B z k) y h

      row : (k : ℕ) → k < 256 → Seen (ltb (L y) y) → (ltb p y && bit_relation l p k) ≡ mixed y B hopped y k
      row k m (yes! q) =
          let f : L y < y = ltb-true (L y) y q in
          let g : p ≡ L y = e ∙ lower_linked L y q in
          ap₂ (λ (u v : Bool). u && v) (ap (λ (u : ℕ). ltb u y) g ∙ q) (ap (λ (u : ℕ). bit_relation l u k) g ∙ b.bits (L y) k (omega arith) m ∙ mixed_low B hopped i (L y) k (omega arith))
          ∙ sym (done k ∙ rw q)
      row k m (no! q) =
          let g : p ≡ y = e ∙ lower_alone L y q in
          ap (λ (u : Bool). u && bit_relation l p k) (le-ltb p y (omega arith)) ∙ sym (done k ∙ rw q)

  pub hop_away_done : (l : List ℕ) (i : ℕ) → Becomes n (mixed i B hopped) w l → i ≤ 0 → n ≤ 256 → Moved n (hop L) w l
  unfolding hopped
  hop_away_done l i b a le = moved_of n le (hop L) (mixed i B hopped) w l b (λ x k h m. mixed_high B hopped i x k (omega arith))

  -- any number of hops away: the rows below y are done

  unfoldable pub starred : ℕ → ℕ → Bool
  starred x k = B x k || reach n (plus L) (λ z. B z k) x

  pub star_away_start : Becomes n (mixed 0 starred B) w w
  star_away_start = becomes_start n (mixed 0 starred B) w (λ x k h m. sym (mixed_high starred B 0 x k (omega arith)))

  pub star_away_more : (l o : List ℕ) (y p : ℕ) → Becomes n (mixed y starred B) w l → RowBecomes y (joined_rows (bit_relation l) y p) l o → p ≡ lower L y → y < n
      → Becomes n (mixed (y + 1) starred B) w o
  unfolding starred
  star_away_more l o y p b r e h = becomes_row n y (mixed y starred B) (mixed (y + 1) starred B) _ w l o b r h
      (λ k m. row k m (seen (ltb (L y) y)))
      (λ z k m j d. mixed_other starred B y z k d ∙ ap (λ (q : ℕ). mixed q starred B z k) (sym (add-one y)))
    where
      done : (k : ℕ) → mixed (y + 1) starred B y k ≡ (B y k || (ltb (L y) y && (B (L y) k || reach n (plus L) (λ z. B z k) (L y))))
      done k = mixed_low starred B (y + 1) y k (omega arith) ∙ ap (λ (u : Bool). B y k || u) (plus_at L n (λ z. B z k) y h)

      own : (k : ℕ) → k < 256 → bit_relation l y k ≡ B y k
      own k m = b.bits y k h m ∙ mixed_high starred B y y k (omega arith)

      row : (k : ℕ) → k < 256 → Seen (ltb (L y) y) → (bit_relation l y k || bit_relation l p k) ≡ mixed (y + 1) starred B y k
      row k m (yes! q) =
          let f : L y < y = ltb-true (L y) y q in
          let g : p ≡ L y = e ∙ lower_linked L y q in
          ap₂ (λ (u v : Bool). u || v) (own k m) (ap (λ (u : ℕ). bit_relation l u k) g ∙ b.bits (L y) k (omega arith) m ∙ mixed_low starred B y (L y) k (omega arith))
          ∙ sym (done k ∙ rw q)
      row k m (no! q) =
          let g : p ≡ y = e ∙ lower_alone L y q in
          ap₂ (λ (u v : Bool). u || v) (own k m) (ap (λ (u : ℕ). bit_relation l u k) g ∙ own k m)
          ∙ or_self (B y k) ∙ sym (done k ∙ rw q (or-false (B y k)))

  pub star_away_done : (l : List ℕ) (y : ℕ) → Becomes n (mixed y starred B) w l → y ≤ n → n ≤ y → n ≤ 256 → Moved n (star L) w l
  unfolding starred star
  star_away_done l y b a c le = moved_of n le (star L) (mixed y starred B) w l b
      (λ x k h m. mixed_low starred B y x k (omega arith) ∙ star_reach n (λ z. B z k) (plus L) (star L) x h (λ z. refl))

  -- a row is handed to its link's
  handed : (l o : List ℕ) (R Q : ℕ → ℕ → Bool) (y p : ℕ) → Becomes n R w l → RowBecomes p (joined_rows (bit_relation l) p y) l o → p ≡ lower L y → y < n
      → ((x k : ℕ) → x < n → k < 256 → Q x k ≡ (R x k || (hop L x y && R y k))) → Becomes n Q w o
  unfolding hop
  handed l o R Q y p b r e h f = becomes_row n p R Q _ w l o b r inside
      (λ k m. row k m (seen (ltb (L y) y)))
      (λ z k m j d. sym (f z k m j ∙ other z k d (seen (ltb (L y) y))))
    where
      inside : p < n
      inside = let g : p ≤ y = lower_least L y p e in omega arith

      row : (k : ℕ) → k < 256 → Seen (ltb (L y) y) → (bit_relation l p k || bit_relation l y k) ≡ Q p k
      row k m (yes! q) =
          let g : p ≡ L y = e ∙ lower_linked L y q in
          ap₂ (λ (u v : Bool). u || v) (b.bits p k inside m) (b.bits y k h m)
          ∙ sym (f p k inside m ∙ rw (q, eq-eqb (L y) p (sym g)))
      row k m (no! q) =
          let g : p ≡ y = e ∙ lower_alone L y q in
          ap₂ (λ (u v : Bool). u || v) (b.bits p k inside m) (b.bits y k h m ∙ ap (λ (u : ℕ). R u k) (sym g)) ∙ or_self (R p k)
          ∙ sym (f p k inside m ∙ rw q (or-false (R p k)))

      other : (z k : ℕ) → (z ≡ p → ⊥) → Seen (ltb (L y) y) → (R z k || ((ltb (L y) y && eqb (L y) z) && R y k)) ≡ R z k
      other z k d (yes! q) = let g : p ≡ L y = e ∙ lower_linked L y q in rw (q, ne_eqb (L y) z (λ c. d (sym (g ∙ c)))) (or-false (R z k))
      other z k d (no! q) = rw q (or-false (R z k))

  -- one hop back: the rows below y are handed on and cleared

  unfoldable pub backed : ℕ → ℕ → ℕ → Bool
  backed y x k = (not (ltb x y) && B x k) || reach y (turn true (hop L)) (λ z. B z k) x

  pub hop_back_start : Becomes n (backed 0) w w
  unfolding backed reach any
  hop_back_start = becomes_start n (backed 0) w (λ x k h m. sym (rw (le-ltb x 0 (omega arith)) (or-false (B x k))))

  -- no number up to x has the link x
  no_hop : (x c : ℕ) → c ≤ x → hop L x c ≡ false
  no_hop x c l = not_yes (hop L x c) (λ q. let f : L c < c = hop_falls L x c q in let g : L c ≡ x = hop_is L x c q in omega arith)

  none_before : (S : ℕ → Bool) (x j : ℕ) → j ≤ suc x → reach j (turn true (hop L)) S x ≡ false
  unfolding reach
  none_before S x j l = any_never j (λ c. S c && hop L x c) (λ c h. ap (λ (b : Bool). S c && b) (no_hop x c (omega arith)) ∙ and-false (S c))

  pub hop_back_more : (l m o : List ℕ) (y p : ℕ) → Becomes n (backed y) w l → RowBecomes p (joined_rows (bit_relation l) p y) l m → RowBecomes y (always false) m o
      → p ≡ lower L y → y < n → Becomes n (backed (y + 1)) w o
  unfolding backed reach any
  hop_back_more l m o y p b r c e h = becomes_row n y (λ x k. backed y x k || (hop L x y && backed y y k)) (backed (y + 1)) (always false) w m o
      (handed l m (backed y) (λ x k. backed y x k || (hop L x y && backed y y k)) y p b r e h (λ x k lx lk. refl)) c h
      (λ k lk. sym (cleared k)) (λ z k lz lk d. other z k d)
    where
      cleared : (k : ℕ) → backed (y + 1) y k ≡ false
      cleared k = ap₂ (λ (u v : Bool). (not u && B y k) || v) (lt-ltb y (y + 1) (omega arith)) (none_before (λ z. B z k) y (y + 1) (omega arith))

      own : (k : ℕ) → backed y y k ≡ B y k
      own k = ap₂ (λ (u v : Bool). (not u && B y k) || v) (le-ltb y y (omega arith)) (none_before (λ z. B z k) y y (omega arith)) ∙ or-false (B y k)

      shuffle : (a r h s : Bool) → ((a || r) || (h && s)) ≡ (a || ((s && h) || r))
      shuffle true r h s = refl
      shuffle false true true true = refl
      shuffle false true true false = refl
      shuffle false true false true = refl
      shuffle false true false false = refl
      shuffle false false h s = and_comm h s ∙ sym (or-false (s && h))

      other : (z k : ℕ) → (z ≡ y → ⊥) → (backed y z k || (hop L z y && backed y y k)) ≡ backed (y + 1) z k
      other z k d =
          ap (λ (u : Bool). backed y z k || (hop L z y && u)) (own k)
          ∙ shuffle (not (ltb z y) && B z k) (reach y (turn true (hop L)) (λ z. B z k) z) (hop L z y) (B y k)
          ∙ ap (λ (u : Bool). (not u && B z k) || ((B y k && hop L z y) || reach y (turn true (hop L)) (λ z. B z k) z)) (below_other z y d)
          ∙ ap (λ (q : ℕ). backed q z k) (sym (add-one y))

  pub hop_back_done : (l : List ℕ) (y : ℕ) → Becomes n (backed y) w l → y ≤ n → n ≤ y → n ≤ 256 → Moved n (turn true (hop L)) w l
  unfolding backed
  hop_back_done l y b a c le = moved_of n le (turn true (hop L)) (backed y) w l b
      (λ x k h m. ap (λ (q : ℕ). backed q x k) (let e : y ≡ n = omega arith in e) ∙ rw (lt-ltb x n h))

  -- any number of hops back: the rows from i on are handed on

  unfoldable pub gathering : ℕ → ℕ → ℕ → Bool
  gathering i x k = B x k || part L n (λ z. B z k) true i x

  pub star_back_start : Becomes n (gathering n) w w
  unfolding gathering part
  star_back_start = becomes_start n (gathering n) w (λ x k h m. sym
      (ap (λ (u : Bool). B x k || u) (any_never n _ (λ z l. rw (lt-ltb z n l))) ∙ or-false (B x k)))

  pub star_back_more : (l o : List ℕ) (i y p : ℕ) → Becomes n (gathering i) w l → RowBecomes p (joined_rows (bit_relation l) p y) l o → p ≡ lower L y → i ≡ suc y → y < n
      → Becomes n (gathering y) w o
  unfolding gathering sending
  star_back_more l o i y p b r e s h = handed l o (gathering i) (gathering y) y p b r e h (λ x k lx lk. next x k)
    where
      shuffle : (b s h p : Bool) → (b || ((s && h) || p)) ≡ ((b || p) || (h && s))
      shuffle true s h p = refl
      shuffle false true true true = refl
      shuffle false true true false = refl
      shuffle false true false p = sym (or-false p)
      shuffle false false h p = sym (ap (λ (u : Bool). p || u) (and-false h) ∙ or-false p)

      final : (k : ℕ) → gathering (suc y) y k ≡ sending L n (λ z. B z k) true y
      final k = ap (λ (u : Bool). B y k || u) (part_all L n (λ z. B z k) true (suc y) y (omega arith))

      next : (x k : ℕ) → gathering y x k ≡ (gathering i x k || (hop L x y && gathering i y k))
      next x k =
          ap (λ (u : Bool). B x k || u) (part_more L n (λ z. B z k) true y x h)
          ∙ shuffle (B x k) (sending L n (λ z. B z k) true y) (hop L x y) (part L n (λ z. B z k) true (suc y) x)
          ∙ ap (λ (u : Bool). gathering (suc y) x k || (hop L x y && u)) (sym (final k))
          ∙ ap (λ (q : ℕ). gathering q x k || (hop L x y && gathering q y k)) (sym s)

  pub star_back_done : (l : List ℕ) (i : ℕ) → Becomes n (gathering i) w l → i ≤ 0 → n ≤ 256 → Moved n (turn true (star L)) w l
  unfolding gathering star
  star_back_done l i b a le = moved_of n le (turn true (star L)) (gathering i) w l b
      (λ x k h m. ap (λ (u : Bool). B x k || u) (part_all L n (λ z. B z k) true i x (omega arith))
      ∙ star_reach n (λ z. B z k) (turn true (plus L)) (turn true (star L)) x h (λ z. ap (λ (u : Bool). u || plus L x z) (eqb_comm x z)))

-- rows are kept by the name tests of their nodes

module _ (t : Tree) (name n : ℕ) (w : List ℕ) where
  abbrev named : ℕ → ℕ → Bool
  named = starting_in (passes t name) (bit_relation w)

  pub keep_start : Becomes n (mixed 0 named (bit_relation w)) w w
  keep_start = becomes_start n (mixed 0 named (bit_relation w)) w (λ x k h m. sym (mixed_high named (bit_relation w) 0 x k (omega arith)))

  pub keep_more : (l o : List ℕ) (y g : ℕ) (v : Bool) → Becomes n (mixed y named (bit_relation w)) w l → RowBecomes y (kept_row v (bit_relation l) y) l o → v ≡ matches name g → g ≡ t.tag y → y < n
      → Becomes n (mixed (y + 1) named (bit_relation w)) w o
  unfolding passes
  keep_more l o y g v b r e f h = becomes_row n y (mixed y named (bit_relation w)) (mixed (y + 1) named (bit_relation w)) _ w l o b r h
      (λ k m. ap₂ (λ (c d : Bool). c && d) (e ∙ ap (matches name) f) (b.bits y k h m ∙ mixed_high named (bit_relation w) y y k (omega arith)) ∙ sym (mixed_low named (bit_relation w) (y + 1) y k (omega arith)))
      (λ z k m j d. mixed_other named (bit_relation w) y z k d ∙ ap (λ (q : ℕ). mixed q named (bit_relation w) z k) (sym (add-one y)))

  pub keep_done : (l : List ℕ) (y : ℕ) → Becomes n (mixed y named (bit_relation w)) w l → y ≤ n → n ≤ y → Becomes n named w l
  keep_done l y b a c = becomes_as n (mixed y named (bit_relation w)) named w l b (λ x k h m. mixed_low named (bit_relation w) y x k (omega arith))
