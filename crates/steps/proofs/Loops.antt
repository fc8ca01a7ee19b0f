-- Laws of the two loops that move a set along a link, by one hop or, where closed is set, by one or more.
use Prim.Native.Nat.{ℕ, suc, ◌+◌, ◌-◌, ◌≤◌, ◌<◌}
use native.Mathlib.Nat.{eq-or-lt_of_le}
use native.Mathlib.Omega.{arith}
use mathlib.Core.Path.{◌≡◌, refl, sym, ap, ◌∙◌}
use mathlib.Core.Logic.{⊎_elim}
use mathlib.Core.Bool.{Bool, true, false, not, ◌&&◌, ◌||◌, and-false, or-false}
use mathlib.Core.List.{List}
use lib.ListN.{set, replicate}
use lib.Dec.{ltb, eqb}
use borrow.Author.Tests.{ltb-true, ltb-false, lt-ltb, le-ltb, eq-eqb, ne_eqb, not-true}
use Rattle.model.specs.Sets.{any, bit, tab, memb, upto, turn, image}
use Rattle.model.proofs.Booleans.{no_yes, bool_ext, both_yes, yes_left, yes_right, or_left, or_right, or_cases}
use Rattle.model.proofs.Exists.{any_intro, any_elim}
use Rattle.model.proofs.Bytes.{tab_cong, memb_tab, fill_store, fill_none, tab_none, tab_set, tab_below}
use Rattle.steps.specs.Moves.{hop, plus, along}
use Rattle.steps.proofs.Closure.{hop_of, hop_falls, hop_is, plus_falls, plus_cases, plus_one, plus_more, along_one, along_more, along_split}

-- what the nodes below n that are in S reach
unfoldable pub reach : ℕ → (ℕ → ℕ → Bool) → (ℕ → Bool) → ℕ → Bool
reach n R S y = any n (λ x. S x && R x y)

reach_in_lem : (n : ℕ) (R : ℕ → ℕ → Bool) (S : ℕ → Bool) (x y : ℕ) → x < n → S x ≡ true → R x y ≡ true → reach n R S y ≡ true
unfolding reach
reach_in_lem n R S x y l s r = any_intro n (λ x. S x && R x y) x l (both_yes s r)

reach_out : (n : ℕ) (R : ℕ → ℕ → Bool) (S : ℕ → Bool) (y : ℕ) → reach n R S y ≡ true → (x : ℕ) × (x < n) × (S x ≡ true) × (R x y ≡ true)
unfolding reach
reach_out n R S y p =
    let (x, l, q) = any_elim n (λ x. S x && R x y) p in
    (x, l, yes_left (S x) (R x y) q, yes_right (S x) (R x y) q)

-- gather: each node's byte comes from its link

module _ (L : ℕ → ℕ) (n : ℕ) (S : ℕ → Bool) where
  pub hop_at : (y : ℕ) → y < n → reach n (hop L) S y ≡ (ltb (L y) y && S (L y))
  hop_at y l = bool_ext (reach n (hop L) S y) (ltb (L y) y && S (L y))
      (λ p. let (x, h, s, r) = reach_out n (hop L) S y p in both_yes (lt-ltb (L y) y (hop_falls L x y r)) (ap S (hop_is L x y r) ∙ s))
      (λ p. let f : L y < y = ltb-true (L y) y (yes_left (ltb (L y) y) (S (L y)) p) in
      reach_in_lem n (hop L) S (L y) y (omega arith) (yes_right (ltb (L y) y) (S (L y)) p) (hop_of L (L y) y f refl))

  pub plus_at : (y : ℕ) → y < n → reach n (plus L) S y ≡ (ltb (L y) y && (S (L y) || reach n (plus L) S (L y)))
  plus_at y l = bool_ext (reach n (plus L) S y) (ltb (L y) y && (S (L y) || reach n (plus L) S (L y)))
      (λ p. let (x, h, s, r) = reach_out n (plus L) S y p in
      both_yes (lt-ltb (L y) y (plus_falls L x y r))
      (⊎_elim (λ e. or_left (S (L y)) (reach n (plus L) S (L y)) (ap S e ∙ s)) (λ q. or_right (S (L y)) (reach n (plus L) S (L y)) (reach_in_lem n (plus L) S x (L y) h s q)) (plus_cases L x y r)))
      (λ p. let f : L y < y = ltb-true (L y) y (yes_left (ltb (L y) y) (S (L y) || reach n (plus L) S (L y)) p) in
      ⊎_elim (λ s. reach_in_lem n (plus L) S (L y) y (omega arith) s (plus_one L (L y) y f refl))
      (λ q. let (x, h, s, r) = reach_out n (plus L) S (L y) q in reach_in_lem n (plus L) S x y h s (plus_more L x y f r))
      (or_cases (S (L y)) (reach n (plus L) S (L y)) (yes_right (ltb (L y) y) (S (L y) || reach n (plus L) S (L y)) p)))

module _ (L : ℕ → ℕ) (n : ℕ) (S : ℕ → Bool) (closed : Bool) where
  -- what the set reaches
  unfoldable pub gathered : ℕ → Bool
  gathered y = reach n (along closed L) S y

  -- a node's byte, from what its link has
  at_link : (y : ℕ) → y < n → gathered y ≡ (ltb (L y) y && (S (L y) || (closed && gathered (L y))))
  unfolding gathered
  at_link y l = go closed
    where
      go : (c : Bool) → reach n (along c L) S y ≡ (ltb (L y) y && (S (L y) || (c && reach n (along c L) S (L y))))
      go true = plus_at L n S y l
      go false = hop_at L n S y l ∙ ap (λ (b : Bool). ltb (L y) y && b) (sym (or-false (S (L y))))

  module _ (r : List ℕ) (y p : ℕ) (e : r ≡ tab 256 (upto y gathered)) (f : p ≡ L y) (l : y < n) where
    -- the link's own byte is there already
    pub gather_store : (v : ℕ) → p < y → n ≤ 256 → v ≡ bit (S p || (closed && memb r p)) → set r y v ≡ tab 256 (upto (y + 1) gathered)
    unfolding upto
    gather_store v m k g = fill_store 256 gathered r y v e (g ∙ ap (λ (b : Bool). bit (S p || (closed && b))) there ∙ rw (at_link y l, sym f, lt-ltb p y m))
      where
        there : memb r p ≡ gathered p
        there = rw e (memb_tab 256 (λ k. ltb k y && gathered k) p (omega arith) ∙ rw (lt-ltb p y m))

    pub gather_skip : y ≤ p → r ≡ tab 256 (upto (y + 1) gathered)
    gather_skip m = fill_none 256 gathered r y e (rw (at_link y l, sym f, le-ltb p y m))

-- scatter: each node's link is set from its byte

-- G is F with the link p of y, if a holds
module _ (L : ℕ → ℕ) (a : Bool) (y p : ℕ) (F G : ℕ → Bool) (more : (x : ℕ) → G x ≡ ((a && hop L x y) || F x)) (r : List ℕ) (e : r ≡ tab 256 F) (f : p ≡ L y) where
  sent : (ltb p y && a) ≡ true → set r p 1 ≡ tab 256 G
  unfolding hop
  sent t =
      rw e
      (tab_set 256 F G p true (more p ∙ rw (sym f, yes_left (ltb p y) a t, yes_right (ltb p y) a t, eq-eqb p p refl))
      (λ k q. sym (more k ∙ rw (sym f, ne_eqb p k (λ z. q (sym z)), and-false (ltb p y), and-false a))))

  kept : (ltb p y && a) ≡ false → r ≡ tab 256 G
  unfolding hop
  kept t = e ∙ tab_cong 256 F G (λ k h. sym (more k ∙ rw (sym f) (ap (λ (b : Bool). b || F k) (none (ltb p y) a (eqb p k) t))))
    where
      none : (a b c : Bool) → (a && b) ≡ false → (b && (a && c)) ≡ false
      none true true c h = no_yes h refl
      none true false c h = refl
      none false b c h = and-false b

-- the nodes from the last down: a node's byte is final before its link is set

module _ (L : ℕ → ℕ) (n : ℕ) (S : ℕ → Bool) (closed : Bool) where
  abbrev U : ℕ → Bool
  U = reach n (turn true (along closed L)) S

  -- in the set or, where closed is set, a link of one in it, once or more
  unfoldable pub sending : ℕ → Bool
  sending z = S z || (closed && U z)

  -- what has been set when the nodes from i on are done
  unfoldable pub part : ℕ → ℕ → Bool
  part i x = any n (λ z. not (ltb z i) && (sending z && hop L x z))

  part_in : (i x z : ℕ) → z < n → i ≤ z → sending z ≡ true → hop L x z ≡ true → part i x ≡ true
  unfolding part
  part_in i x z l a s h = any_intro n (λ z. not (ltb z i) && (sending z && hop L x z)) z l (both_yes (ap not (le-ltb z i a)) (both_yes s h))

  part_out : (i x : ℕ) → part i x ≡ true → (z : ℕ) × (z < n) × (i ≤ z) × (sending z ≡ true) × (hop L x z ≡ true)
  unfolding part
  part_out i x p =
      let (z, l, q) = any_elim n (λ z. not (ltb z i) && (sending z && hop L x z)) p in
      let r : (sending z && hop L x z) ≡ true = yes_right (not (ltb z i)) (sending z && hop L x z) q in
      (z, l, ltb-false z i (not-true (ltb z i) (yes_left (not (ltb z i)) (sending z && hop L x z) q)), yes_left (sending z) (hop L x z) r, yes_right (sending z) (hop L x z) r)

  -- what a node sends reaches its link
  sent_on : (x z : ℕ) → z < n → sending z ≡ true → hop L x z ≡ true → U x ≡ true
  unfolding sending
  sent_on x z l s h = ⊎_elim
      (λ t. reach_in_lem n (turn true (along closed L)) S z x l t (along_one L closed x z h))
      (λ t. let (y, k, s, q) = reach_out n (turn true (along closed L)) S z (yes_right closed (U z) t) in
      reach_in_lem n (turn true (along closed L)) S y x k s (along_more L closed x z y (yes_left closed (U z) t) h q))
      (or_cases (S z) (closed && U z) s)

  -- what reaches a node is sent by one whose link it is
  sent_by : (x : ℕ) → U x ≡ true → (z : ℕ) × (z < n) × (sending z ≡ true) × (hop L x z ≡ true)
  unfolding sending
  sent_by x p =
      let (y, k, s, q) = reach_out n (turn true (along closed L)) S x p in
      let (z, m, h, r) = along_split L closed x y q in (
        z,
        (omega arith),
        ⊎_elim (λ w. or_left (S z) (closed && U z) (ap S w ∙ s))
            (λ w. or_right (S z) (closed && U z) (both_yes (yes_left closed (along closed L z y) w) (reach_in_lem n (turn true (along closed L)) S y z k s (yes_right closed (along closed L z y) w)))) r,
        h,
      )

  -- all hops that end at x are from i on
  pub part_all : (i x : ℕ) → i ≤ suc x → part i x ≡ U x
  part_all i x a = bool_ext (part i x) (U x)
      (λ p. let (z, l, b, s, h) = part_out i x p in sent_on x z l s h)
      (λ p. let (z, l, s, h) = sent_by x p in
      let f : L z < z = hop_falls L x z h in let e : L z ≡ x = hop_is L x z h in part_in i x z l (omega arith) s h)

  pub part_more : (y x : ℕ) → y < n → part y x ≡ ((sending y && hop L x y) || part (suc y) x)
  part_more y x l = bool_ext (part y x) ((sending y && hop L x y) || part (suc y) x)
      (λ p. let (z, m, b, s, h) = part_out y x p in
      ⊎_elim (λ e. or_left (sending y && hop L x y) (part (suc y) x) (rw e (both_yes s h))) (λ k. or_right (sending y && hop L x y) (part (suc y) x) (part_in (suc y) x z m k s h)) (eq-or-lt_of_le b))
      (λ p. ⊎_elim (λ q. part_in y x y l (omega arith) (yes_left (sending y) (hop L x y) q) (yes_right (sending y) (hop L x y) q))
      (λ q. let (z, m, b, s, h) = part_out (suc y) x q in part_in y x z m (omega arith) s h)
      (or_cases (sending y && hop L x y) (part (suc y) x) p))

  pub part_start : replicate 256 0 ≡ tab 256 (part n)
  part_start = tab_none 256 (part n) (λ x. bool_ext (part n x) false (λ p. let (z, l, b, s, h) = part_out n x p in absurd (omega arith)) (λ p. no_yes refl p))

  module _ (r : List ℕ) (i p : ℕ) (e : r ≡ tab 256 (part i)) (f : p ≡ L (i - 1)) (l : i ≤ n) (k : n ≤ 256) (o : 0 < i) where
    more : (x : ℕ) → part (i - 1) x ≡ ((sending (i - 1) && hop L x (i - 1)) || part i x)
    more x = part_more (i - 1) x (omega arith) ∙ ap (λ (j : ℕ). (sending (i - 1) && hop L x (i - 1)) || part j x) (let w : suc (i - 1) ≡ i = omega arith in w)

    final : (S (i - 1) || (closed && memb r (i - 1))) ≡ sending (i - 1)
    unfolding sending
    final = ap (λ (b : Bool). S (i - 1) || (closed && b)) (rw e (memb_tab 256 (part i) (i - 1) (omega arith) ∙ part_all i (i - 1) (omega arith)))

    pub part_store : (ltb p (i - 1) && (S (i - 1) || (closed && memb r (i - 1)))) ≡ true → set r p 1 ≡ tab 256 (part (i - 1))
    part_store t = sent L (sending (i - 1)) (i - 1) p (part i) (part (i - 1)) more r e f (ap (λ (b : Bool). ltb p (i - 1) && b) (sym final) ∙ t)

    pub part_skip : (ltb p (i - 1) && (S (i - 1) || (closed && memb r (i - 1)))) ≡ false → r ≡ tab 256 (part (i - 1))
    part_skip t = kept L (sending (i - 1)) (i - 1) p (part i) (part (i - 1)) more r e f (ap (λ (b : Bool). ltb p (i - 1) && b) (sym final) ∙ t)

  pub part_done : (r : List ℕ) (i : ℕ) → r ≡ tab 256 (part i) → i ≤ 0 → r ≡ tab 256 (image n (turn true (along closed L)) S)
  unfolding image reach
  part_done r i e a =
      e ∙ tab_cong 256 (part i) U (λ x l. part_all i x (omega arith))
      ∙ tab_below 256 n U (λ x p. let (z, l, s, h) = sent_by x p in let f : L z < z = hop_falls L x z h in let g : L z ≡ x = hop_is L x z h in omega arith)

-- a link that a byte is sent to is lower than its node
pub sends_below : (p y k : ℕ) (a : Bool) → (ltb p y && a) ≡ true → y ≤ k → p < k
sends_below p y k a t l = let w : p < y = ltb-true p y (yes_left (ltb p y) a t) in omega arith
