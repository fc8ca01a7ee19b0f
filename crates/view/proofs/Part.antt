-- Laws of the tree of the nodes that are in a set: numbers, rows, and document order.
use Prim.Native.Nat.{ℕ, zero, suc, ◌+◌, ◌*◌, ◌/◌, ◌≤◌, ◌<◌}
use native.Mathlib.Nat.{not-suc-le-zero, le_of_suc-le-suc, eq-or-lt_of_le, add-zero, mul-zero, mul-add, mul-one, mul-le-mul_left}
use native.Mathlib.Omega.{arith}
use mathlib.Core.Path.{◌≡◌, refl, sym, ap, ◌∙◌, subst}
use mathlib.Core.Logic.{⊎_elim}
use mathlib.Core.Bool.{Bool, true, false}
use mathlib.Core.List.{List, [], ◌∷◌, ◌++◌, append-nil}
use lib.ListN.{length, get_or, length-append, get_or-append}
use lib.Seq.{get_or-append-add}
use lib.Dec.{ltb, eqb}
use borrow.Author.Tests.{ltb-true, ltb-false, ne_eqb}
use Rattle.model.specs.Tree.{Tree, tree_of}
use Rattle.model.specs.Accepted.{Sound, Ordered}
use Rattle.model.proofs.Booleans.{Seen, yes!, no!, seen, or_right}
use Rattle.steps.specs.Moves.{plus, star}
use Rattle.steps.proofs.Closure.{star_cases, star_self, star_more, star_lower, star_strict, plus_cases, plus_falls, plus_star}
use Rattle.steps.proofs.Axes.{descendant_star}
use Rattle.model.specs.Parties.{rank, rows_of, new_parent, new_row, PartOf}

not_le : (x y : ℕ) → (y ≤ x → ⊥) → x < y
not_le x y n = go (seen (ltb x y))
  where
    go : Seen (ltb x y) → x < y
    go (yes! r) = ltb-true x y r
    go (no! r) = absurd (n (ltb-false x y r))

module _ (S : ℕ → Bool) where
  pub rank_yes : (k : ℕ) → S k ≡ true → rank S (suc k) ≡ rank S k + 1
  unfolding rank
  rank_yes k p = rw p

  pub rank_no : (k : ℕ) → S k ≡ false → rank S (suc k) ≡ rank S k
  unfolding rank
  rank_no k p = rw p (add-zero (rank S k))

  rank_next : (k : ℕ) → rank S k ≤ rank S (suc k)
  unfolding rank
  rank_next k = omega arith

  pub rank_up : (x y : ℕ) → x ≤ y → rank S x ≤ rank S y
  rank_up x zero h = let e : x ≡ 0 = omega arith in rw e (omega arith)
  rank_up x (suc y) h =
      ⊎_elim (λ (e : x ≡ suc y). rw e (omega arith)) (λ l. let a : rank S x ≤ rank S y = rank_up x y (omega arith) in let b = rank_next y in omega arith)
      (eq-or-lt_of_le h)

  -- the number of a kept node is below that of every later one
  pub rank_less : (x y : ℕ) → S x ≡ true → x < y → rank S x < rank S y
  rank_less x y p l = let a = rank_yes x p in let b : rank S (suc x) ≤ rank S y = rank_up (suc x) y l in omega arith

  pub rank_most : (k : ℕ) → rank S k ≤ k
  unfolding rank
  rank_most zero = omega arith
  rank_most (suc k) = go (seen (S k)) (rank_most k)
    where
      go : Seen (S k) → rank S k ≤ k → rank S (suc k) ≤ suc k
      go (yes! p) h = let a = rank_yes k p in omega arith
      go (no! p) h = let a = rank_no k p in omega arith

  -- each new number is that of a kept node
  pub rank_of : (k j : ℕ) → j < rank S k → (x : ℕ) × (x < k) × (S x ≡ true) × (rank S x ≡ j)
  unfolding rank
  rank_of zero j l = absurd (not-suc-le-zero l)
  rank_of (suc k) j l = go (seen (S k)) (rank_of k j)
    where
      Found : ℕ → Type 0
      Found k = (x : ℕ) × (x < k) × (S x ≡ true) × (rank S x ≡ j)

      more : Found k → Found (suc k)
      more w = let (x, a, p, e) = w in (x, omega arith, p, e)

      go : Seen (S k) → (j < rank S k → Found k) → Found (suc k)
      go (yes! p) ih =
          let a = rank_yes k p in
          ⊎_elim (λ (e : j ≡ rank S k). (k, omega arith, p, sym e)) (λ h. more (ih h)) (eq-or-lt_of_le (let b : j ≤ rank S k = omega arith in b))
      go (no! p) ih = let a = rank_no k p in more (ih (omega arith))

  -- rows of w numbers each
  module _ (row : ℕ → List ℕ) (w : ℕ) (wide : (x : ℕ) → length (row x) ≡ w) where
    pub rows_yes : (k : ℕ) → S k ≡ true → rows_of S row (suc k) ≡ rows_of S row k ++ row k
    unfolding rows_of
    rows_yes k p = rw p

    pub rows_no : (k : ℕ) → S k ≡ false → rows_of S row (suc k) ≡ rows_of S row k
    unfolding rows_of
    rows_no k p = rw p (append-nil (rows_of S row k))

    pub length_rows : (k : ℕ) → length (rows_of S row k) ≡ w * rank S k
    unfolding rows_of rank
    length_rows zero = sym (mul-zero w)
    length_rows (suc k) = go (seen (S k)) (length_rows k)
      where
        go : Seen (S k) → length (rows_of S row k) ≡ w * rank S k → length (rows_of S row (suc k)) ≡ w * rank S (suc k)
        go (yes! p) ih = rw (rows_yes k p, rank_yes k p, length-append (rows_of S row k) (row k), ih, wide k) (sym (mul-add w (rank S k) 1 ∙ ap (λ (m : ℕ). w * rank S k + m) (mul-one w)))
        go (no! p) ih = rw (rows_no k p, rank_no k p) ih

    -- the row of a kept node stands at its new number
    pub rows_at : (k x i : ℕ) → x < k → S x ≡ true → i < w → get_or (rows_of S row k) (w * rank S x + i) 0 ≡ get_or (row x) i 0
    rows_at zero x i l p h = absurd (not-suc-le-zero l)
    rows_at (suc k) x i l p h =
        ⊎_elim (λ (e : x ≡ k). last e) (λ m. earlier m (seen (S k)) (rows_at k x i m p h)) (eq-or-lt_of_le (let b : x ≤ k = omega arith in b))
      where
        last : x ≡ k → get_or (rows_of S row (suc k)) (w * rank S x + i) 0 ≡ get_or (row x) i 0
        last e = rw (rows_yes k (ap S (sym e) ∙ p), e, ← length_rows k) (get_or-append-add (rows_of S row k) (row k) i 0)

        earlier : x < k → Seen (S k) → get_or (rows_of S row k) (w * rank S x + i) 0 ≡ get_or (row x) i 0 → get_or (rows_of S row (suc k)) (w * rank S x + i) 0 ≡ get_or (row x) i 0
        earlier m (no! q) ih = rw (rows_no k q) ih
        earlier m (yes! q) ih =
            let a : w * (rank S x + 1) ≤ w * rank S k = mul-le-mul_left w (let b = rank_less x k p m in let g : rank S x + 1 ≤ rank S k = omega arith in g) in
            let c = mul-add w (rank S x) 1 ∙ ap (λ (m : ℕ). w * rank S x + m) (mul-one w) in
            let d = length_rows k in
            rw (rows_yes k q) (get_or-append (rows_of S row k) (row k) 0 (w * rank S x + i) (let g : w * rank S x + i < length (rows_of S row k) = omega arith in g) ∙ ih)

-- the ancestors of a node of a tree in document order

star_of : (L : ℕ → ℕ) (x y : ℕ) → plus L x y ≡ true → star L x y ≡ true
unfolding star
star_of L x y p = or_right (eqb x y) (plus L x y) p

star_up : (L : ℕ → ℕ) (x y : ℕ) → plus L x y ≡ true → star L x (L y) ≡ true
star_up L x y h = ⊎_elim (λ (e : L y ≡ x). subst (λ (k : ℕ). star L k (L y) ≡ true) e (star_self L (L y))) (λ p. star_of L x (L y) p) (plus_cases L x y h)

star_trans : (L : ℕ → ℕ) (x z y : ℕ) → star L x z ≡ true → star L z y ≡ true → star L x y ≡ true
star_trans L x z y g h = ⊎_elim (λ (e : x ≡ z). rw e h) (λ p. star_of L x y (plus_star L x z y p h)) (star_cases L x z g)

module _ (t : Tree) (o : Ordered t) where
  -- a node's descendants stand together, right behind it
  between : (q y z : ℕ) → star t.parent q z ≡ true → q ≤ y → y ≤ z → z < t.size → star t.parent q y ≡ true
  between q y zero h a b l = let e : y ≡ 0 = omega arith in rw e h
  between q y (suc m) h a b l =
      ⊎_elim (λ (e : y ≡ suc m). rw e h)
      (λ k. between q y m
      (star_trans t.parent q (t.parent (suc m)) m (star_up t.parent q (suc m) (star_strict t.parent q (suc m) h (omega arith))) (sym (descendant_star t o.sound (t.parent (suc m)) m (omega arith)) ∙ o.rule m l))
      a (omega arith) (omega arith))
      (eq-or-lt_of_le b)

  -- a set of nodes that has node 0, and with each node its parent
  module _ (S : ℕ → Bool) (root : S 0 ≡ true) (up : (x : ℕ) → 0 < x → x < t.size → S x ≡ true → S (t.parent x) ≡ true) where
    abbrev table : List ℕ
    table = rows_of S (new_row t S) t.size

    abbrev u : Tree
    u = tree_of table

    pub part_length : length table ≡ 2 * rank S t.size
    part_length = length_rows S (new_row t S) 2 (λ x. refl) t.size

    pub part_size : length table / 2 ≡ rank S t.size
    part_size = rw part_length (omega arith)

    parent_at : (x : ℕ) → x < t.size → S x ≡ true → get_or table (2 * rank S x) 0 ≡ new_parent t S x
    parent_at x l p = ap (λ (k : ℕ). get_or table k 0) (sym (add-zero (2 * rank S x))) ∙ rows_at S (new_row t S) 2 (λ x. refl) t.size x 0 l p (omega arith)

    tag_at : (x : ℕ) → x < t.size → S x ≡ true → get_or table (2 * rank S x + 1) 0 ≡ t.tag x
    tag_at x l p = rows_at S (new_row t S) 2 (λ x. refl) t.size x 1 l p (omega arith)

    parent_of : (x : ℕ) → 0 < x → x < t.size → S x ≡ true → (get_or table (2 * rank S x) 0 ≡ rank S (t.parent x)) × (rank S (t.parent x) < rank S x)
    parent_of x a l p =
        (parent_at x l p ∙ rw (ne_eqb x 0 (λ e. absurd (omega arith))), rank_less S (t.parent x) x (up x a l p) (o.sound.falls x a l))

    -- node j of the part
    node : (j : ℕ) → j < u.size → (x : ℕ) × (x < t.size) × (S x ≡ true) × (rank S x ≡ j)
    node j l = rank_of S t.size j (let e = part_size in omega arith)

    rank_zero : rank S 0 ≡ 0
    unfolding rank
    rank_zero = refl

    later : (x j : ℕ) → rank S x ≡ j → 0 < j → 0 < x
    later zero j e l = absurd (let z = rank_zero in omega arith)
    later (suc x) j e l = omega arith

    pub part_sound : Sound u
    part_sound = record {
      some_node = let a = rank_less S 0 t.size root o.sound.some_node in let e = part_size in omega arith;
      at_most = let a = rank_most S t.size in let e = part_size in omega (arith, o.sound.at_most);
      falls = λ j a l. let (x, h, p, e) = node j l in let w = parent_of x (later x j e a) h p in let g = ap (λ (k : ℕ). get_or table (2 * k) 0) e in omega (arith, w.0, w.1);
    }

    -- an ancestor stays one
    keeps : (k q y : ℕ) → y ≤ k → y < t.size → S y ≡ true → star t.parent q y ≡ true → star u.parent (rank S q) (rank S y) ≡ true
    keeps zero q y a l p h = let w : q ≤ y = star_lower t.parent q y h in let e : q ≡ y = omega arith in rw e (star_self u.parent (rank S y))
    keeps (suc k) q y a l p h = ⊎_elim (λ (e : q ≡ y). rw e (star_self u.parent (rank S y))) (λ r. above r (λ z b c d. keeps k q z b c d)) (star_cases t.parent q y h)
      where
        above : plus t.parent q y ≡ true → ((z : ℕ) → z ≤ k → z < t.size → S z ≡ true → star t.parent q z ≡ true → star u.parent (rank S q) (rank S z) ≡ true)
            → star u.parent (rank S q) (rank S y) ≡ true
        above r ih =
            let f : t.parent y < y = plus_falls t.parent q y r in
            let w = parent_of y (omega arith) l p in
            star_more u.parent (rank S q) (rank S y) (let g : get_or table (2 * rank S y) 0 < rank S y = omega (arith, w.0, w.1) in g)
            (rw w.0 (ih (t.parent y) (omega arith) (omega arith) (up y (omega arith) l p) (star_up t.parent q y r)))

    -- the part is in document order
    rule : (j : ℕ) → suc j < u.size → star u.parent (u.parent (suc j)) j ≡ true
    rule j l =
        let (x, h, p, e) = node (suc j) l in
        let (y, g, q, f) = node j (omega arith) in
        at x (later x (suc j) e (omega arith)) h p e y g q f
      where
        at : (x : ℕ) → 0 < x → x < t.size → S x ≡ true → rank S x ≡ suc j → (y : ℕ) → y < t.size → S y ≡ true → rank S y ≡ j → star u.parent (u.parent (suc j)) j ≡ true
        at zero a h p e y g q f = absurd (omega arith)
        at (suc m) a h p e y g q f =
            let w = parent_of (suc m) a h p in
            let low : y < suc m = not_le y (suc m) (λ b. absurd (let c = rank_up S (suc m) y b in omega arith)) in
            let near : t.parent (suc m) ≤ y = le_of_suc-le-suc (not_le (t.parent (suc m)) (suc y) (λ b. absurd (let c = rank_less S y (t.parent (suc m)) q b in omega (arith, w.1)))) in
            let s : star t.parent (t.parent (suc m)) y ≡ true = between (t.parent (suc m)) y m (sym (descendant_star t o.sound (t.parent (suc m)) m (omega arith)) ∙ o.rule m h) near (omega arith) (omega arith) in
            rw (← e, w.0, ← f) (keeps y (t.parent (suc m)) y (omega arith) g q s)

    pub part_ordered : Ordered u
    part_ordered = record {
      sound = part_sound;
      rule = λ j l. descendant_star u part_sound (u.parent (suc j)) j (omega arith) ∙ rule j l;
      document = λ j a l.
          let (x, h, p, e) = node j l in
          ap (λ (k : ℕ). eqb (get_or table (2 * k + 1) 0) 65534) (sym e) ∙ ap (λ (g : ℕ). eqb g 65534) (tag_at x h p) ∙ o.document x (later x j e a) h;
    }

    -- the old number of node j
    abbrev number : ℕ → ℕ
    number j = get_or (rows_of S (λ x. x ∷ []) t.size) j 0

    old_at_lem : (x j : ℕ) → x < t.size → S x ≡ true → rank S x ≡ j → number j ≡ x
    old_at_lem x j l p e = ap (λ (k : ℕ). get_or (rows_of S (λ x. x ∷ []) t.size) k 0) (let g : j ≡ 1 * rank S x + 0 = omega arith in g) ∙ rows_at S (λ x. x ∷ []) 1 (λ x. refl) t.size x 0 l p (omega arith)

    root_parent : u.parent 0 ≡ 65535
    root_parent = ap (λ (k : ℕ). get_or table (2 * k) 0) (sym rank_zero) ∙ parent_at 0 o.sound.some_node root

    -- for the reader: the part is what it should be
    pub part_of : PartOf t S u
    part_of = record {
      old = number;
      rising = λ i j a l.
          let (x, h, p, e) = node i (omega arith) in let (y, g, q, f) = node j l in
          let b = old_at_lem x i h p e in let c = old_at_lem y j g q f in
          rw (b, c) (not_le x y (λ d. absurd (let k = rank_up S y x d in omega arith)));
      kept = λ j l. let (x, h, p, e) = node j l in rw (old_at_lem x j h p e) (h, p);
      whole = λ x l p. (rank S x, let a = rank_less S x t.size p l in let e = part_size in omega arith, old_at_lem x (rank S x) l p refl);
      root = (old_at_lem 0 0 o.sound.some_node root rank_zero, root_parent);
      parent = λ j a l.
          let (x, h, p, e) = node j l in
          let w = parent_of x (later x j e a) h p in
          let g : get_or table (2 * j) 0 ≡ rank S (t.parent x) = ap (λ (k : ℕ). get_or table (2 * k) 0) (sym e) ∙ w.0 in
          let f : t.parent x < x = o.sound.falls x (later x j e a) h in
          (omega (arith, w.1), ap number g ∙ old_at_lem (t.parent x) (rank S (t.parent x)) (omega arith) (up x (later x j e a) h p) refl ∙ sym (ap t.parent (old_at_lem x j h p e)));
      tag = λ j l. let (x, h, p, e) = node j l in ap (λ (k : ℕ). get_or table (2 * k + 1) 0) (sym e) ∙ tag_at x h p ∙ sym (ap t.tag (old_at_lem x j h p e));
    }
