-- Laws of the search for the next answer, variable by variable.
use Prim.Native.Nat.{ℕ, zero, suc, ◌+◌, ◌-◌, ◌*◌, ◌<◌, ◌≤◌}
use native.Mathlib.Nat.{suc-mul, mul-le-mul_right}
use native.Mathlib.Decide.{dec_lt}
use native.Mathlib.Omega.{arith}
use mathlib.Core.Path.{◌≡◌, refl, sym, ap, ◌∙◌, subst}
use mathlib.Core.Logic.{◌⊎◌, ⊎_elim}
use mathlib.Core.Bool.{Bool, true, false}
use mathlib.Core.List.{List, [], ◌∷◌}
use lib.ListN.{length, take, get_or, set, length-set}
use lib.Seq.{length-take-le, get_or-take, get_or-set_same, get_or-set_other}
use Rattle.model.specs.Tree.{size_of}
use Rattle.model.specs.Answers.{Row, less, keep, answers}
use Rattle.model.specs.Accepted.{Below}
use Rattle.model.proofs.Booleans.{no_yes, not_yes}
use Rattle.model.proofs.Answers.{In, answers_rising, answers_member, satisfied_pair}
use Rattle.std.specs.Prelude.{Option, Some, None}
use Rattle.engines.specs.Engines.{Searchable}
use Rattle.answers.specs.Search.{row_at, ahead}
use Rattle.quick.specs.declared.Tried.{Tried}
use Rattle.quick.specs.Search.{Ready, Answer, Nodes, Same, Before, goes_on, some_answer, Lowest, Tries, number_of, Seeks, Begins, First}
use Rattle.quick.proofs.Rows.{less_before, before_less, before_step, none_kept, first_kept, next_kept}
use Rattle.answers.proofs.Opened.{long}
use Rattle.quick.proofs.Opened.{few, found, hit}

-- a number of a row that is set
pub set_at : (w : List ℕ) (i v j : ℕ) → length w ≡ 3 → i < 3 → j ≡ i → get_or (set w i v) j 0 ≡ v
set_at w i v j e l h = rw h (get_or-set_same w i v 0 (omega arith))

pub set_off : (w : List ℕ) (i v j : ℕ) → (j ≡ i → ⊥) → get_or (set w i v) j 0 ≡ get_or w j 0
set_off w i v j h = get_or-set_other w i j v 0 h

-- a row of nodes, one of them set
pub set_nodes : (n k : ℕ) (w : List ℕ) (i v : ℕ) → k ≤ 3 → length w ≡ 3 → i < k → Nodes n k w → v < n → Nodes n k (set w i v)
set_nodes n k w i v m e l h g j b = go (dec_lt j i) (dec_lt i j)
  where
    go : Dec (j < i) → Dec (i < j) → get_or (set w i v) j 0 < n
    go (yes a) d = rw (set_off w i v j (λ z. omega arith)) (h j b)
    go (no a) (yes c) = rw (set_off w i v j (λ z. omega arith)) (h j b)
    go (no a) (no c) = rw (set_at w i v j e (omega arith) (omega arith)) g

pub nodes_below : (n k : ℕ) (w : List ℕ) → length (take k w) ≡ k → Nodes n k w → Below n (take k w)
nodes_below n k w e h j l = rw (get_or-take k w j 0 (omega arith)) (h j (omega arith))

pub going_below : {t prev q : List ℕ} {k : ℕ} → Searchable t prev q k → (w : List ℕ) (i v : ℕ) → length w ≡ 3 → i < k → Nodes (size_of t) k w → v < size_of t → Below (size_of t) (take k (set w i v))
going_below {t} {prev} {q} {k} ok w i v e l h g =
    nodes_below (size_of t) k (set w i v) (length-take-le k (set w i v) (omega (arith, ok.most, length-set w i v))) (set_nodes (size_of t) k w i v ok.most e l h g)

-- The numbers with which a row goes on.

module _ {t prev q : List ℕ} {k : ℕ} (ok : Ready t prev q k) (w : List ℕ) (three : length w ≡ 3) (i : ℕ) (l : i < k) where
  pub goes : (x : Row) → Answer t q k x → Same i x w → goes_on t q k w i (get_or x i 0) ≡ true
  unfolding goes_on
  goes x a s = found ok (set w i (get_or x i 0)) (length-set w i (get_or x i 0) ∙ three) (i + 1) x a (λ j m. same j m (dec_lt j i))
    where
      same : (j : ℕ) → j < i + 1 → Dec (j < i) → get_or x j 0 ≡ get_or (set w i (get_or x i 0)) j 0
      same j m (yes h) = s j h ∙ sym (set_off w i (get_or x i 0) j (λ e. omega arith))
      same j m (no h) = let e : j ≡ i = omega arith in ap (λ (j : ℕ). get_or x j 0) e ∙ sym (set_at w i (get_or x i 0) j three (omega (arith, few ok)) e)

  -- an answer that goes on after the row has a number from the lowest on
  pub lowest_least : (from v : ℕ) → Lowest (goes_on t q k w i) from (size_of t) v → (x : Row) → Answer t q k x → Same i x w → from ≤ get_or x i 0 → v ≤ get_or x i 0
  lowest_least from v h x a s m = go (dec_lt (get_or x i 0) v)
    where
      go : Dec (get_or x i 0 < v) → v ≤ get_or x i 0
      go (yes g) = no_yes (h.least (get_or x i 0) m g) (goes x a s)
      go (no g) = omega arith

  -- where it is a node, some answer goes on with it
  pub lowest_begins : (from v : ℕ) → Lowest (goes_on t q k w i) from (size_of t) v → Nodes (size_of t) k w → v < size_of t → Begins t q k (i + 1) (set w i v)
  unfolding goes_on
  lowest_begins from v h nodes m =
      hit ok (set w i v) (length-set w i v ∙ three) (i + 1) (omega arith) (set_nodes (size_of t) k w i v (few ok) three l nodes m) (h.holds m)

pub nodes : {t prev q : List ℕ} {k : ℕ} → Ready t prev q k → (w : List ℕ) → length w ≡ 3 → Below (size_of t) (take k w) → Nodes (size_of t) k w
nodes {t} {prev} {q} {k} ok w three b j l = rw (← get_or-take k w j 0 l) (b j (omega (arith, long ok.listed w three)))

-- The loop that tries the numbers from one on.

module _ (f : ℕ → Bool) (from n : ℕ) where
  abbrev pub Trying : ℕ → Type 0
  Trying v = (from ≤ v) × (v ≤ n) × ((u : ℕ) → from ≤ u → u < v → f u ≡ false)

  pub trying_start : from ≤ n → Trying from
  trying_start l = (omega arith, l, λ u a b. absurd (omega arith))

  pub trying_on : (v : ℕ) (b : Bool) → Trying v → v < n → b ≡ f v → b ≡ false → Trying (v + 1)
  trying_on v b w l e h = (omega (arith, w.0), omega arith, λ u a m. go u a m (dec_lt u v))
    where
      go : (u : ℕ) → from ≤ u → u < v + 1 → Dec (u < v) → f u ≡ false
      go u a m (yes g) = w.2 u a g
      go u a m (no g) = let d : u ≡ v = omega arith in ap f d ∙ sym e ∙ h

  pub trying_hit : (v : ℕ) (b : Bool) → Trying v → b ≡ f v → b ≡ true → Lowest f from n v
  trying_hit v b w e h = record { low = w.0; within = w.1; least = w.2; holds = λ l. sym e ∙ h }

  pub trying_end : (v : ℕ) → Trying v → n ≤ v → Lowest f from n n
  trying_end v w l = record { low = omega (arith, w.0, w.1); within = omega arith; least = λ u a b. w.2 u a (omega arith); holds = λ m. absurd (omega arith) }

-- a number that was found, or not

pub number_found : (n : ℕ) (o : Option ℕ) → number_of n o < n → o ≡ Some (number_of n o)
number_found n None l = absurd (omega arith)
number_found n (Some v) l = refl

module _ (f : ℕ → Bool) (from n spent : ℕ) (r : Tried) (w : Seeks f from n spent r) where
  pub seeks_some : (v : ℕ) → r.number ≡ Some v → (v < n) × (Lowest f from n v × ((r.evaluations ≤ spent + n) × Tries from n v spent r.evaluations))
  seeks_some v is = rw is at w

  pub seeks_none : r.number ≡ None → Lowest f from n n × ((r.evaluations ≤ spent + n) × Tries from n n spent r.evaluations)
  seeks_none is = let d : Unit × (Lowest f from n n × ((r.evaluations ≤ spent + n) × Tries from n n spent r.evaluations)) = rw is at w in d.1

-- The loop that seeks a higher number, from the last variable to the first.

-- the answers after the row differ from it before variable i
pub record Climbing (t q : List ℕ) (k : ℕ) (row : List ℕ) (i : ℕ) : Type 0 where
  pub within : i ≤ k
  pub beyond : (x : Row) → Answer t q k x → Before k row x → Before i row x

module _ {t prev q : List ℕ} {k : ℕ} (ok : Ready t prev q k) where
  -- an answer as a list's member, and back
  listed : (x : Row) → Answer t q k x → In x (answers t q k)
  listed x a = (answers_member t q k x).1 (a.0, a.1, (satisfied_pair t q k x).0 a.2)

  unlisted : (x : Row) → In x (answers t q k) → Answer t q k x
  unlisted x i = let m = (answers_member t q k x).0 i in (m.0, m.1, (satisfied_pair t q k x).1 m.2)

  -- the answers from the first of them on
  pub first_ahead : (row s : List ℕ) → First t q k 0 row s → ahead k (answers t q k) (Some s) ≡ answers t q k
  first_ahead row s f =
      (sym (first_kept (answers t q k) (row_at k s) (answers_rising t q k) (listed (row_at k s) f.answer)
      (λ x i. not_yes (less x (row_at k s)) (λ h. f.first x (unlisted x i) (λ j l. absurd (omega arith)) (front x (unlisted x i) h)))))
    where
      front : (x : Row) → Answer t q k x → less x (row_at k s) ≡ true → Before k x s
      front x a h =
          let (c, l, u, g) = less_before k x (row_at k s) a.0 f.answer.0 h in
          (c, l, λ j m. u j m ∙ get_or-take k s j 0 (omega arith), (rw (get_or-take k s c 0 l) at g))

  -- where the query has no pair with all variables standing for any node, there is no answer
  pub none_ahead : (b : Bool) → b ≡ some_answer t q k → b ≡ false → [] ≡ answers t q k
  none_ahead b p h =
      (sym (empty (answers t q k) (λ x i. no_yes (sym p ∙ h) (found ok (0 ∷ 0 ∷ 0 ∷ []) refl 0 x (unlisted x i) (λ j l. absurd (omega arith))))))
    where
      empty : (L : List Row) → ((x : Row) → In x L → ⊥) → L ≡ []
      empty [] f = refl
      empty (x ∷ L) f = absurd (f x (◌⊎◌.inl refl))

  -- else some answer begins as any row does
  pub some_begins : (b : Bool) → b ≡ some_answer t q k → b ≡ true → Nodes (size_of t) k (0 ∷ 0 ∷ 0 ∷ []) → Begins t q k 0 (0 ∷ 0 ∷ 0 ∷ [])
  some_begins b p h nodes = hit ok (0 ∷ 0 ∷ 0 ∷ []) refl 0 (omega arith) nodes (sym p ∙ h)

  pub zero_nodes : Nodes (size_of t) k (0 ∷ 0 ∷ 0 ∷ [])
  zero_nodes zero l = ok.listed.searchable.linked.tree.sound.some_node
  zero_nodes (suc zero) l = ok.listed.searchable.linked.tree.sound.some_node
  zero_nodes (suc (suc zero)) l = ok.listed.searchable.linked.tree.sound.some_node
  zero_nodes (suc (suc (suc j))) l = absurd (omega (arith, few ok))

  module _ (row : List ℕ) (three : length row ≡ 3) where
    wide : length (take k row) ≡ k
    wide = long ok.listed row three

    number : (j : ℕ) → j < k → get_or (take k row) j 0 ≡ get_or row j 0
    number j l = get_or-take k row j 0 l

    onto : (x : Row) → Answer t q k x → less (take k row) x ≡ true → Before k row x
    onto x a g =
        let (d, l, u, y) = less_before k (take k row) x wide a.0 g in
        (d, l, λ j m. sym (number j (omega arith)) ∙ u j m, (rw (number d l) at y))

    pub climbing_start : Climbing t q k row k
    climbing_start = record { within = omega arith; beyond = λ x a h. h }

    -- one variable more to the front, whose number in the row is m
    module _ (i m : ℕ) (c : Climbing t q k row (i + 1)) (here : m ≡ get_or row i 0) where
      within : i < k
      within = omega (arith, c.within)

      next : (x : Row) → Answer t q k x → Before k row x → Before i row x ⊎ (Same i row x × (get_or row i 0 < get_or x i 0))
      next x a b = before_step i row x (c.beyond x a b)

      module _ (v : ℕ) (w : Lowest (goes_on t q k row i) (m + 1) (size_of t) v) where
        least : (x : Row) → Answer t q k x → Same i row x → get_or row i 0 < get_or x i 0 → v ≤ get_or x i 0
        least x a s g = lowest_least ok row three i within (m + 1) v w x a (λ j l. sym (s j l)) (omega arith)

        -- no higher number goes on
        pub climbing_on : size_of t ≤ v → Climbing t q k row i
        climbing_on h =
            record {
              within = omega (arith, within);
              beyond = λ x a b. ⊎_elim (λ d. d) (λ d. absurd (omega (arith, least x a d.0 d.1, a.1 i (omega (arith, a.0, within))))) (next x a b);
            }

        -- a higher number goes on
        module _ (nodes : Nodes (size_of t) k row) (h : v < size_of t) where
          pub climbing_begins : Begins t q k (i + 1) (set row i v)
          climbing_begins = lowest_begins ok row three i within (m + 1) v w nodes h

          pub climbing_nodes : Nodes (size_of t) k (set row i v)
          climbing_nodes = set_nodes (size_of t) k row i v (few ok) three within nodes h

        module _ (s : List ℕ) (f : First t q k (i + 1) (set row i v) s) where
          -- the numbers of the row that is found
          same : (j : ℕ) → j < i → get_or s j 0 ≡ get_or row j 0
          same j l = f.same j (omega arith) ∙ set_off row i v j (λ e. omega arith)

          higher : get_or s i 0 ≡ v
          higher = f.same i (omega arith) ∙ set_at row i v i three (omega (arith, within, few ok)) refl

          at_row : (j : ℕ) → j < k → get_or (row_at k s) j 0 ≡ get_or s j 0
          at_row j l = get_or-take k s j 0 l

          -- it agrees with the row up to the variable that is counted up
          pub found_same : Same i (take k row) (row_at k s)
          found_same j l = number j (omega (arith, within)) ∙ sym (at_row j (omega (arith, within)) ∙ same j l)

          pub found_higher : v ≡ get_or (row_at k s) i 0
          found_higher = sym (at_row i within ∙ higher)

          later : less (take k row) (row_at k s) ≡ true
          later =
              before_less k (take k row) (row_at k s) wide f.answer.0
              (i, within, found_same, omega (arith, number i within, at_row i within, higher, w.low))

          -- no answer stands between
          between : (x : Row) → Answer t q k x → Before k row x → Before k x s → ⊥
          between x a b (d, ld, ud, gd) = ⊎_elim early level (next x a b)
            where
              early : Before i row x → ⊥
              early (e, le, ue, ge) = go (dec_lt d e)
                where
                  go : Dec (d < e) → ⊥
                  go (yes m) = omega (arith, ue d m, same d (omega arith))
                  go (no m) = go₂ (dec_lt e d)
                    where
                      go₂ : Dec (e < d) → ⊥
                      go₂ (yes m₂) = omega (arith, ud e m₂, same e le)
                      go₂ (no m₂) = let z : d ≡ e = omega arith in let g : get_or x e 0 < get_or s e 0 = rw z at gd in omega (arith, same e le)

              level : Same i row x × (get_or row i 0 < get_or x i 0) → ⊥
              level (u, g) = go (dec_lt d i)
                where
                  v_low : v ≤ get_or x i 0
                  v_low = least x a u g

                  go : Dec (d < i) → ⊥
                  go (yes m) = omega (arith, u d m, same d m)
                  go (no m) = go₂ (dec_lt i d)
                    where
                      go₂ : Dec (i < d) → ⊥
                      go₂ (yes m₂) = f.first x a (λ j l. ud j (omega arith) ∙ f.same j l) (d, ld, ud, gd)
                      go₂ (no m₂) = let z : d ≡ i = omega arith in let g₂ : get_or x i 0 < get_or s i 0 = rw z at gd in omega (arith, higher, v_low)

          pub climbing_found : ahead k (answers t q k) (Some s) ≡ keep (less (take k row)) (answers t q k)
          climbing_found =
              (sym (next_kept (take k row) (row_at k s) later (answers t q k) (answers_rising t q k) (listed (row_at k s) f.answer)
              (λ x i g. not_yes (less x (row_at k s)) (λ y. between x (unlisted x i) (onto x (unlisted x i) g) (from x (unlisted x i) y)))))
            where
              from : (x : Row) → Answer t q k x → less x (row_at k s) ≡ true → Before k x s
              from x a g =
                  let (d, l, u, y) = less_before k x (row_at k s) a.0 f.answer.0 g in
                  (d, l, λ j m. u j m ∙ at_row j (omega arith), (rw (at_row d l) at y))

    -- no variable has a higher number that goes on
    pub climbing_done : (i : ℕ) → Climbing t q k row i → i ≤ 0 → [] ≡ keep (less (take k row)) (answers t q k)
    climbing_done i c h =
        (sym (none_kept (less (take k row)) (answers t q k)
        (λ x m. not_yes (less (take k row) x) (λ y. omega (arith, (c.beyond x (unlisted x m) (onto x (unlisted x m) y)).1)))))

-- The loop counts i down before it looks at variable i - 1.
pub counted_down : {t q : List ℕ} {k : ℕ} {row : List ℕ} {i : ℕ} → Climbing t q k row i → 0 < i → Climbing t q k row (i - 1 + 1)
counted_down {t} {q} {k} {row} {i} c p = subst (λ (z : ℕ). Climbing t q k row z) (let e : i ≡ i - 1 + 1 = omega arith in e) c

-- At most n evaluations for each of at most three variables.

pub levels_more : (i j n : ℕ) → i ≤ j → (j + 1 - i) * n ≡ (j - i) * n + n
levels_more i j n l = let e : j + 1 - i ≡ suc (j - i) = omega arith in rw (e, suc-mul)

pub levels_down : (k i n : ℕ) → 0 < i → i ≤ k → (k - (i - 1)) * n ≡ (k - i) * n + n
levels_down k i n p l = let e : k - (i - 1) ≡ suc (k - i) = omega arith in rw (e, suc-mul)

pub levels_few : (i j n : ℕ) → j ≤ 3 → (j - i) * n ≤ 3 * n
levels_few i j n l = mul-le-mul_right n (let e : j - i ≤ 3 = omega arith in e)
