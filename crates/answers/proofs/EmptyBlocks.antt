-- Laws of blocks of rows: those that begin with the same numbers. Behind a block in which no row is an answer, the answers are those after
-- its first row.
use Prim.Native.Nat.{ℕ, zero, suc, ◌<◌, ◌≤◌}
use native.Mathlib.Omega.{arith}
use mathlib.Core.Path.{◌≡◌, refl, sym, ap, ap₂, ◌∙◌}
use mathlib.Core.Logic.{◌⊎◌}
use mathlib.Core.Bool.{Bool, true, false}
use mathlib.Core.List.{List, [], ◌∷◌}
use lib.Dec.{eqb}
use lib.ListN.{length, take, get_or}
use lib.Seq.{take-take, get_or-take}
use borrow.Author.Tests.{lt-ltb, eqb-true}
use Rattle.model.specs.Tree.{tree_of, size_of}
use Rattle.model.specs.QueryTable.{path_at, last_of}
use Rattle.model.specs.Encoding.{path_term}
use Rattle.model.specs.Results.{assigned, related}
use Rattle.model.specs.Accepted.{Below}
use Rattle.model.specs.Answers.{Row, less, keep, cons_if, satisfied, answers}
use Rattle.model.specs.Sharing.{unfilled}
use Rattle.model.proofs.Booleans.{Seen, yes!, no!, seen, no_yes}
use Rattle.model.proofs.Answers.{In, Lexed, first, later, lexed, less_first, less_later, satisfied_pair, answers_member}
use Rattle.aside.proofs.Terms.{term_path}
use Rattle.pruning.specs.Pruning.{bound_in, bound_at}
use Rattle.pruning.proofs.Filled.{filled}
use Rattle.answers.specs.Search.{Listed, satisfied_open, Heads, ZerosFrom, EmptyBlock}
use Rattle.answers.proofs.Opened.{row_fills}

-- The order of rows.

-- a row that does not begin as the first i numbers of r stands to them as it stands to r
less_front : (i : ℕ) (r x : Row) → (take i x ≡ take i r → ⊥) → less (take i r) x ≡ less r x
less_front zero r x h = absurd (h refl)
less_front (suc i) [] x h = refl
less_front (suc i) (a ∷ r) [] h = refl
less_front (suc i) (a ∷ r) (b ∷ x) h = go (seen (eqb a b)) (less_front i r x)
  where
    go : Seen (eqb a b) → ((take i x ≡ take i r → ⊥) → less (take i r) x ≡ less r x) → less (a ∷ take i r) (b ∷ x) ≡ less (a ∷ r) (b ∷ x)
    go (yes! p) f =
        let e : a ≡ b = eqb-true a b p in
        rw e (less_later b (take i r) x ∙ f (λ s. h (ap₂ (λ (y : ℕ) (l : List ℕ). y ∷ l) (sym e) s)) ∙ sym (less_later b r x))
    go (no! p) f = rw p

-- after them, it is after r
front_less : (i : ℕ) (r x : Row) → less (take i r) x ≡ true → less r x ≡ true
front_less zero r x h = no_yes refl h
front_less (suc i) [] x h = h
front_less (suc i) (a ∷ r) [] h = no_yes refl h
front_less (suc i) (a ∷ r) (b ∷ x) h = go (lexed a (take i r) b x h) (front_less i r x)
  where
    go : Lexed a (take i r) b x → (less (take i r) x ≡ true → less r x ≡ true) → less (a ∷ r) (b ∷ x) ≡ true
    go (first l) f = less_first a r b x l
    go (later e l) f = rw e (less_later b r x ∙ f l)

-- Two tests of the rows of a list.

-- that agree on them
keep_agree : (f g : Row → Bool) (xs : List Row) → ((x : Row) → In x xs → f x ≡ g x) → keep f xs ≡ keep g xs
keep_agree f g [] h = refl
keep_agree f g (x ∷ xs) h = ap₂ (λ (b : Bool) (l : List Row). cons_if b x l) (h x (◌⊎◌.inl refl)) (keep_agree f g xs (λ s i. h s (◌⊎◌.inr i)))

-- of which one passes no row that the other does not
keep_fewer : (f g : Row → Bool) → ((x : Row) → f x ≡ true → g x ≡ true) → (xs : List Row) → length (keep f xs) ≤ length (keep g xs)
keep_fewer f g h [] = omega arith
keep_fewer f g h (x ∷ xs) = go (f x) (g x) (h x) (keep_fewer f g h xs)
  where
    go : (a b : Bool) → (a ≡ true → b ≡ true) → length (keep f xs) ≤ length (keep g xs) → length (cons_if a x (keep f xs)) ≤ length (cons_if b x (keep g xs))
    go true true s l = omega arith
    go true false s l = no_yes refl (s refl)
    go false true s l = omega arith
    go false false s l = l

-- Empty blocks.

module _ {t q : List ℕ} {k i : ℕ} {row : List ℕ} (w : EmptyBlock t q k i row) where
  front : take i (take k row) ≡ take i row
  front = take-take i k row w.heads.within

  -- the answers behind the block are those after its first row
  pub block_left_out : keep (less (take i row)) (answers t q k) ≡ keep (less (take k row)) (answers t q k)
  block_left_out =
      keep_agree (less (take i row)) (less (take k row)) (answers t q k)
      (λ x m.
      let (e, b, p) = (answers_member t q k x).0 m in
      rw (← front) (less_front i (take k row) x (λ s. w.none x e b ((satisfied_pair t q k x).1 p) (s ∙ front))))

  -- and there are no more rows behind the block than after its first row
  pub block_fewer : (rows : List Row) → length (keep (less (take i row)) rows) ≤ length (keep (less (take k row)) rows)
  block_fewer rows = keep_fewer (less (take i row)) (less (take k row)) (λ x h. front_less i (take k row) x (rw front h)) rows

module _ {t prev q : List ℕ} {k low : ℕ} {row : List ℕ} (ok : Listed t prev q k) (three : length row ≡ 3) (nodes : Below (size_of t) (take k row)) where
  -- the row is the first of its block
  heads_from : {i : ℕ} → ZerosFrom k low row i → Heads (size_of t) k i row
  heads_from z = record { few = ok.searchable.most; within = z.within; nodes = nodes; zeros = z.zeros }

  -- the query has no pair with the variables from i on standing for any node, and no variable at a negative place is among these
  pub block_empty : (i : ℕ) → ZerosFrom k low row i → i < k → low ≡ bound_at q (last_of q) → (b : Bool) → b ≡ satisfied_open t q k row i → b ≡ false → EmptyBlock t q k i row
  unfolding satisfied_open satisfied related
  block_empty i z l e b p f = record {
    heads = heads_from z;
    none = λ x n m h s.
        no_yes (sym p ∙ f)
        (filled (tree_of t) ok.searchable.linked.tree.sound (unfilled i k) (assigned (take k row)) (assigned x)
        (row_fills ok row three i x n m (λ j g. sym (get_or-take i x j 0 g) ∙ ap (λ (r : List ℕ). get_or r j 0) s ∙ get_or-take i row j 0 g))
        (path_at q (last_of q)) (λ j g. rw (lt-ltb j i (low_of j g))) h);
  }
    where
      low_of : (j : ℕ) → j < bound_in (path_term (path_at q (last_of q))) → j < i
      low_of j g = omega (arith, z.from l, ap bound_in (term_path q (last_of q) ok.searchable.path.sort))
