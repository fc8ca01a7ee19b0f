-- The query, opened: it has a pair under a row exactly if some answer begins as the numbers of the row that are filled.
use Prim.Native.Nat.{ℕ, zero, suc, ◌+◌, ◌<◌, ◌≤◌}
use native.Mathlib.Nat.{le_of_suc-le-suc}
use native.Mathlib.Decide.{dec_lt}
use native.Mathlib.Omega.{arith}
use mathlib.Core.Path.{◌≡◌, refl, sym, ap, ◌∙◌, subst, fun_ext}
use mathlib.Core.Bool.{Bool, true, false, not}
use mathlib.Core.List.{List, [], ◌∷◌}
use lib.Dec.{ltb}
use lib.ListN.{length, take, get_or, set}
use lib.Seq.{get_or-take}
use borrow.Author.Tests.{lt-ltb, ltb-true}
use Rattle.model.specs.Tree.{tree_of, size_of}
use Rattle.model.specs.QueryTable.{path_at, last_of}
use Rattle.model.specs.Results.{assigned, related}
use Rattle.model.specs.Answers.{Row, satisfied}
use Rattle.model.specs.Accepted.{Sound}
use Rattle.model.specs.Sharing.{unfilled, has_pair, Fills}
use Rattle.model.proofs.Booleans.{Seen, yes!, no!, seen, not_yes, yes_right}
use Rattle.model.proofs.Exactness.{exact}
use Rattle.model.proofs.Sharing.{opened_none}
use Rattle.opening.specs.Opening.{Opens, opened_table}
use Rattle.answers.specs.Search.{satisfied_open}
use Rattle.answers.proofs.Opened.{is_assigned, opened_satisfied, beyond, row_fills}
use Rattle.quick.specs.Search.{Ready, Answer, Nodes, Same, passes, goes_on, Lowest, Begins}

-- the row of an assignment, for k variables
abbrev row_from : ℕ → (ℕ → ℕ) → Row
row_from zero g = []
row_from (suc k) g = g 0 ∷ row_from k (λ j. g (suc j))

row_long : (k : ℕ) (g : ℕ → ℕ) → length (row_from k g) ≡ k
row_long zero g = refl
row_long (suc k) g = ap suc (row_long k (λ j. g (suc j)))

row_at : (k : ℕ) (g : ℕ → ℕ) (j : ℕ) → j < k → get_or (row_from k g) j 0 ≡ g j
row_at zero g j l = absurd (omega arith)
row_at (suc k) g zero l = refl
row_at (suc k) g (suc j) l = row_at k (λ j. g (suc j)) j (le_of_suc-le-suc l)

module _ {t prev q : List ℕ} {k : ℕ} (ok : Ready t prev q k) where
  sound : Sound (tree_of t)
  sound = ok.listed.searchable.linked.tree.sound

  pub few : k ≤ 3
  few = ok.listed.searchable.most

  -- where the variables behind i stand for any node
  pub opened_passes : (i : ℕ) (r row : List ℕ) → Opens q (i + 1) r → passes t (opened_table q r) k row i ≡ goes_on t q k row i
  unfolding passes goes_on
  opened_passes i r row o = fun_ext (λ v. opened_satisfied ok.listed (i + 1) r o (set row i v))

  -- The meaning.

  filled_few : (i j : ℕ) → unfilled i k j ≡ true → j < 3
  filled_few i j h = omega (arith, ltb-true j k (yes_right (not (ltb j i)) (ltb j k) h), few)

  -- a variable below i is filled
  is_filled : (i j : ℕ) → j < i → unfilled i k j ≡ false
  is_filled i j l = rw (lt-ltb j i l)

  -- nothing from k on is a variable
  no_variable : (i j : ℕ) → k ≤ j → unfilled i k j ≡ false
  no_variable i j l = not_yes (unfilled i k j) (λ h. omega (arith, ltb-true j k (yes_right (not (ltb j i)) (ltb j k) h)))

  module _ (w : List ℕ) (three : length w ≡ 3) (i : ℕ) where
    -- an answer that begins as the row
    pub found : (x : Row) → Answer t q k x → Same i x w → satisfied_open t q k w i ≡ true
    unfolding satisfied_open satisfied related
    found x a s =
        (exact (tree_of t) sound (unfilled i k) (filled_few i) (assigned (take k w)) (path_at q (last_of q)) ok.rule).1
        (assigned x, row_fills ok.listed w three i x a.0 a.1 s, a.2)

    -- where the opened query has a pair, some answer begins as the row
    pub hit : i ≤ k → Nodes (size_of t) k w → satisfied_open t q k w i ≡ true → Begins t q k i w
    unfolding satisfied_open satisfied related
    hit within nodes h =
        let (g, f, c) = (exact (tree_of t) sound (unfilled i k) (filled_few i) (assigned (take k w)) (path_at q (last_of q)) ok.rule).0 h in
        record {
          one = row_from k g;
          answer = (row_long k g, λ j l. below g f j (omega (arith, row_long k g)), subst (λ (a : ℕ → ℕ). has_pair (tree_of t) a (path_at q (last_of q)) ≡ true) (sym (same g f)) c);
          same = λ j l. row_at k g j (omega arith) ∙ f.kept j (is_filled i j l) ∙ is_assigned (take k w) j ∙ get_or-take k w j 0 (omega arith);
        }
      where
        go : (g : ℕ → ℕ) → Fills (size_of t) (unfilled i k) (assigned (take k w)) g → (j : ℕ) → Dec (j < k) → assigned (row_from k g) j ≡ g j
        go g f j (yes l) = is_assigned (row_from k g) j ∙ row_at k g j l
        go g f j (no l) = is_assigned (row_from k g) j ∙ beyond ok.listed w three (row_from k g) (row_long k g) j (omega arith) ∙ sym (f.kept j (no_variable i j (omega arith)) ∙ is_assigned (take k w) j)

        same : (g : ℕ → ℕ) → Fills (size_of t) (unfilled i k) (assigned (take k w)) g → assigned (row_from k g) ≡ g
        same g f = fun_ext (λ j. go g f j (dec_lt j k))

        below : (g : ℕ → ℕ) → Fills (size_of t) (unfilled i k) (assigned (take k w)) g → (j : ℕ) → j < k → get_or (row_from k g) j 0 < size_of t
        below g f j l = rw (row_at k g j l) (at (seen (unfilled i k j)))
          where
            at : Seen (unfilled i k j) → g j < size_of t
            at (yes! p) = f.node j p
            at (no! p) = rw (f.kept j p ∙ is_assigned (take k w) j ∙ get_or-take k w j 0 l) (nodes j l)

  -- behind the last variable nothing is opened
  last_passes : (i : ℕ) (row : List ℕ) → i + 1 ≡ k → passes t q k row i ≡ goes_on t q k row i
  unfolding passes goes_on satisfied_open satisfied related
  last_passes i row e = fun_ext (λ v. rw (opened_none (unfilled (i + 1) k) (path_at q (last_of q)) (λ j c. closed j (dec_lt j k))))
    where
      closed : (j : ℕ) → Dec (j < k) → unfilled (i + 1) k j ≡ false
      closed j (yes l) = is_filled (i + 1) j (omega arith)
      closed j (no l) = no_variable (i + 1) j (omega arith)

  pub lowest_last : (i : ℕ) (row : List ℕ) → i + 1 ≡ k → (from n v : ℕ) → Lowest (passes t q k row i) from n v → Lowest (goes_on t q k row i) from n v
  lowest_last i row e from n v w = subst (λ (f : ℕ → Bool). Lowest f from n v) (last_passes i row e) w

  -- what is lowest for the table is lowest for the query
  pub lowest_opened : (i : ℕ) (r row : List ℕ) → Opens q (i + 1) r → (from n v : ℕ) → Lowest (passes t (opened_table q r) k row i) from n v → Lowest (goes_on t q k row i) from n v
  lowest_opened i r row o from n v w = subst (λ (f : ℕ → Bool). Lowest f from n v) (opened_passes i r row o) w
