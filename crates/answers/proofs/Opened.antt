-- The query, opened: as a table it can be searched as the query can, and it has a pair under a row where it has one with the first numbers
-- of the row filled and the other variables standing for any node.
use Prim.Native.Nat.{ℕ, ◌+◌, ◌<◌, ◌≤◌}
use native.Mathlib.Decide.{dec_lt}
use native.Mathlib.Omega.{arith}
use mathlib.Core.Path.{◌≡◌, refl, sym, ◌∙◌}
use mathlib.Core.Bool.{true, false, not}
use mathlib.Core.List.{List}
use lib.Dec.{ltb}
use lib.ListN.{length, take, get_or, replicate, length-replicate, get_or-replicate, get_or-eq_default}
use lib.Seq.{length-take-le, get_or-take}
use borrow.Author.Tests.{lt-ltb, le-ltb, ltb-true}
use Rattle.model.specs.Tree.{size_of}
use Rattle.model.specs.QueryTable.{entries_of, kind, left, last_of}
use Rattle.model.specs.Kinds.{names_variable}
use Rattle.model.specs.Results.{assigned, related}
use Rattle.model.specs.Answers.{Row, satisfied}
use Rattle.model.specs.Accepted.{Below}
use Rattle.model.specs.Sharing.{unfilled, Fills}
use Rattle.model.proofs.Booleans.{no_yes, yes_right}
use Rattle.opening.specs.Opening.{Opens, opened_table}
use Rattle.opening.proofs.Opened.{opened_few, opened_last, opened_sort, opened_entries, opened_evaluable, opened_path}
use Rattle.opening.proofs.Aside.{opened_five}
use Rattle.pruning.specs.Pruning.{Named}
use Rattle.engines.specs.Engines.{Searchable}
use Rattle.answers.specs.Search.{Listed, satisfied_open}

pub is_assigned : (r : List ℕ) (j : ℕ) → assigned r j ≡ get_or r j 0
unfolding assigned
is_assigned r j = refl

module _ {t prev q : List ℕ} {k : ℕ} (ok : Listed t prev q k) where
  -- every variable that is named is one of the k
  pub named : (e : ℕ) → e < entries_of q → names_variable (kind q e) ≡ true → left q e < k
  named e l h =
      let zeros : List ℕ = replicate k 0 in
      let size : length zeros ≡ k = length-replicate {A = ℕ} k 0 in
      omega (arith, size, (ok.searchable.query zeros size (λ j m. rw (get_or-replicate {A = ℕ} k j 0 0 (omega arith)) ok.searchable.linked.tree.sound.some_node)).variable e l h)

  pub named_few : Named q
  named_few e l h = omega (arith, named e l h, ok.searchable.most)

  -- The table.

  module _ (i : ℕ) (r : List ℕ) (o : Opens q i r) where
    pub opened_searchable : Searchable t prev (opened_table q r) k
    opened_searchable =
        let within : last_of q < entries_of q = ok.searchable.path.within in
        let last : last_of (opened_table q r) ≡ 2 + last_of q = opened_last q i r ok.shaped o (omega arith) in
        let size : entries_of (opened_table q r) ≡ entries_of q + 2 = opened_entries q i r ok.shaped o in
        record {
          linked = ok.searchable.linked;
          path = rw last (record { within = omega arith; sort = opened_sort q i r ok.shaped o (last_of q) within ok.searchable.path.sort });
          least = ok.searchable.least;
          most = ok.searchable.most;
          query = λ row e b. opened_evaluable q i r ok.shaped o t row (ok.searchable.query row e b);
          few = opened_few q i r ok.shaped o;
          five = opened_five q i r ok.shaped o k named (omega arith) ok.searchable.path.sort ok.searchable.five;
        }

    pub opened_satisfied : (row : List ℕ) → satisfied t (opened_table q r) (take k row) ≡ satisfied_open t q k row i
    unfolding satisfied related satisfied_open
    opened_satisfied row =
        let last : last_of (opened_table q r) ≡ 2 + last_of q = opened_last q i r ok.shaped o (omega (arith, ok.searchable.path.within)) in
        rw (last, opened_path q i r ok.shaped o k named (last_of q) ok.searchable.path.within ok.searchable.path.sort)

  -- The rows that fill it.

  module _ (w : List ℕ) (three : length w ≡ 3) where
    pub long : length (take k w) ≡ k
    long = length-take-le k w (omega (arith, ok.searchable.most))

    -- beyond the k variables every row of k numbers has the same default
    pub beyond : (x : List ℕ) → length x ≡ k → (j : ℕ) → k ≤ j → get_or x j 0 ≡ get_or (take k w) j 0
    beyond x e j l = get_or-eq_default x 0 (omega arith) ∙ sym (get_or-eq_default (take k w) 0 (omega (arith, long)))

    -- a row of nodes that begins as the first i numbers of w is a choice for the others
    pub row_fills : (i : ℕ) (x : Row) → length x ≡ k → Below (size_of t) x → ((j : ℕ) → j < i → get_or x j 0 ≡ get_or w j 0)
        → Fills (size_of t) (unfilled i k) (assigned (take k w)) (assigned x)
    row_fills i x e b s = record {
      kept = λ j h. kept j h (dec_lt j i) (dec_lt j k);
      node = λ j h. rw (is_assigned x j) (b j (omega (arith, ltb-true j k (yes_right (not (ltb j i)) (ltb j k) h))));
    }
      where
        kept : (j : ℕ) → unfilled i k j ≡ false → Dec (j < i) → Dec (j < k) → assigned x j ≡ assigned (take k w) j
        kept j h (yes l) (yes m) = is_assigned x j ∙ s j l ∙ sym (is_assigned (take k w) j ∙ get_or-take k w j 0 m)
        kept j h (no l) (yes m) = no_yes h (rw (le-ltb j i (omega arith), lt-ltb j k m))
        kept j h d (no m) = is_assigned x j ∙ beyond x e j (omega arith) ∙ sym (is_assigned (take k w) j)
