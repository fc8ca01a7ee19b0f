-- The search for the first answer after a row or a cursor, with the evaluations that it makes.
use Prim.Native.Nat.{ℕ, ◌+◌, ◌-◌, ◌*◌, ◌<◌, ◌≤◌}
use native.Mathlib.Omega.{arith}
use mathlib.Core.Path.{◌≡◌, sym, ap, ◌∙◌}
use mathlib.Core.Bool.{Bool, true, false}
use mathlib.Core.List.{List, [], ◌∷◌}
use lib.ListN.{length, take, drop, get_or, set}
use lib.Seq.{get_or-take}
use Rattle.model.specs.Tree.{size_of}
use Rattle.model.specs.declared.Cursor.{Cursor}
use Rattle.model.specs.Answers.{less, keep, answers}
use Rattle.model.specs.Pages.{has_begun}
use Rattle.std.specs.Prelude.{Option, Some, None}
use Rattle.answers.specs.Search.{row_at, ahead}
use Rattle.quick.specs.declared.Found.{Found}
use Rattle.quick.specs.Effort.{climbed, sought_first}
use Rattle.quick.specs.Search.{Ready, Nodes, goes_on, some_answer, Lowest, Tries, Begins, FirstFrom, Sought, SoughtAfter, no_answer}
use Rattle.answers.proofs.Opened.{long}
use Rattle.quick.proofs.Opened.{few}
use Rattle.quick.proofs.Search.{Climbing, climbing_start, climbing_on, climbing_begins, climbing_nodes, climbing_found, climbing_done, counted_down, found_same, found_higher, first_ahead, none_ahead, levels_down, levels_few}
use Rattle.quick.proofs.Effort.{climbed_start, climbed_on, climbed_found, sought_found, sought_none}

-- the variables from i on have no higher number that goes on, and e evaluations told so
pub record Seeking (t q : List ℕ) (k : ℕ) (row : List ℕ) (i e : ℕ) : Type 0 where
  pub climbing : Climbing t q k row i
  pub most : e ≤ (k - i) * size_of t
  pub spent : e ≡ climbed (size_of t) (drop i (take k row))

module _ {t prev q : List ℕ} {k : ℕ} (ok : Ready t prev q k) (row : List ℕ) (three : length row ≡ 3) where
  pub seeking_start : Seeking t q k row k 0
  seeking_start = record { climbing = climbing_start ok row three; most = omega arith; spent = climbed_start (size_of t) k (take k row) (long ok.listed row three) }

  -- a turn, which counts i down and reads the number m there
  module _ (i e : ℕ) (now : Seeking t q k row i e) (p : 0 < i) (m : ℕ) (here : m ≡ get_or row (i - 1) 0) where
    down : Climbing t q k row (i - 1 + 1)
    down = counted_down now.climbing p

    reads : m ≡ get_or (take k row) (i - 1) 0
    reads = here ∙ sym (get_or-take k row (i - 1) 0 (omega (arith, now.climbing.within)))

    pub seeking_few : e ≤ 3 * size_of t
    seeking_few = omega (arith, now.most, levels_few i k (size_of t) (few ok))

    -- v is the lowest number above that goes on, and e₁ evaluations told so
    module _ (nodes : Nodes (size_of t) k row) (v e₁ : ℕ) (w : Lowest (goes_on t q k row (i - 1)) (m + 1) (size_of t) v) (most : e₁ ≤ e + size_of t) (tried : Tries (m + 1) (size_of t) v e e₁) where
      node : m < size_of t
      node = omega (arith, nodes (i - 1) (omega (arith, now.climbing.within)))

      pub seeking_on : size_of t ≤ v → Seeking t q k row (i - 1) e₁
      seeking_on h =
          record {
            climbing = climbing_on ok row three (i - 1) m down here v w h;
            most = omega (arith, now.most, levels_down k i (size_of t) p now.climbing.within);
            spent = climbed_on (size_of t) i m e (take k row) now.spent p (omega (arith, long ok.listed row three, now.climbing.within)) reads e₁ node (tried.1 h);
          }

      module _ (h : v < size_of t) where
        pub seeking_begins : Begins t q k (i - 1 + 1) (set row (i - 1) v)
        seeking_begins = climbing_begins ok row three (i - 1) m down here v w nodes h

        pub seeking_nodes : Nodes (size_of t) k (set row (i - 1) v)
        seeking_nodes = climbing_nodes ok row three (i - 1) m down here v w nodes h

        pub seeking_found : (r : Found) → FirstFrom t q k (i - 1 + 1) (set row (i - 1) v) e₁ r → Sought t q k row r
        seeking_found r = go r.spot
          where
            go : (o : Option (List ℕ)) → FirstFrom t q k (i - 1 + 1) (set row (i - 1) v) e₁ (record { spot = o; evaluations = r.evaluations }) → Sought t q k row (record { spot = o; evaluations = r.evaluations })
            go None h = absurd h
            go (Some s) (f, (l, d)) =
                let a : ahead k (answers t q k) (Some s) ≡ keep (less (take k row)) (answers t q k) = climbing_found ok row three (i - 1) m down here v w s f in (
                  a,
                  (
                    omega (arith, now.most, levels_down k i (size_of t) p now.climbing.within, levels_few (i - 1) k (size_of t) (few ok)),
                    sought_found (size_of t) r.evaluations (take k row) (row_at k s) (keep (less (row_at k s)) (answers t q k)) (keep (less (take k row)) (answers t q k))
                        (climbed_found (size_of t) i m e (take k row) now.spent p (omega (arith, long ok.listed row three, now.climbing.within)) reads v e₁ r.evaluations (row_at k s) (omega (arith, w.low)) (tried.0 h) d
                        (f.answer.0 ∙ sym (long ok.listed row three)) (found_same ok row three (i - 1) m down here v w s f) (found_higher ok row three (i - 1) m down here v w s f)) a,
                  ),
                )

  -- all variables are done
  pub seeking_none : (i e : ℕ) → Seeking t q k row i e → i ≤ 0 → (f : Found) → f ≡ no_answer e → Sought t q k row f
  seeking_none i e now l f p =
      let a : [] ≡ keep (less (take k row)) (answers t q k) = climbing_done ok row three i now.climbing l in
      rw p (a, (omega (arith, now.most, levels_few i k (size_of t) (few ok)), sought_none (size_of t) e i (take k row) (keep (less (take k row)) (answers t q k)) now.spent l a))

-- The first answer after a cursor.

module _ {t prev q : List ℕ} {k : ℕ} (ok : Ready t prev q k) (c : Cursor) where
  pub first_begun : (r : Found) → Sought t q k (c.first ∷ c.second ∷ c.third ∷ []) r → has_begun c ≡ true → SoughtAfter t q k c r
  first_begun r w b = rw b w

  module _ (fresh : has_begun c ≡ false) where
    pub first_filled : (r : Found) → FirstFrom t q k 0 (0 ∷ 0 ∷ 0 ∷ []) 1 r → SoughtAfter t q k c r
    first_filled r = go r.spot
      where
        go : (o : Option (List ℕ)) → FirstFrom t q k 0 (0 ∷ 0 ∷ 0 ∷ []) 1 (record { spot = o; evaluations = r.evaluations }) → SoughtAfter t q k c (record { spot = o; evaluations = r.evaluations })
        go None h = absurd h
        go (Some s) (f, (l, d)) =
            let a : ahead k (answers t q k) (Some s) ≡ answers t q k = first_ahead ok (0 ∷ 0 ∷ 0 ∷ []) s f in
            rw fresh (a, (omega (arith, ok.listed.searchable.linked.tree.sound.some_node), d ∙ ap sought_first a))

    pub first_none : (b : Bool) → b ≡ some_answer t q k → b ≡ false → (f : Found) → f ≡ no_answer 1 → SoughtAfter t q k c f
    first_none b p h f e =
        let a : [] ≡ answers t q k = none_ahead ok b p h in
        rw (e, fresh) (a, (omega (arith, ok.listed.searchable.linked.tree.sound.some_node), ap sought_first a))
