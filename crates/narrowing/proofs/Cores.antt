-- What is left of a query, from one entry to an operand of it.
use Prim.Native.Nat.{ℕ, ◌≤◌, ◌<◌}
use native.Mathlib.Omega.{arith}
use mathlib.Core.Path.{◌≡◌, refl, ap, ◌∙◌}
use mathlib.Core.Bool.{Bool, true, false}
use mathlib.Core.List.{List, []}
use lib.ListN.{length, replicate, length-replicate, get_or-replicate}
use Rattle.model.specs.Sets.{any, tab, memb, upto}
use Rattle.model.specs.Tree.{size_of}
use Rattle.model.specs.QueryTable.{entries_of, kind, left, right, last_of}
use Rattle.model.specs.Kinds.{is_path, left_path, left_expr, right_path, right_expr}
use Rattle.model.specs.Answers.{Row}
use Rattle.model.specs.Accepted.{Below, Formed}
use Rattle.model.proofs.Booleans.{or_left, or_right, no_yes}
use Rattle.model.proofs.Bytes.{length_tab}
use Rattle.sets.specs.NodeSets.{always, combination}
use Rattle.eval.specs.Evaluation.{Ready, reached}
use Rattle.model.proofs.KindTests.{path_on_left, path_on_right}
use Rattle.eval.proofs.Calls.{root_on_left}
use Rattle.aside.specs.Aside.{aside_at}
use Rattle.aside.proofs.Entries.{aside_left, aside_right}
use Rattle.pruning.specs.Pruning.{reach_at}
use Rattle.engines.specs.Engines.{Searchable}
use Rattle.narrowing.specs.Narrowing.{between, Core, Decided, AlwaysReached, AlwaysPassed}
use Rattle.narrowing.proofs.Between.{off_none, off_whole, off_left, off_right, off_filter, off_root}

-- sets that are made have 256 bytes

tab_size : (S : ℕ → Bool) (m : List ℕ) → m ≡ tab 256 S → length m ≡ 256
tab_size S m p = ap (λ (z : List ℕ). length z) p ∙ length_tab 256 S

reached_size : (t q : List ℕ) (e : ℕ) (back : Bool) (s m : List ℕ) → AlwaysReached t q e back s m → length m ≡ 256
unfolding reached
reached_size t q e back s m p = tab_size _ m (p [])

module _ {t v q : List ℕ} {k : ℕ} (ok : Searchable t v q k) where
  pub ready_at : (row : Row) → length row ≡ k → Below (size_of t) row → Ready t v q row
  ready_at row l b = record { linked = ok.linked; query = ok.query row l b }

  -- there is a row: node 0 for each variable
  pub zeros_below : Below (size_of t) (replicate k 0)
  zeros_below i l = rw (get_or-replicate {A = ℕ} k i 0 0 (let h : i < k = omega (arith, length-replicate {A = ℕ} k 0) in h)) ok.linked.tree.sound.some_node

  pub searched_formed : Formed q
  searched_formed = (ok.query (replicate k 0) (length-replicate k 0) zeros_below).formed

  -- all of the query
  pub core_start : (all : List ℕ) → all ≡ tab 256 (upto (size_of t) (always true)) → Core t q k (last_of q) false all all
  core_start all p = record {
    holds = λ row l b. off_none t q row all ok.linked.tree.sound.at_most ok.path.within p;
    within = let w : last_of q < entries_of q = ok.path.within in omega arith;
    path = λ l. ok.path.sort;
    five = λ l. ok.five;
    uncut = λ h. p;
    from_size = tab_size _ all p;
    to_size = tab_size _ all p;
  }

-- x is an operand of entry e: an earlier entry, a path where the flag is set, else a node expression, that keeps no more tables aside
pub record Inner (q : List ℕ) (e x : ℕ) (path : Bool) : Type 0 where
  pub lower : x < e
  pub sort : is_path (kind q x) ≡ path
  pub aside : aside_at q x ≤ aside_at q e

module _ {q : List ℕ} {e : ℕ} (ok : Formed q) (em : e < entries_of q) where
  pub inner_left : left_path (kind q e) ≡ true → Inner q e (left q e) true
  inner_left h = let w = ok.left_path_lem e em h in record { lower = w.0; sort = w.1; aside = aside_left q ok e em (or_left (left_path (kind q e)) (left_expr (kind q e)) h) }

  pub inner_right : right_path (kind q e) ≡ true → Inner q e (right q e) true
  inner_right h = let w = ok.right_path_lem e em h in record { lower = w.0; sort = w.1; aside = aside_right q ok e em (or_left (right_path (kind q e)) (right_expr (kind q e)) h) }

  pub inner_test : right_expr (kind q e) ≡ true → Inner q e (right q e) false
  inner_test h = let w = ok.right_expr_lem e em h in record { lower = w.0; sort = w.1; aside = aside_right q ok e em (or_right (right_path (kind q e)) (right_expr (kind q e)) h) }

module _ {t v q : List ℕ} {k e : ℕ} {cut : Bool} {from to : List ℕ} (ok : Searchable t v q k) (c : Core t q k e cut from to) (em : e < entries_of q) where
  -- what no variable decides

  pub decided_whole : reach_at q e ≡ 0 → Decided t v q k e true
  decided_whole z = record { searchable = ok; kinds = record { within = em; sort = c.path em }; five = c.five em; fixed = z }

  pub decided_inner : {x : ℕ} {path : Bool} → Inner q e x path → reach_at q x ≡ 0 → Decided t v q k x path
  decided_inner i z = record {
    searchable = ok;
    kinds = record { within = omega (arith, i.lower); sort = i.sort };
    five = omega (arith, i.aside, c.five em);
    fixed = z;
  }

  -- nothing is left
  pub core_whole : {m : List ℕ} → AlwaysReached t q e false from m → Core t q k (entries_of q) cut m to
  core_whole {m = m} p = record {
    holds = λ row l b. c.holds row l b ∙ off_whole (ready_at ok row l b) from to e em m (p row);
    within = omega arith;
    path = λ l. absurd (omega arith);
    five = λ l. absurd (omega arith);
    uncut = c.uncut;
    from_size = reached_size t q e false from m p;
    to_size = c.to_size;
  }

  -- an operand is left
  core_inner : {x : ℕ} {d : Bool} {s u : List ℕ} → Inner q e x true → (d ≡ false → u ≡ tab 256 (upto (size_of t) (always true))) → length s ≡ 256 → length u ≡ 256
      → ((row : Row) → Ready t v q row → x < entries_of q → between t q row e from to ≡ between t q row x s u) → Core t q k x d s u
  core_inner i a sl ul f = record {
    holds = λ row l b. c.holds row l b ∙ f row (ready_at ok row l b) (omega (arith, i.lower));
    within = omega (arith, i.lower);
    path = λ l. i.sort;
    five = λ l. omega (arith, i.aside, c.five em);
    uncut = a;
    from_size = sl;
    to_size = ul;
  }

  pub core_left : {m : List ℕ} → AlwaysReached t q (left q e) false from m → kind q e ≡ 1 → Core t q k (right q e) cut m to
  core_left {m = m} p h =
      core_inner (inner_right (searched_formed ok) em (path_on_right (omega arith) (omega arith))) c.uncut (reached_size t q (left q e) false from m p) c.to_size
      (λ row w l. off_left w from to e em m (p row) h l)

  pub core_right : {m : List ℕ} → AlwaysReached t q (right q e) true to m → kind q e ≡ 1 → Core t q k (left q e) true from m
  core_right {m = m} p h =
      core_inner (inner_left (searched_formed ok) em (path_on_left (omega arith) (omega arith))) (λ z. no_yes z refl) c.from_size (reached_size t q (right q e) true to m p)
      (λ row w l. off_right w from to e em m (p row) h l)

  pub core_filter : {m s : List ℕ} → m ≡ tab 256 (combination 1 to s) → AlwaysPassed t q (right q e) s → kind q e ≡ 5 → Core t q k (left q e) true from m
  core_filter {m = m} {s = s} p a h =
      core_inner (inner_left (searched_formed ok) em (path_on_left (omega arith) (omega arith))) (λ z. no_yes z refl) c.from_size (tab_size _ m p)
      (λ row w l. off_filter w from to e em m s p (a row) h l)

  pub core_root : {m : List ℕ} {b : Bool} → m ≡ tab 256 (upto 1 (always b)) → b ≡ any (size_of t) (memb from) → kind q e ≡ 7 → Core t q k (left q e) cut m to
  core_root {m = m} {b = b} p a h =
      let i : Inner q e (left q e) true = inner_left (searched_formed ok) em (root_on_left h) in
      core_inner i c.uncut (tab_size _ m p) c.to_size (λ row w l. off_root w from to e em m b p a h i.lower)
