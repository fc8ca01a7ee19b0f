-- One turn inwards, as the code makes it: from an entry that it has read.
use Prim.Native.Nat.{ℕ, ◌<◌, ◌≤◌}
use native.Mathlib.Omega.{arith}
use mathlib.Core.Path.{◌≡◌, sym, ◌∙◌}
use mathlib.Core.Bool.{Bool, true, false}
use mathlib.Core.List.{List}
use lib.Dec.{eqb}
use borrow.Author.Tests.{eqb-true}
use Rattle.std.specs.Prelude.{Some, None}
use Rattle.model.specs.declared.Entry.{Entry}
use Rattle.model.specs.Sets.{any, tab, memb, upto}
use Rattle.model.specs.Tree.{size_of}
use Rattle.model.specs.QueryTable.{entries_of, kind, left, right, entry, last_of}
use Rattle.sets.specs.NodeSets.{always, combination}
use Rattle.model.proofs.KindTests.{path_on_left, path_on_right}
use Rattle.eval.proofs.Calls.{filter_on_right, root_on_left}
use Rattle.aside.specs.Aside.{NumbersTo}
use Rattle.pruning.specs.Pruning.{reach_at}
use Rattle.engines.specs.Engines.{Searchable}
use Rattle.narrowing.specs.declared.Narrowed.{Narrowed}
use Rattle.narrowing.specs.Narrowing.{Core, CoreOf, Left, Going, Inward, Decided, AlwaysReached, AlwaysPassed}
use Rattle.narrowing.proofs.Cores.{searched_formed, core_start, Inner, inner_left, inner_right, inner_test, decided_whole, decided_inner, core_whole, core_left, core_right, core_filter, core_root}

-- all of the query is left
pub core_of_start : {t v q : List ℕ} {k : ℕ} (all : List ℕ) → all ≡ tab 256 (upto (size_of t) (always true)) → Searchable t v q k → CoreOf t q k (record { entry = Some (last_of q); cut = false; from = all; to = all })
core_of_start all p ok = (core_start ok all p, ok.path.within)

pub left_start : {t v q : List ℕ} {k : ℕ} (all : List ℕ) → all ≡ tab 256 (upto (size_of t) (always true)) → Searchable t v q k → Left t v q k (last_of q) (record { entry = Some (last_of q); cut = false; from = all; to = all })
left_start all p ok = record { searchable = ok; core = core_start ok all p; some = ok.path.within }

module _ {t v q : List ℕ} {k e : ℕ} {at : Narrowed} (g : Left t v q k e at) where
  -- nothing is left

  pub turn_decided : reach_at q e ≡ 0 → Decided t v q k e true
  turn_decided z = decided_whole g.searchable g.core g.some z

  pub turn_whole : (m : List ℕ) → AlwaysReached t q e false at.from m → CoreOf t q k (record { entry = None; cut = at.cut; from = m; to = at.to })
  turn_whole m p = (core_whole g.searchable g.core g.some p, tt)

  -- a lower entry is left
  lowered : {x : ℕ} {path cut : Bool} {from to : List ℕ} → Inner q e x path → Core t q k x cut from to → Inward t q k e (Some (record { entry = Some x; cut = cut; from = from; to = to }))
  lowered i c = ((c, omega (arith, i.lower, g.some)), i.lower)

  pub turn_root : {f : Entry} (m : List ℕ) (b : Bool) → f ≡ entry q e → m ≡ tab 256 (upto 1 (always b)) → b ≡ any (size_of t) (memb at.from) → kind q e ≡ 7
      → Inward t q k e (Some (record { entry = Some f.left; cut = at.cut; from = m; to = at.to }))
  turn_root m b fe p a h = rw fe (lowered (inner_left (searched_formed g.searchable) g.some (root_on_left h)) (core_root g.searchable g.core g.some p a h))

module _ {t v q reaches : List ℕ} {k e : ℕ} {at : Narrowed} (g : Going t v q k reaches e at) where
  inner_decided : (x : ℕ) {path : Bool} → Inner q e x path → eqb (reach_at q x) 0 ≡ true → Decided t v q k x path
  inner_decided x i z = decided_inner g.left.searchable g.left.core g.left.some i (eqb-true _ _ z)

  -- an operand is one of the entries
  inner_asked : (x : ℕ) {path : Bool} → Inner q e x path → NumbersTo (reach_at q) (entries_of q) reaches × ((x < entries_of q) × (entries_of q ≤ 66))
  inner_asked x i = (g.variables, (omega (arith, i.lower, g.left.some), g.left.searchable.few))

  module _ {f : Entry} (fe : f ≡ entry q e) where
    module _ (h : kind q e ≡ 1) where
      on_left_lem : Inner q e (left q e) true
      on_left_lem = inner_left (searched_formed g.left.searchable) g.left.some (path_on_left (omega arith) (omega arith))

      on_right_lem : Inner q e (right q e) true
      on_right_lem = inner_right (searched_formed g.left.searchable) g.left.some (path_on_right (omega arith) (omega arith))

      pub left_asked : NumbersTo (reach_at q) (entries_of q) reaches × ((f.left < entries_of q) × (entries_of q ≤ 66))
      left_asked = rw fe (inner_asked (left q e) on_left_lem)

      pub right_asked : NumbersTo (reach_at q) (entries_of q) reaches × ((f.right < entries_of q) × (entries_of q ≤ 66))
      right_asked = rw fe (inner_asked (right q e) on_right_lem)

      pub left_decided : {b : Bool} → b ≡ eqb (reach_at q f.left) 0 → b ≡ true → Decided t v q k f.left true
      left_decided p z = rw fe (inner_decided (left q e) on_left_lem (rw fe at (sym p ∙ z)))

      pub right_decided : {b : Bool} → b ≡ eqb (reach_at q f.right) 0 → b ≡ true → Decided t v q k f.right true
      right_decided p z = rw fe (inner_decided (right q e) on_right_lem (rw fe at (sym p ∙ z)))

      pub turn_left : (m : List ℕ) → AlwaysReached t q f.left false at.from m → Inward t q k e (Some (record { entry = Some f.right; cut = at.cut; from = m; to = at.to }))
      turn_left m p = rw fe (lowered g.left on_right_lem (core_left g.left.searchable g.left.core g.left.some (rw fe at p) h))

      pub turn_right : (m : List ℕ) → AlwaysReached t q f.right true at.to m → Inward t q k e (Some (record { entry = Some f.left; cut = true; from = at.from; to = m }))
      turn_right m p = rw fe (lowered g.left on_left_lem (core_right g.left.searchable g.left.core g.left.some (rw fe at p) h))

    module _ (h : kind q e ≡ 5) where
      on_path_lem : Inner q e (left q e) true
      on_path_lem = inner_left (searched_formed g.left.searchable) g.left.some (path_on_left (omega arith) (omega arith))

      on_test : Inner q e (right q e) false
      on_test = inner_test (searched_formed g.left.searchable) g.left.some (filter_on_right h)

      pub test_asked : NumbersTo (reach_at q) (entries_of q) reaches × ((f.right < entries_of q) × (entries_of q ≤ 66))
      test_asked = rw fe (inner_asked (right q e) on_test)

      pub test_decided : {b : Bool} → b ≡ eqb (reach_at q f.right) 0 → b ≡ true → Decided t v q k f.right false
      test_decided p z = rw fe (inner_decided (right q e) on_test (rw fe at (sym p ∙ z)))

      pub turn_filter : (m s : List ℕ) → m ≡ tab 256 (combination 1 at.to s) → AlwaysPassed t q f.right s → Inward t q k e (Some (record { entry = Some f.left; cut = true; from = at.from; to = m }))
      turn_filter m s p a = rw fe (lowered g.left on_path_lem (core_filter g.left.searchable g.left.core g.left.some p (rw fe at a) h))
