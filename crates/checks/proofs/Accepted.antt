-- What an accepted evaluation call gives, from its verdict.
use Prim.Native.Nat.{ℕ, ◌*◌, ◌<◌, ◌≤◌}
use native.Mathlib.Omega.{arith}
use mathlib.Core.Path.{◌≡◌, refl}
use mathlib.Core.List.{List, ◌++◌}
use lib.ListN.{length, get_or}
use lib.Dec.{ltb, eqb}
use borrow.Author.Tests.{ltb-true, ltb-false, eqb-true, not-false}
use Rattle.model.specs.declared.Reply.{Reply}
use Rattle.model.specs.Tree.{size_of}
use Rattle.model.specs.QueryTable.{entries_of}
use Rattle.model.specs.Refusals.{Check, verdict}
use Rattle.model.specs.Checks.{tree_checks, query_checks, bad_node, node_checks, set_checks, room_checks, table_checks, image_checks, pairs_checks}
use Rattle.checks.specs.Tables.{Tables}
use Rattle.model.proofs.Exists.{none_of}
use Rattle.model.proofs.Refusals.{Passes, numbered, accepted, all_pass, Passes-front}
use Rattle.checks.proofs.Verdicts.{zero_of, tables_numbered}
use Rattle.model.proofs.Accepted.{tree_ordered, entries_some, last_path, query_shaped, query_once, query_evaluable, tree_numbered, query_numbered}

module _ (t q nodes : List ℕ) (columns : ℕ) where
  tables_of : Passes (tree_checks t) → Passes (query_checks q 0 columns) → Passes (node_checks t columns nodes) → Tables t q nodes
  unfolding node_checks Passes
  tables_of a b c = record {
    tree = tree_ordered t a;
    query = query_evaluable q 0 columns b t nodes (eqb-true (length nodes) columns (not-false (eqb (length nodes) columns) c.0))
        (λ k l. ltb-true (get_or nodes k 0) (size_of t) (not-false (ltb (get_or nodes k 0) (size_of t)) (none_of (length nodes) (bad_node t nodes) k c.1.0 l)));
    last = let w : 0 < entries_of q = entries_some q 0 columns b in omega arith;
    path = last_path q 0 columns b;
    shaped = query_shaped q 0 columns b;
    once = query_once q 0 columns b;
  }

  tables_accepted : (verdict (table_checks t q columns nodes)).number ≡ 0 → Tables t q nodes
  unfolding table_checks node_checks numbered
  tables_accepted h =
      let v = Passes-front (tree_checks t) (query_checks q 0 columns ++ node_checks t columns nodes) (tree_numbered t) h in
      let w = Passes-front (query_checks q 0 columns) (node_checks t columns nodes) (query_numbered q 0 columns) v.1 in
      tables_of v.0 w.0 (accepted (node_checks t columns nodes) refl w.1)

  -- tables that are followed by other checks
  pub front : (b : List Check) → (verdict (table_checks t q columns nodes ++ b)).number ≡ 0 → Tables t q nodes × ((verdict b).number ≡ 0)
  front b h =
      let v = Passes-front (table_checks t q columns nodes) b (tables_numbered t q columns nodes) h in
      (tables_accepted (all_pass (table_checks t q columns nodes) v.0), v.1)

  pub image_accepted : (from : List ℕ) (room : ℕ) (r : Reply) → r ≡ verdict (image_checks t q columns nodes from room) → r.number ≡ 0
      → Tables t q nodes × ((length from ≡ size_of t) × (size_of t ≤ room))
  unfolding image_checks set_checks room_checks Passes numbered
  image_accepted from room r p z =
      let h = front (set_checks t from ++ room_checks room (size_of t)) (zero_of (image_checks t q columns nodes from room) r p z) in
      let w = accepted (set_checks t from ++ room_checks room (size_of t)) refl h.1 in
      (h.0, (eqb-true (length from) (size_of t) (not-false (eqb (length from) (size_of t)) w.0), ltb-false room (size_of t) w.1.1.0))

  pub pairs_accepted : (room : ℕ) (r : Reply) → r ≡ verdict (pairs_checks t q columns nodes room) → r.number ≡ 0 → Tables t q nodes × (size_of t * size_of t ≤ room)
  unfolding pairs_checks room_checks Passes numbered
  pairs_accepted room r p z =
      let h = front (room_checks room (size_of t * size_of t)) (zero_of (pairs_checks t q columns nodes room) r p z) in
      let w = accepted (room_checks room (size_of t * size_of t)) refl h.1 in
      (h.0, ltb-false room (size_of t * size_of t) w.0)
