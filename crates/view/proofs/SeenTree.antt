-- Laws of the tree that a party sees: it is that part of the shared tree, and an accepted tree table.
use Prim.Native.Nat.{ℕ, zero, suc, ◌*◌, ◌/◌, ◌%◌, ◌≤◌, ◌<◌}
use native.Mathlib.Numerals.{sub-one}
use native.Mathlib.Omega.{arith}
use mathlib.Core.Path.{◌≡◌, sym, ◌∙◌}
use mathlib.Core.Bool.{Bool, false, not, ◌||◌}
use mathlib.Core.List.{List}
use lib.ListN.{length}
use lib.Dec.{ltb, eqb, eqb-suc-zero}
use borrow.Author.Tests.{lt-ltb, le-ltb, eq-eqb, ne_eqb}
use Rattle.model.specs.Sets.{any}
use Rattle.model.specs.Tree.{Tree, tree_of}
use Rattle.model.specs.Checks.{bad_parent, bad_tag, tree_checks_at, tree_checks}
use Rattle.model.specs.Parties.{shared_tree, shared_checks, sees, rank, seen_table, PartOf}
use Rattle.model.specs.Accepted.{Ordered}
use Rattle.model.proofs.Booleans.{no_yes, not_yes}
use Rattle.model.proofs.Exists.{any_elim, none_of}
use Rattle.model.proofs.Refusals.{Passes}
use Rattle.model.proofs.Parties.{shared_parts, shared_ordered, root_seen, parent_seen}
use Rattle.view.proofs.Part.{part_length, part_ordered, part_of}

-- a tree in document order whose node 0 has no parent breaks no rule

none_at : (n : ℕ) (f : ℕ → Bool) → ((x : ℕ) → x < n → f x ≡ false) → any n f ≡ false
none_at n f h = not_yes (any n f) (λ p. let (x, l, q) = any_elim n f p in no_yes (h x l) q)

ordered_passes : (t : Tree) → Ordered t → t.parent 0 ≡ 65535 → any t.size (bad_parent t) ≡ false
unfolding bad_parent
ordered_passes t o e = none_at t.size (bad_parent t) at
  where
    at : (x : ℕ) → x < t.size → bad_parent t x ≡ false
    at zero l = rw e
    at (suc x) l = rw (eqb-suc-zero x, sub-one (suc x), o.rule x l)

module _ (t : List ℕ) (party : ℕ) (w : Passes (shared_checks t)) where
  -- for the reader: the tree that a party sees is the part of the shared tree that it sees
  pub seen_part : PartOf (shared_tree t) (sees t party) (tree_of (seen_table t party))
  unfolding seen_table
  seen_part = part_of (shared_tree t) (shared_ordered t party w) (sees t party) (root_seen t party w) (parent_seen t party w)

  pub seen_length : length (seen_table t party) ≡ 2 * rank (sees t party) (length t / 3)
  unfolding seen_table
  seen_length = part_length (shared_tree t) (shared_ordered t party w) (sees t party) (root_seen t party w) (parent_seen t party w)

  seen_ordered : Ordered (tree_of (seen_table t party))
  unfolding seen_table
  seen_ordered = part_ordered (shared_tree t) (shared_ordered t party w) (sees t party) (root_seen t party w) (parent_seen t party w)

  -- a node of the tree and the shared table's have the same tag, and are node 0 together
  later_alike : (j : ℕ) → j < (tree_of (seen_table t party)).size → ltb 0 (seen_part.old j) ≡ ltb 0 j
  later_alike zero l = rw seen_part.root.0
  later_alike (suc j) l =
      let r = seen_part.rising 0 (suc j) (omega arith) l in
      lt-ltb 0 (seen_part.old (suc j)) (omega (arith, r)) ∙ sym (lt-ltb 0 (suc j) (omega arith))

  tags_pass : any (length (seen_table t party) / 2) (bad_tag (tree_of (seen_table t party))) ≡ false
  unfolding tree_checks_at Passes
  tags_pass = none_at (length (seen_table t party) / 2) (bad_tag (tree_of (seen_table t party)))
      (λ j l.
      rw (seen_part.tag j l, ← later_alike j l)
      (none_of (length t / 3) (bad_tag (shared_tree t)) (seen_part.old j) (shared_parts t w).0.1.1.0 (seen_part.kept j l).0))

  -- it is an accepted tree table: no later check of it fails
  pub seen_passes : Passes (tree_checks (seen_table t party))
  unfolding tree_checks_at Passes
  seen_passes = (fits, (ordered_passes (tree_of (seen_table t party)) seen_ordered seen_part.root.1, (tags_pass, tt)))
    where
      fits : (eqb (length (seen_table t party)) 0 || (not (eqb (length (seen_table t party) % 2) 0) || ltb 512 (length (seen_table t party)))) ≡ false
      fits =
          let e = seen_length in
          let a : 0 < length (seen_table t party) / 2 = seen_ordered.sound.some_node in
          let b : length (seen_table t party) / 2 ≤ 256 = seen_ordered.sound.at_most in
          rw (ne_eqb (length (seen_table t party)) 0 (λ z. absurd (omega arith)), eq-eqb (length (seen_table t party) % 2) 0 (omega arith), le-ltb 512 (length (seen_table t party)) (omega arith))
