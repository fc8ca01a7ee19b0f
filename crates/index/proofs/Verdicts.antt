-- What the checks of the service secure, and the service's outcome from its parts.
use Prim.Native.Nat.{ℕ, ◌*◌, ◌≤◌}
use native.Mathlib.Omega.{arith}
use mathlib.Core.Path.{◌≡◌, refl, sym, ap, ◌∙◌, subst}
use mathlib.Core.Bool.{true}
use mathlib.Core.List.{List, ◌++◌}
use lib.ListN.{length, take, drop, replicate, length-append, length-replicate, get_or-replicate}
use lib.Seq.{take_at}
use borrow.Author.Tests.{ltb-false, eq-eqb, ne_eqb}
use Rattle.model.specs.Tree.{Tree, size_of, tree_of}
use Rattle.model.specs.Refusals.{verdict, written}
use Rattle.model.specs.Checks.{bad_tag, tree_checks_at, tree_checks, room_checks}
use Rattle.model.specs.declared.Reply.{Reply}
use Rattle.model.specs.Accepted.{AcceptedTree}
use Rattle.model.proofs.Exists.{none_of}
use Rattle.model.proofs.Refusals.{Passes, numbered, accepted, written_over}
use Rattle.model.proofs.Accepted.{tree_ordered, tag_below, tree_numbered}
use Rattle.checks.proofs.Verdicts.{zero_of, tree_first}
use Rattle.index.specs.declared.IndexReply.{IndexReply}
use Rattle.index.specs.Index.{first_from, present, tag_list, buffers_checks, index_checks, telling, if_accepted, Leaves}
use Rattle.index.specs.Parts.{Tagged, count_from, Each}
use Rattle.index.proofs.First.{first_past}
use Rattle.index.proofs.Numbers.{count_past, tag_list_length}
use Rattle.index.proofs.Totals.{tags_most}

-- for the reader: an accepted tree has at most 256 nodes, and tags below 65535
pub tree_tagged : (t : List ℕ) → AcceptedTree t → Tagged (tree_of t)
unfolding tree_checks_at Passes
tree_tagged t ok =
    let w : Passes (tree_checks t) = accepted (tree_checks t) (tree_numbered t) ok in
    record {
      at_most = (tree_ordered t w).sound.at_most;
      tags = λ x l. tag_below (tree_of t) x (none_of (size_of t) (bad_tag (tree_of t)) x w.1.1.0 l);
    }

module _ (t : Tree) (list : List ℕ) (s : Tagged t) (p : list ≡ present t) where
  -- there are at most 256 tags
  pub listed_most : length list ≤ 256
  unfolding present
  listed_most = let a = tags_most t 65536 in let b = s.at_most in omega (arith, ap length p)

  -- no node is seen yet
  each_start : (F : ℕ → ℕ → ℕ) (v : ℕ) → ((g : ℕ) → F g t.size ≡ v) → Each F list t.size (replicate 256 v)
  each_start F v h = record {
    long = let a = listed_most in omega (arith, length-replicate 256 v);
    at = λ k l. get_or-replicate 256 k v 0 (let a = listed_most in omega arith) ∙ sym (h _);
  }

  pub firsts_start : Each (first_from t) list t.size (replicate 256 65535)
  firsts_start = each_start (first_from t) 65535 (λ g. first_past t g t.size (omega arith))

  pub counts_start : Each (count_from t) list t.size (replicate 256 0)
  counts_start = each_start (count_from t) 0 (λ g. count_past t g t.size (omega arith))

-- the verdict, from those of its parts

pub room_numbered : (room needed : ℕ) → numbered (room_checks room needed) ≡ true
unfolding room_checks numbered
room_numbered room needed = refl

pub buffers_decide : (t : List ℕ) (next tags : ℕ) → AcceptedTree t → verdict (buffers_checks (tree_of t) next tags) ≡ verdict (index_checks t next tags)
unfolding index_checks
buffers_decide t next tags ok = tree_first t (buffers_checks (tree_of t) next tags) (verdict (buffers_checks (tree_of t) next tags)) refl ok

pub buffers_verdict : (t : Tree) (next tags : ℕ) (list : List ℕ) (v : Reply) → v ≡ verdict (room_checks next t.size ++ room_checks tags (3 * length list)) → list ≡ present t → v ≡ verdict (buffers_checks t next tags)
unfolding buffers_checks
buffers_verdict t next tags list v p e = p ∙ ap (λ (l : List ℕ). verdict (room_checks next t.size ++ room_checks tags (3 * length l))) e

-- what an accepted call has room for

module _ (next n tags needed : ℕ) (v : Reply) (p : v ≡ verdict (room_checks next n ++ room_checks tags needed)) (z : v.number ≡ 0) where
  rooms_pass : Passes (room_checks next n ++ room_checks tags needed)
  unfolding room_checks numbered
  rooms_pass = accepted (room_checks next n ++ room_checks tags needed) refl (zero_of (room_checks next n ++ room_checks tags needed) v p z)

  pub next_fits : n ≤ next
  unfolding room_checks Passes
  next_fits = ltb-false next n rooms_pass.0

  pub tags_fit : needed ≤ tags
  unfolding room_checks Passes
  tags_fit = ltb-false tags needed rooms_pass.1.0

-- the front of the list that was made
pub list_front : (t : Tree) (list before : List ℕ) (k : ℕ) → list ≡ present t ++ drop k before → k ≡ length (present t) → take k list ≡ present t
list_front t list before k p e = rw (p, e) (take_at (present t) (drop (length (present t)) before) (length (present t)) refl)

pub list_most : (t : Tree) (list before : List ℕ) (k : ℕ) → list ≡ present t ++ drop k before → k ≡ length (present t) → k ≤ length list
list_most t list before k p e = omega (arith, ap length p ∙ length-append (present t) (drop k before))

pub list_many : (t : Tree) (list before : List ℕ) (k : ℕ) → list ≡ present t ++ drop k before → k ≡ length (present t) → k ≡ length (take k list)
list_many t list before k p e = e ∙ ap length (sym (list_front t list before k p e))

-- an outcome by one verdict is that by another which is equal
pub leaves_by : (v w : Reply) (t : Tree) (next tags : List ℕ) (r : IndexReply) (next' tags' : List ℕ) → v ≡ w → Leaves v t next tags r next' tags' → Leaves w t next tags r next' tags'
leaves_by v w t next tags r next' tags' e h = subst (λ (u : Reply). Leaves u t next tags r next' tags') e h

-- the reply

module _ (r : IndexReply) (v w : Reply) (a : ℕ) where
  pub reply_refused : (b : ℕ) → r ≡ telling v 0 0 → v ≡ w → (v.number ≡ 0 → ⊥) → r ≡ telling w (if_accepted w a) (if_accepted w b)
  reply_refused b p same z =
      p ∙ ap (λ (u : Reply). telling u 0 0) same ∙ rw (ne_eqb w.number 0 (λ h. z (ap (λ (u : Reply). u.number) same ∙ h)))

  pub reply_made : (list l : List ℕ) → r ≡ telling v a (3 * length list) → list ≡ l → v ≡ w → v.number ≡ 0 → r ≡ telling w (if_accepted w a) (if_accepted w (3 * length l))
  reply_made list l p e same z =
      p ∙ ap (λ (k : List ℕ). telling v a (3 * length k)) e ∙ ap (λ (u : Reply). telling u a (3 * length l)) same
      ∙ rw (eq-eqb w.number 0 (sym (ap (λ (u : Reply). u.number) same) ∙ z))

-- the list as it was written, behind the numbers that are left
pub tags_over : (t : Tree) (list before after : List ℕ) (r v : Reply) → after ≡ tag_list t ++ drop (3 * length list) before → list ≡ present t → r ≡ v → r.number ≡ 0 → after ≡ written v (tag_list t) before
tags_over t list before after r v p e same z = written_over r v (tag_list t) before after (3 * length list) p same z (tag_list_length t ∙ ap (λ (l : List ℕ). 3 * length l) (sym e))
