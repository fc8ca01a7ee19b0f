-- From the nodes of a walk to what the service leaves, and the answer over the tree's own index.
use Prim.Native.Nat.{ℕ, ◌≤◌, ◌<◌}
use mathlib.Core.Path.{◌≡◌, refl, sym, ap, ◌∙◌}
use mathlib.Core.Bool.{Bool, true, false, ◌&&◌, ◌||◌, cond, or_assoc, or_comm, or-false}
use mathlib.Core.List.{List, ◌++◌}
use lib.Dec.{eqb}
use lib.ListN.{length, set, drop, replicate}
use borrow.Author.Tests.{ltb-false, lt-ltb, le-ltb, eq-eqb, ne_eqb}
use Rattle.model.specs.declared.ImageReply.{ImageReply}
use Rattle.model.specs.declared.refusal.Refusal.{Refusal}
use Rattle.model.specs.Sets.{tab, ones, memb, upto}
use Rattle.model.specs.Tree.{tree_of, size_of}
use Rattle.model.specs.Axes.{descendant}
use Rattle.model.specs.Refusals.{reply, refused, counting, verdict, written}
use Rattle.model.specs.Checks.{tree_checks, room_checks}
use Rattle.model.proofs.Bytes.{length_tab, tab_cong, tab_front, fill_end, tab_none, tab_set, tab_below}
use Rattle.model.proofs.Counts.{ones_front, ones_bytes}
use Rattle.model.proofs.Refusals.{Passes, Passes-front, numbered, accepted, none_refused, pass_all, counts_none, counts_some, written_not, written_over, refused_some}
use Rattle.model.proofs.Accepted.{tree_ordered, tree_numbered}
use Rattle.checks.proofs.Verdicts.{zero_of}
use Rattle.index.specs.Index.{index_of}
use Rattle.index.proofs.Numbers.{index_length}
use Rattle.lookup.specs.Chain.{Chain, stops, breaks, meets, is_met, chain_of, chain_checks, lookup_checks, met_bytes, lookup_verdict}
use Rattle.lookup.specs.Parts.{along, walk_of}
use Rattle.lookup.proofs.Chains.{met_within, own_unbroken, own_met}
use Rattle.lookup.proofs.Verdicts.{tree_accepted}

-- the bytes of a walk

along_nodes : (c : Chain) (s : List ℕ) (S : ℕ → Bool) → s ≡ tab 256 S → (along c s).nodes ≡ tab 256 (λ k. is_met c k || S k)
unfolding along is_met
along_nodes stops s S p = p
along_nodes (breaks y) s S p = p
along_nodes (meets y c) s S p =
    along_nodes c (set s y 1) (λ k. eqb k y || S k) (ap (λ (l : List ℕ). set l y 1) p ∙ tab_set 256 S (λ k. eqb k y || S k) y true (rw (eq-eqb y y refl)) (λ k ne. rw (ne_eqb k y ne)))
    ∙ tab_cong 256 _ _ (λ k l. sym (or_assoc (is_met c k) (eqb k y) (S k)) ∙ ap (λ (b : Bool). b || S k) (or_comm (is_met c k) (eqb k y)))

-- a walk has the nodes that its chain meets, all of them below n
walk_nodes : (c : Chain) (n : ℕ) → ((k : ℕ) → is_met c k ≡ true → k < n) → (walk_of c).nodes ≡ tab 256 (upto n (is_met c))
unfolding walk_of
walk_nodes c n h =
    along_nodes c (replicate 256 0) (λ k. false) (tab_none 256 (λ k. false) (λ k. refl))
    ∙ tab_cong 256 _ _ (λ k l. or-false (is_met c k))
    ∙ tab_below 256 n (is_met c) h

-- what an accepted call gives
pub lookup_accepted : (t next : List ℕ) (start tag room : ℕ) → reply 0 0 ≡ verdict (lookup_checks t next start tag room) → (size_of t ≤ 256) × (size_of t ≤ room)
unfolding lookup_checks chain_checks room_checks Passes numbered
lookup_accepted t next start tag room j =
    let v = Passes-front (tree_checks t) (chain_checks t next start tag ++ room_checks room (size_of t)) (tree_numbered t) (zero_of (lookup_checks t next start tag room) (reply 0 0) j refl) in
    let u = accepted (chain_checks t next start tag ++ room_checks room (size_of t)) refl v.1 in
    ((tree_ordered t v.0).sound.at_most, ltb-false room (size_of t) u.1.1.1.0)

-- what the service leaves

module _ (t next to : List ℕ) (start tag x : ℕ) (same : x ≡ start) where
  abbrev replied : ImageReply
  replied = counting (lookup_verdict t next start tag to) (cond (eqb (lookup_verdict t next start tag to).number 0) (ones (met_bytes t next start tag)) 0)

  module _ (s : List ℕ) (j : reply 0 0 ≡ verdict (lookup_checks t next x tag (length to))) (m : s ≡ (walk_of (chain_of (tree_of t) next x tag)).nodes) where
    due : reply 0 0 ≡ lookup_verdict t next start tag to
    due = j ∙ ap (λ (u : ℕ). verdict (lookup_checks t next u tag (length to))) same

    few : size_of t ≤ 256
    few = (lookup_accepted t next x tag (length to) j).0

    nodes : s ≡ tab 256 (upto (size_of t) (is_met (chain_of (tree_of t) next start tag)))
    nodes =
        m ∙ ap (λ (u : ℕ). (walk_of (chain_of (tree_of t) next u tag)).nodes) same
        ∙ walk_nodes (chain_of (tree_of t) next start tag) (size_of t) (λ k h. (met_within (tree_of t) next start tag k h).0)

    front : tab (size_of t) (memb s) ≡ met_bytes t next start tag
    unfolding met_bytes
    front =
        ap (λ (l : List ℕ). tab (size_of t) (memb l)) nodes
        ∙ tab_front (size_of t) (upto (size_of t) (is_met (chain_of (tree_of t) next start tag))) few
        ∙ fill_end (size_of t) (is_met (chain_of (tree_of t) next start tag))

    pub nodes_over : (after : List ℕ) → after ≡ tab (size_of t) (memb s) ++ drop (size_of t) to → after ≡ written (lookup_verdict t next start tag to) (met_bytes t next start tag) to
    unfolding met_bytes
    nodes_over after p =
        written_over (reply 0 0) _ _ to after (size_of t) (p ∙ ap (λ (l : List ℕ). l ++ drop (size_of t) to) front) due refl (length_tab (size_of t) _)

    pub nodes_counted : (k : ℕ) → k ≡ ones (tab 256 (memb s)) → counting (reply 0 0) k ≡ replied
    nodes_counted k q =
        counts_some (counting (reply 0 0) k) (reply 0 0) _ due k _ refl
        (ones_bytes _ s k q nodes ∙ ones_front (size_of t) _ s nodes few ∙ ap ones front) refl

  module _ (e : Refusal) (j : refused e ≡ verdict (lookup_checks t next x tag (length to))) where
    told_due : refused e ≡ lookup_verdict t next start tag to
    told_due = j ∙ ap (λ (u : ℕ). verdict (lookup_checks t next u tag (length to))) same

    pub none_over : to ≡ written (lookup_verdict t next start tag to) (met_bytes t next start tag) to
    none_over = written_not (refused e) _ _ to told_due (refused_some e)

    pub none_counted : counting (refused e) 0 ≡ replied
    none_counted = counts_none (counting (refused e) 0) (refused e) _ told_due _ refl (refused_some e)

-- for the reader: over an accepted tree's own index, a call with a start below n and room for the set is accepted, and its answer is
-- every descendant of the start that has that number as its tag
pub own_index : (t to : List ℕ) (start tag : ℕ) → (verdict (tree_checks t)).number ≡ 0 → start < size_of t → size_of t ≤ length to
    → (lookup_verdict t (index_of (tree_of t)) start tag to ≡ reply 0 0)
    × (met_bytes t (index_of (tree_of t)) start tag ≡ tab (size_of t) (λ x. descendant (tree_of t) start x && eqb ((tree_of t).tag x) tag))
unfolding lookup_checks chain_checks room_checks met_bytes Passes
own_index t to start tag h l room =
    let o = tree_accepted t h in (
      sym (pass_all (tree_checks t) _ (verdict (tree_checks t)) (reply 0 0)
          (sym (none_refused (chain_checks t (index_of (tree_of t)) start tag ++ room_checks (length to) (size_of t))
          (rw (lt-ltb start (size_of t) l), (rw (eq-eqb (length (index_of (tree_of t))) (size_of t) (index_length (tree_of t))), (own_unbroken (tree_of t) o start tag, (le-ltb (length to) (size_of t) room, tt))))))
          refl h (tree_numbered t)),
      tab_cong (size_of t) _ _ (own_met (tree_of t) o start tag),
    )
