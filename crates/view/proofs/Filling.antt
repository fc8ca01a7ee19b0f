-- Laws of the loop that makes the tree that a party sees, and of a look at a shared table.
use Prim.Native.Nat.{ℕ, suc, ◌+◌, ◌*◌, ◌/◌, ◌≤◌, ◌<◌}
use native.Mathlib.Nat.{eq-or-lt_of_le, add-zero}
use native.Mathlib.Numerals.{add-one}
use native.Mathlib.Omega.{arith}
use Rattle.std.proofs.Common.{Ok, Err}
use mathlib.Core.Path.{◌≡◌, refl, sym, ap, ◌∙◌}
use mathlib.Core.Logic.{⊎_elim}
use mathlib.Core.Bool.{Bool, true, not, cond, ◌&&◌, ◌||◌}
use mathlib.Core.List.{List, [], ◌∷◌, ◌++◌, append_assoc}
use lib.ListN.{length, get_or, set, take, drop, replicate, length-set, length-replicate}
use lib.Seq.{get_or-set_same, get_or-set_other, take-set-le, take-suc-set}
use lib.Dec.{eqb}
use borrow.Author.Tests.{ltb-false, ne_eqb}
use Rattle.model.specs.declared.Reply.{Reply}
use Rattle.model.specs.declared.MadeReply.{MadeReply}
use Rattle.model.specs.Sets.{bit}
use Rattle.model.specs.declared.refusal.Refusal.{Refusal}
use Rattle.model.specs.Refusals.{making, reply, refused, verdict}
use Rattle.model.specs.Checks.{tree_checks, room_checks}
use Rattle.model.specs.Services.{Leaves, leaving}
use Rattle.model.specs.Parties.{shared_tree, owner, shared_checks, shared_verdict, sees, rank, new_row, rows_of, seen_table}
use Rattle.model.specs.Accepted.{Ordered}
use Rattle.model.proofs.Booleans.{Seen, yes!, no!, seen}
use Rattle.model.proofs.Refusals.{Passes, numbered, accepted, all_pass, refused_some, leaves_none, leaves_table}
use Rattle.model.proofs.Parties.{sees_step, shared_numbered, shared_ordered, root_seen, parent_seen, shared_passes, leaves_refused, leaves_seen}
use Rattle.view.specs.View.{AcceptedTable, Filled, Looked, room_for, seen_tree}
use Rattle.view.proofs.Part.{rank_yes, rank_no, rank_most, rows_yes, rows_no, length_rows}
use Rattle.view.proofs.SeenTree.{seen_passes}

-- the number that is kept for a node's children
abbrev pub mark : (ℕ → Bool) → ℕ → ℕ
mark S y = cond (S y) (rank S y) 65535

-- two numbers stored behind the front of a list
store_two : (l : List ℕ) (m a b : ℕ) → 2 * m + 1 < length l → take (2 * (m + 1)) (set (set l (2 * m) a) (2 * m + 1) b) ≡ take (2 * m) l ++ (a ∷ b ∷ [])
store_two l m a b h =
    ap (λ (k : ℕ). take k (set (set l (2 * m) a) (2 * m + 1) b)) (let e : 2 * (m + 1) ≡ suc (2 * m + 1) = omega arith in e)
    ∙ take-suc-set (set l (2 * m) a) (2 * m + 1) b (rw (length-set l (2 * m) a) h)
    ∙ ap (λ (k : List ℕ). k ++ (b ∷ [])) (ap (λ (k : ℕ). take k (set l (2 * m) a)) (add-one (2 * m)) ∙ take-suc-set l (2 * m) a (omega arith))
    ∙ append_assoc (take (2 * m) l) (a ∷ []) (b ∷ [])

-- where a node's two numbers go

pub place_within : (l : List ℕ) (m a : ℕ) → length l ≡ 512 → m < 256 → 2 * m + 1 < length (set l (2 * m) a)
place_within l m a e h = omega (arith, length-set l (2 * m) a)

module _ (t : List ℕ) (party : ℕ) where
  abbrev S : ℕ → Bool
  S = sees t party

  abbrev rows : ℕ → List ℕ
  rows k = rows_of S (new_row (shared_tree t) S) k

  -- the first x nodes are looked at: the seen ones stand at the front of the table, and each one's number is kept
  pub record Filling (x : ℕ) (table numbers : List ℕ) (nodes : ℕ) : Type 0 where
    pub low : 1 ≤ x
    pub high : x ≤ length t / 3
    pub few : nodes ≤ x
    pub count : nodes ≡ rank S x
    pub long : length table ≡ 512
    pub wide : length numbers ≡ 256
    pub front : take (2 * nodes) table ≡ rows x
    pub kept : (y : ℕ) → y < x → get_or numbers y 0 ≡ mark S y

module _ (t : List ℕ) (party : ℕ) (ok : AcceptedTable t) where
  passes : Passes (shared_checks t)
  passes = accepted (shared_checks t) (shared_numbered t) ok

  ordered : Ordered (shared_tree t)
  ordered = shared_ordered t party passes

  abbrev S' : ℕ → Bool
  S' = sees t party

  pub nodes_most : length t / 3 ≤ 256
  nodes_most = ordered.sound.at_most

  pub some_node : 0 < length t / 3
  some_node = ordered.sound.some_node

  one : rank S' 1 ≡ 1
  unfolding rank
  one = rw (root_seen t party passes)

  pub fill_start : (table : List ℕ) (g : ℕ) → length table ≡ 512 → g ≡ (shared_tree t).tag 0 → Filling t party 1 (set (set table 0 65535) 1 g) (replicate 256 0) 1
  unfolding rows_of rank
  fill_start table g l e = record {
    low = omega arith;
    high = some_node;
    few = omega arith;
    count = sym one;
    long = length-set (set table 0 65535) 1 g ∙ length-set table 0 65535 ∙ l;
    wide = length-replicate {A = ℕ} 256 0;
    front = store_two table 0 65535 g (omega (arith, l)) ∙ rw (root_seen t party passes, e);
    kept = λ y h. let z : y ≡ 0 = omega arith in rw (z, root_seen t party passes);
  }

  -- one more node
  module _ (x : ℕ) (table numbers : List ℕ) (nodes : ℕ) (f : Filling t party x table numbers nodes) (h : x < length t / 3) where
    pub parent_below : (p : ℕ) → p ≡ (shared_tree t).parent x → p < x
    parent_below p e = let w : (shared_tree t).parent x < x = ordered.sound.falls x (omega (arith, f.low)) h in omega arith

    pub parent_small : (p : ℕ) → p ≡ (shared_tree t).parent x → p < 256
    parent_small p e = omega (arith, parent_below p e, nodes_most)

    pub node_small : nodes < 256
    node_small = omega (arith, f.few, nodes_most)

    module _ (p up o g : ℕ) (e : p ≡ (shared_tree t).parent x) (d : up ≡ get_or numbers p 0) (q : o ≡ owner t x) (a : g ≡ (shared_tree t).tag x) where
      held : up ≡ mark S' ((shared_tree t).parent x)
      held = d ∙ ap (λ (k : ℕ). get_or numbers k 0) e ∙ f.kept ((shared_tree t).parent x) (rw e at (parent_below p e))

      -- the number kept for the parent tells whether it is seen
      told : not (eqb up 65535) ≡ S' ((shared_tree t).parent x)
      told = rw held (go (seen (S' ((shared_tree t).parent x))))
        where
          go : Seen (S' ((shared_tree t).parent x)) → not (eqb (mark S' ((shared_tree t).parent x)) 65535) ≡ S' ((shared_tree t).parent x)
          go (yes! r) =
              let m = rank_most S' ((shared_tree t).parent x) in
              let b = parent_below p e in
              let n = nodes_most in
              rw (r, ne_eqb (rank S' ((shared_tree t).parent x)) 65535 (λ z. absurd (omega arith)))
          go (no! r) = rw r

      pub turn_seen : (b : Bool) → b ≡ (eqb o 0 || eqb o party) → (b && not (eqb up 65535)) ≡ S' x
      turn_seen b r = rw (r, told, q) (sym (sees_step t party ordered.sound x (omega (arith, f.low)) h))

      up_is : S' x ≡ true → up ≡ rank S' ((shared_tree t).parent x)
      up_is r = held ∙ rw (parent_seen t party passes x (omega (arith, f.low)) h r)

      pub turn_more : (b : Bool) (v i : ℕ) → b ≡ S' x → v ≡ cond b nodes 65535 → i ≡ bit b
          → Filling t party (x + 1) (set (set table (2 * nodes) up) (2 * nodes + 1) g) (set numbers x v) (nodes + i)
      turn_more b v i c w j = go (seen (S' x))
        where
          keeps : v ≡ mark S' x → (y : ℕ) → y < x + 1 → get_or (set numbers x v) y 0 ≡ mark S' y
          keeps m y k =
              ⊎_elim (λ (z : y ≡ x). rw (z, get_or-set_same numbers x v 0 (omega (arith, f.wide, nodes_most))) m)
              (λ l. get_or-set_other numbers x y v 0 (λ z. absurd (omega arith)) ∙ f.kept y l)
              (eq-or-lt_of_le (let n : y ≤ x = omega arith in n))

          go : Seen (S' x) → Filling t party (x + 1) (set (set table (2 * nodes) up) (2 * nodes + 1) g) (set numbers x v) (nodes + i)
          go (yes! r) =
              let one : i ≡ 1 = j ∙ rw (c, r) in
              record {
                low = omega arith;
                high = omega arith;
                few = omega (arith, f.few);
                count = rw (one, add-one x, rank_yes S' x r, f.count);
                long = length-set (set table (2 * nodes) up) (2 * nodes + 1) g ∙ length-set table (2 * nodes) up ∙ f.long;
                wide = length-set numbers x v ∙ f.wide;
                front =
                    rw (one, add-one x, rows_yes S' (new_row (shared_tree t) S') 2 (λ x. refl) x r)
                    (store_two table nodes up g (omega (arith, f.few, f.long, nodes_most))
                    ∙ rw (f.front, ne_eqb x 0 (λ z. absurd (omega (arith, f.low))), up_is r, a));
                kept = keeps (w ∙ rw (c, r) f.count);
              }
          go (no! r) =
              let none : i ≡ 0 = j ∙ rw (c, r) in
              record {
                low = omega arith;
                high = omega arith;
                few = omega (arith, f.few);
                count = rw (none, add-one x, rank_no S' x r, add-zero nodes) f.count;
                long = length-set (set table (2 * nodes) up) (2 * nodes + 1) g ∙ length-set table (2 * nodes) up ∙ f.long;
                wide = length-set numbers x v ∙ f.wide;
                front =
                    rw (none, add-zero nodes, add-one x, rows_no S' (new_row (shared_tree t) S') 2 (λ x. refl) x r)
                    (take-set-le (2 * nodes) (set table (2 * nodes) up) (2 * nodes + 1) g (omega arith) ∙ take-set-le (2 * nodes) table (2 * nodes) up (omega arith) ∙ f.front);
                kept = keeps (w ∙ rw (c, r));
              }

  pub fill_end : (x : ℕ) (table numbers : List ℕ) (nodes : ℕ) → Filling t party x table numbers nodes → length t / 3 ≤ x → Filled t party nodes table
  unfolding seen_table
  fill_end x table numbers nodes f h =
      let e : x ≡ length t / 3 = omega (arith, f.high) in
      record {
        few = omega (arith, f.few, f.high, nodes_most);
        size = f.long;
        long = ap (λ (k : ℕ). 2 * k) f.count ∙ sym (length_rows S' (new_row (shared_tree t) S') 2 (λ x. refl) x) ∙ ap (λ (k : ℕ). length (rows t party k)) e;
        front = f.front ∙ ap (rows t party) e;
      }

-- A look.

module _ (t : List ℕ) (party : ℕ) where
  pub look_refused : (table : List ℕ) (e : Refusal) → refused e ≡ shared_verdict t party → Looked t party (Err e) table
  look_refused table e p = record { reply = p; seen = tt }

  module _ (p : reply 0 0 ≡ shared_verdict t party) where
    ok : Passes (shared_checks t)
    ok = shared_passes t party (reply 0 0) p refl

    pub look_accepted : AcceptedTable t
    look_accepted = all_pass (shared_checks t) ok

    pub look_done : (table : List ℕ) (nodes : ℕ) → Filled t party nodes table → Looked t party (Ok (2 * nodes)) table
    look_done table nodes f =
        record {
          reply = p;
          seen = record {
            within = omega (arith, f.size, f.few);
            front = f.front;
            long = f.long;
            accepted = ap (λ (u : List ℕ). (verdict (tree_checks u)).number) f.front ∙ all_pass (tree_checks (seen_table t party)) (seen_passes t party ok);
          };
        }

-- The service.

room_enough : (room needed : ℕ) → reply 0 0 ≡ verdict (room_checks room needed) → needed ≤ room
unfolding room_checks Passes numbered
room_enough room needed p = ltb-false room needed (accepted (room_checks room needed) refl (ap (λ (r : Reply). r.number) (sym p))).0

module _ (t : List ℕ) (party : ℕ) (own table : List ℕ) where
  -- table or party are refused
  pub seen_refused : (e : Refusal) → Looked t party (Err e) own → Leaves (seen_tree t party table) (making (refused e) 0) table
  unfolding seen_tree
  seen_refused e h = leaves_refused t party table (λ v. making v 0) (λ u. leaving (room_for u table) u table) (refused e) h.reply (making (refused e) 0) refl (refused_some e)

  module _ (count : ℕ) (h : Looked t party (Ok count) own) where
    due : (w : Reply) → w ≡ verdict (room_checks (length table) count) → w ≡ room_for (seen_table t party) table
    due w p = p ∙ ap (λ (k : ℕ). verdict (room_checks (length table) k)) h.seen.long

    over : (r : MadeReply) (after : List ℕ)
        → Leaves (leaving (room_for (seen_table t party) table) (seen_table t party) table) r after
        → Leaves (seen_tree t party table) r after
    unfolding seen_tree
    over r after l = leaves_seen t party table (λ v. making v 0) (λ u. leaving (room_for u table) u table) (reply 0 0) h.reply (seen_table t party) after r l refl refl

    -- the buffer has too little room
    pub seen_short : (e : Refusal) → refused e ≡ verdict (room_checks (length table) count) → Leaves (seen_tree t party table) (making (refused e) 0) table
    seen_short e p = over (making (refused e) 0) table (leaves_none (making (refused e) 0) (refused e) (room_for (seen_table t party) table) (due (refused e) p) (seen_table t party) table refl (refused_some e))

    module _ (p : reply 0 0 ≡ verdict (room_checks (length table) count)) where
      pub seen_room : count ≤ length table
      seen_room = room_enough (length table) count p

      pub seen_made : (after : List ℕ) → after ≡ take count own ++ drop count table → Leaves (seen_tree t party table) (making (reply 0 0) count) after
      seen_made after f =
          over (making (reply 0 0) count) after
          (leaves_table (making (reply 0 0) count) (reply 0 0) (room_for (seen_table t party) table) (due (reply 0 0) p) (seen_table t party) table count after refl (f ∙ rw h.seen.front) refl (sym h.seen.long))
