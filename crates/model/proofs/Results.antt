-- Laws for a reader: what the bytes of a result say of the pairs (x, y) of the query, for every accepted call, and what a call
-- leaves as it was.
use Prim.Native.Nat.{ℕ, ◌+◌, ◌*◌, ◌≤◌, ◌<◌}
use native.Mathlib.Omega.{arith}
use mathlib.Core.Path.{◌≡◌, refl, sym, ap, ◌∙◌}
use mathlib.Core.Logic.Iff
use mathlib.Core.Logic.{◌⊎◌, ◌↔◌}
use mathlib.Core.Bool.{Bool, true, false, ◌&&◌}
use mathlib.Core.List.{List, ◌++◌}
use lib.Dec.{ltb, eqb}
use lib.ListN.{length, get_or, take, drop, length-append, length-drop, get_or-append}
use lib.Seq.{take_at, drop_at}
use borrow.Author.Tests.{ltb-false, lt-ltb, eqb-true, not-false, ne_eqb}
use Rattle.model.specs.declared.Reply.{Reply}
use Rattle.model.specs.declared.Cursor.{Cursor}
use Rattle.model.specs.Sets.{bit, any, tab, ones, memb, upto, turn, image}
use Rattle.model.specs.Tree.{size_of, tree_of}
use Rattle.model.specs.Meaning.{pairs}
use Rattle.model.specs.QueryTable.{path_at, last_of}
use Rattle.model.specs.Results.{assigned, related, image_bytes, cell, pairs_bytes}
use Rattle.model.specs.Pages.{unpaged}
use Rattle.model.specs.Refusals.{verdict, written}
use Rattle.model.specs.Checks.{tree_checks_at, query_checks, node_checks, bad_byte, set_checks, room_checks, table_checks, image_checks, pairs_checks, page_checks}
use Rattle.model.specs.Services.{image_verdict, image_reply, image_buffer, pairs_reply, pairs_buffer, page_outcome}
use Rattle.model.proofs.Booleans.{Seen, yes!, no!, seen, no_yes, both_yes, yes_right}
use Rattle.model.proofs.Exists.{any_both, none_of}
use Rattle.model.proofs.Bytes.{length_tab, get_or_tab, memb_yes, memb_no, row_fits, cell_at}
use Rattle.model.proofs.Counts.{ones_within}
use Rattle.model.proofs.Refusals.{Passes, numbered, accepted, Passes-front, written_not}

-- A buffer whose front is written with the bytes of a test.

bit_one : (b : Bool) → (bit b ≡ 1) ↔ (b ≡ true)
bit_one true = (λ h. refl, λ h. refl)
bit_one false = (λ h. absurd (omega arith), λ h. no_yes refl h)

bit_either : (b : Bool) → (bit b ≡ 0) ⊎ (bit b ≡ 1)
bit_either true = ◌⊎◌.inr refl
bit_either false = ◌⊎◌.inl refl

module _ (r : Reply) (n : ℕ) (S : ℕ → Bool) (to : List ℕ) (ok : r.number ≡ 0) where
  front : written r (tab n S) to ≡ tab n S ++ drop n to
  unfolding written
  front = rw (ok, length_tab n S)

  byte_is : (i : ℕ) → i < n → get_or (written r (tab n S) to) i 0 ≡ bit (S i)
  byte_is i l =
      rw (front, get_or-append (tab n S) (drop n to) 0 i (rw (length_tab n S) l))
      (get_or_tab n S i l)

  byte_one : (i : ℕ) → i < n → (get_or (written r (tab n S) to) i 0 ≡ 1) ↔ (S i ≡ true)
  byte_one i l = rw (byte_is i l) (bit_one (S i))

  byte_either : (i : ℕ) → i < n → (get_or (written r (tab n S) to) i 0 ≡ 0) ⊎ (get_or (written r (tab n S) to) i 0 ≡ 1)
  byte_either i l = rw (byte_is i l) (bit_either (S i))

  rest_kept : n ≤ length to → (drop n (written r (tab n S) to) ≡ drop n to) × (length (written r (tab n S) to) ≡ length to)
  rest_kept h = (
    rw front (drop_at (tab n S) (drop n to) n (length_tab n S)),
    rw (front, length-append (tab n S) (drop n to), length_tab n S, length-drop n to) (omega arith),
  )

-- The image of a set under a relation among n nodes.

module _ (n : ℕ) (R : ℕ → ℕ → Bool) (s : List ℕ) (low : (x : ℕ) → x < n → get_or s x 0 ≤ 1) where
  in_set : (x : ℕ) → x < n → (memb s x ≡ true) ↔ (get_or s x 0 ≡ 1)
  in_set x l = (
    λ h. let z : get_or s x 0 ≡ 0 → ⊥ = λ e. no_yes (memb_no s x e) h in omega (arith, low x l),
    λ h. memb_yes s x (λ e. absurd (omega arith)),
  )

  image_of : (y : ℕ) → y < n → (image n R (memb s) y ≡ true) ↔ ((x : ℕ) × (x < n) × (get_or s x 0 ≡ 1) × (R x y ≡ true))
  unfolding image upto
  image_of y l = (
    λ h.
        let (x, k, p, r) = (any_both n (memb s) (λ x. R x y)).0 (yes_right (ltb y n) (any n (λ x. memb s x && R x y)) h) in
        (x, k, (in_set x k).0 p, r),
    λ w. both_yes (lt-ltb y n l) ((any_both n (memb s) (λ x. R x y)).1 (w.0, w.1, (in_set w.0 w.1).1 w.2, w.3)),
  )

-- A call of forwards or backwards that is accepted.

module _ (t q : List ℕ) (columns : ℕ) (nodes from to : List ℕ) (ok : (image_verdict t q columns nodes from to).number ≡ 0) where
  fitting : Passes (set_checks t from ++ room_checks (length to) (size_of t))
  unfolding image_checks table_checks tree_checks_at query_checks node_checks set_checks room_checks numbered
  fitting =
      accepted (set_checks t from ++ room_checks (length to) (size_of t)) refl
      (Passes-front (table_checks t q columns nodes) (set_checks t from ++ room_checks (length to) (size_of t)) refl ok).1

  low_bytes : (x : ℕ) → x < size_of t → get_or from x 0 ≤ 1
  unfolding set_checks room_checks Passes
  low_bytes x l =
      let e : length from ≡ size_of t = eqb-true (length from) (size_of t) (not-false (eqb (length from) (size_of t)) fitting.0) in
      ltb-false 1 (get_or from x 0) (none_of (length from) (bad_byte from) x fitting.1.0 (rw e l))

  -- byte y is 1 exactly if some x of the set has the pair (x, y), or backwards (y, x)
  pub image_byte : (back : Bool) (y : ℕ) → y < size_of t
      → (get_or (image_buffer t q columns nodes back from to) y 0 ≡ 1)
      ↔ ((x : ℕ) × (x < size_of t) × (get_or from x 0 ≡ 1) × (turn back (pairs (tree_of t) (assigned nodes) (path_at q (last_of q))) x y ≡ true))
  unfolding image_bytes related
  image_byte back y l =
      Iff.trans
      (byte_one (image_verdict t q columns nodes from to) (size_of t) (image (size_of t) (related t q nodes (last_of q) back) (memb from)) to ok y l)
      (image_of (size_of t) (related t q nodes (last_of q) back) from low_bytes y l)

  -- forwards: byte y is 1 exactly if some x of the set has the pair (x, y)
  pub forwards_byte : (y : ℕ) → y < size_of t
      → (get_or (image_buffer t q columns nodes false from to) y 0 ≡ 1)
      ↔ ((x : ℕ) × (x < size_of t) × (get_or from x 0 ≡ 1) × (pairs (tree_of t) (assigned nodes) (path_at q (last_of q)) x y ≡ true))
  forwards_byte y l = image_byte false y l

  -- backwards: byte x is 1 exactly if some y of the set has the pair (x, y)
  pub backwards_byte : (x : ℕ) → x < size_of t
      → (get_or (image_buffer t q columns nodes true from to) x 0 ≡ 1)
      ↔ ((y : ℕ) × (y < size_of t) × (get_or from y 0 ≡ 1) × (pairs (tree_of t) (assigned nodes) (path_at q (last_of q)) x y ≡ true))
  backwards_byte x l = image_byte true x l

  module _ (back : Bool) where
    -- each byte of the result is 0 or 1
    pub image_either : (y : ℕ) → y < size_of t
        → (get_or (image_buffer t q columns nodes back from to) y 0 ≡ 0) ⊎ (get_or (image_buffer t q columns nodes back from to) y 0 ≡ 1)
    unfolding image_bytes
    image_either y l = byte_either (image_verdict t q columns nodes from to) (size_of t) (image (size_of t) (related t q nodes (last_of q) back) (memb from)) to ok y l

    -- a set of zeros gives zeros, either way
    pub image_zeros : ((x : ℕ) → x < size_of t → get_or from x 0 ≡ 0) → (y : ℕ) → y < size_of t → get_or (image_buffer t q columns nodes back from to) y 0 ≡ 0
    image_zeros none y l = go (image_either y l)
      where
        go : (get_or (image_buffer t q columns nodes back from to) y 0 ≡ 0) ⊎ (get_or (image_buffer t q columns nodes back from to) y 0 ≡ 1) → get_or (image_buffer t q columns nodes back from to) y 0 ≡ 0
        go (◌⊎◌.inl e) = e
        go (◌⊎◌.inr e) = let (x, k, p, r) = (image_byte back y l).0 e in let z : get_or from x 0 ≡ 0 = none x k in absurd (omega arith)

    -- the count is the number of 1 bytes in the result, and at most n
    pub image_count : ((image_reply t q columns nodes back from to).count ≡ ones (take (size_of t) (image_buffer t q columns nodes back from to)))
        × ((image_reply t q columns nodes back from to).count ≤ size_of t)
    unfolding image_bytes
    image_count = (
      counted ∙ ap ones (sym (ap (λ (l : List ℕ). take (size_of t) l) written_front ∙ take_at (tab (size_of t) S) (drop (size_of t) to) (size_of t) (length_tab (size_of t) S))),
      ones_within S (size_of t) _ counted,
    )
      where
        S : ℕ → Bool
        S = image (size_of t) (related t q nodes (last_of q) back) (memb from)

        counted : (image_reply t q columns nodes back from to).count ≡ ones (tab (size_of t) S)
        counted = rw ok

        written_front : image_buffer t q columns nodes back from to ≡ tab (size_of t) S ++ drop (size_of t) to
        written_front = front (image_verdict t q columns nodes from to) (size_of t) S to ok

    -- the bytes from n on are as they were lent, and the buffer is as long as it was
    pub image_rest : (drop (size_of t) (image_buffer t q columns nodes back from to) ≡ drop (size_of t) to) × (length (image_buffer t q columns nodes back from to) ≡ length to)
    unfolding image_bytes set_checks room_checks Passes
    image_rest =
        rest_kept (image_verdict t q columns nodes from to) (size_of t) (image (size_of t) (related t q nodes (last_of q) back) (memb from)) to ok
        (ltb-false (length to) (size_of t) fitting.1.1.0)

-- A call of pairs that is accepted.

module _ (t q : List ℕ) (columns : ℕ) (nodes table : List ℕ) (ok : (pairs_reply t q columns nodes table).number ≡ 0) where
  -- byte x * n + y is 1 exactly if (x, y) is a pair
  pub pairs_byte : (x y : ℕ) → x < size_of t → y < size_of t
      → (get_or (pairs_buffer t q columns nodes table) (x * size_of t + y) 0 ≡ 1)
      ↔ (pairs (tree_of t) (assigned nodes) (path_at q (last_of q)) x y ≡ true)
  unfolding pairs_bytes related
  pairs_byte x y lx ly =
      rw (← cell_at (size_of t) x (x * size_of t) refl (pairs (tree_of t) (assigned nodes) (path_at q (last_of q))) y ly)
      (byte_one (pairs_reply t q columns nodes table) (size_of t * size_of t) (cell (size_of t) (related t q nodes (last_of q) false)) table ok (x * size_of t + y)
      (let h = row_fits (size_of t) x (x * size_of t) refl lx in omega arith))

  -- each byte of the table is 0 or 1
  pub pairs_either : (i : ℕ) → i < size_of t * size_of t
      → (get_or (pairs_buffer t q columns nodes table) i 0 ≡ 0) ⊎ (get_or (pairs_buffer t q columns nodes table) i 0 ≡ 1)
  unfolding pairs_bytes
  pairs_either i l =
      byte_either (pairs_reply t q columns nodes table) (size_of t * size_of t) (cell (size_of t) (related t q nodes (last_of q) false)) table ok i l

  -- the bytes from n * n on are as they were lent, and the buffer is as long as it was
  pub pairs_rest : (drop (size_of t * size_of t) (pairs_buffer t q columns nodes table) ≡ drop (size_of t * size_of t) table)
      × (length (pairs_buffer t q columns nodes table) ≡ length table)
  unfolding pairs_bytes pairs_checks table_checks tree_checks_at query_checks node_checks room_checks numbered Passes
  pairs_rest =
      let w = accepted (room_checks (length table) (size_of t * size_of t)) refl (Passes-front (table_checks t q columns nodes) (room_checks (length table) (size_of t * size_of t)) refl ok).1 in
      rest_kept (pairs_reply t q columns nodes table) (size_of t * size_of t) (cell (size_of t) (related t q nodes (last_of q) false)) table ok
      (ltb-false (length table) (size_of t * size_of t) w.0)

-- Calls that are refused.

-- a refused call of forwards or backwards counts no node, and leaves the buffer as it was lent
pub image_refused : (t q : List ℕ) (columns : ℕ) (nodes : List ℕ) (back : Bool) (from to : List ℕ) → ((image_verdict t q columns nodes from to).number ≡ 0 → ⊥)
    → ((image_reply t q columns nodes back from to).count ≡ 0) × (image_buffer t q columns nodes back from to ≡ to)
image_refused t q columns nodes back from to z = (
  rw (ne_eqb (image_verdict t q columns nodes from to).number 0 z),
  sym (written_not (image_verdict t q columns nodes from to) (image_verdict t q columns nodes from to) (image_bytes t q nodes back from) to refl z),
)

-- a refused call of pairs leaves the buffer as it was lent
pub pairs_refused : (t q : List ℕ) (columns : ℕ) (nodes table : List ℕ) → ((pairs_reply t q columns nodes table).number ≡ 0 → ⊥)
    → pairs_buffer t q columns nodes table ≡ table
pairs_refused t q columns nodes table z =
    sym (written_not (pairs_reply t q columns nodes table) (pairs_reply t q columns nodes table) (pairs_bytes t q nodes) table refl z)

unpaged_of : (t q : List ℕ) (columns : ℕ) (c : Cursor) (buffer : List ℕ) → ((page_outcome t q columns c buffer).number ≡ 0 → ⊥)
    → page_outcome t q columns c buffer ≡ unpaged (verdict (page_checks t q columns c (length buffer))) c buffer
unfolding page_outcome
unpaged_of t q columns c buffer z = go (seen (eqb (verdict (page_checks t q columns c (length buffer))).number 0))
  where
    go : Seen (eqb (verdict (page_checks t q columns c (length buffer))).number 0)
        → page_outcome t q columns c buffer ≡ unpaged (verdict (page_checks t q columns c (length buffer))) c buffer
    go (yes! e) = absurd (z (rw e refl))
    go (no! e) = rw e

-- a refused page call counts no row, says that there is no more, and leaves the cursor and the buffer as they were lent
pub page_refused : (t q : List ℕ) (columns : ℕ) (c : Cursor) (buffer : List ℕ) → ((page_outcome t q columns c buffer).number ≡ 0 → ⊥)
    → ((page_outcome t q columns c buffer).count ≡ 0)
    × ((page_outcome t q columns c buffer).more ≡ false)
    × ((page_outcome t q columns c buffer).cursor ≡ c)
    × ((page_outcome t q columns c buffer).buffer ≡ buffer)
page_refused t q columns c buffer z = rw (unpaged_of t q columns c buffer z) (refl, refl, refl, refl)
