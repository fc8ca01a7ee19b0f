-- Demand 3, of any list of page calls.
use Prim.Native.Nat.{ℕ, ◌+◌, ◌-◌, ◌*◌, ◌/◌, ◌≤◌, min}
use native.Mathlib.Nat.{add-zero, add_assoc}
use native.Mathlib.Decide.{dec_le}
use native.Mathlib.Omega.{arith}
use mathlib.Core.Path.{◌≡◌, refl, sym, ap, ap₂, ◌∙◌, subst}
use mathlib.Core.Bool.{Bool, true, false}
use mathlib.Core.List.{List, [], ◌∷◌, ◌++◌}
use lib.Dec.{ltb, eqb}
use lib.ListN.{length, take, drop, length-take, length-drop}
use lib.Seq.{take_all, take-add, drop_at, drop-drop}
use borrow.Author.Tests.{eqb-true, ltb-true, lt-ltb}
use Rattle.model.specs.declared.Cursor.{Cursor}
use Rattle.model.specs.declared.Reply.{Reply}
use Rattle.model.specs.declared.PageReply.{PageReply}
use Rattle.model.specs.Answers.{Row}
use Rattle.model.specs.Pages.{Outcome, after, moved, flat, fitting, paged, unpaged}
use Rattle.model.specs.Refusals.{verdict}
use Rattle.model.specs.Checks.{page_checks, quick_checks}
use Rattle.model.proofs.Booleans.{Seen, yes!, no!, seen, no_yes, bool_ext}
use Rattle.model.proofs.Answers.{Wide, Rising, answers_rising, answers_wide}
use Rattle.model.specs.Parties.{shared_verdict, over_seen}
use Rattle.model.specs.Services.{judged, page_outcome, quick_outcome, page_reply, seen_page, seen_quick}
use Rattle.answers.specs.Calls.{Lent, Listing, listing_of, Call, outcome_of, Meets, Chain, Asked, lent_to, OneChain, accepted, Alike, rows_in, rows_given, room_of, rooms, answers_of, answers_after, cursor_after, Page, NoPage, Tells, Paging, Demand3}
use Rattle.answers.proofs.Accepted.{page_few, quick_few}
use Rattle.answers.proofs.Paging.{in_take, in_after, rows_back, after_page_lem, after_part, some_rest, some_after}
use Rattle.answers.proofs.Writing.{flat_long}

-- One call.

-- a call with this outcome
abbrev went : Bool → Lent → Cursor → List ℕ → Outcome → Call
went quick l c buffer o = record { quick = quick; lent = l; lent_buffer = buffer; reply = page_reply o; cursor = o.cursor; buffer = o.buffer }

-- what a call leaves is settled by what it is lent
settled : (c : Cursor) (g : Call) → Meets c g → g ≡ went g.quick g.lent c g.lent_buffer (outcome_of g.quick g.lent c g.lent_buffer)
settled c g d = λ i. record { quick = g.quick; lent = g.lent; lent_buffer = g.lent_buffer; reply = d.0 i; cursor = d.1 i; buffer = d.2 i }

-- what holds of an accepted call and of a refused one holds of any call
module _ (P : Call → Type 0) where
  by_verdict : (quick : Bool) (l : Lent) (c : Cursor) (buffer : List ℕ) (v : Reply) → (v.number ≡ 0 → l.columns ≤ 3)
      → (eqb (judged v l.columns (answers_of (listing_of l)) c buffer).number 0 ≡ true → l.columns ≤ 3 → P (went quick l c buffer (paged l.columns (answers_of (listing_of l)) c buffer)))
      → ((v : Reply) → eqb v.number 0 ≡ false → P (went quick l c buffer (unpaged v c buffer)))
      → P (went quick l c buffer (judged v l.columns (answers_of (listing_of l)) c buffer))
  by_verdict quick l c buffer v few pages stops = go (seen (eqb v.number 0))
    where
      go : Seen (eqb v.number 0) → P (went quick l c buffer (judged v l.columns (answers_of (listing_of l)) c buffer))
      go (yes! t) = rw t (pages (rw t refl) (few (eqb-true v.number 0 t)))
      go (no! t) = rw t (stops v t)

  -- what holds over the tree that the party sees, and of a refused call, holds over the shared table
  by_table : (quick : Bool) (l : Lent) (c : Cursor) (buffer : List ℕ) (f : List ℕ → Outcome) (R : Type 0)
      → ((eqb (f (listing_of l).tree).number 0 ≡ true → R) → P (went quick l c buffer (f (listing_of l).tree)))
      → (eqb (over_seen l.tree l.party (λ v. unpaged v c buffer) f).number 0 ≡ true → R)
      → ((v : Reply) → eqb v.number 0 ≡ false → P (went quick l c buffer (unpaged v c buffer)))
      → P (went quick l c buffer (over_seen l.tree l.party (λ v. unpaged v c buffer) f))
  unfolding over_seen
  by_table quick l c buffer f R over pages stops = go (seen (eqb (shared_verdict l.tree l.party).number 0))
    where
      go : Seen (eqb (shared_verdict l.tree l.party).number 0) → P (went quick l c buffer (over_seen l.tree l.party (λ v. unpaged v c buffer) f))
      go (yes! t) = rw t (over (λ e. pages (rw t e)))
      go (no! t) = rw t (stops (shared_verdict l.tree l.party) t)

  -- a quick call and a plain one differ by the verdict alone
  by_outcome : (quick : Bool) (l : Lent) (c : Cursor) (buffer : List ℕ)
      → (eqb (outcome_of quick l c buffer).number 0 ≡ true → l.columns ≤ 3 → P (went quick l c buffer (paged l.columns (answers_of (listing_of l)) c buffer)))
      → ((v : Reply) → eqb v.number 0 ≡ false → P (went quick l c buffer (unpaged v c buffer)))
      → P (went quick l c buffer (outcome_of quick l c buffer))
  unfolding seen_page seen_quick page_outcome quick_outcome
  by_outcome true l c buffer pages stops =
      let t = (listing_of l).tree in
      by_table true l c buffer (λ u. quick_outcome u l.query l.columns c buffer) (l.columns ≤ 3 → P (went true l c buffer (paged l.columns (answers_of (listing_of l)) c buffer)))
      (λ accept.
      by_verdict true l c buffer (verdict (quick_checks t l.query l.columns c (length buffer)))
      (quick_few t l.query l.columns c (length buffer) (verdict (quick_checks t l.query l.columns c (length buffer))) refl) accept stops)
      pages stops
  by_outcome false l c buffer pages stops =
      let t = (listing_of l).tree in
      by_table false l c buffer (λ u. page_outcome u l.query l.columns c buffer) (l.columns ≤ 3 → P (went false l c buffer (paged l.columns (answers_of (listing_of l)) c buffer)))
      (λ accept.
      by_verdict false l c buffer (verdict (page_checks t l.query l.columns c (length buffer)))
      (page_few t l.query l.columns c (length buffer) (verdict (page_checks t l.query l.columns c (length buffer))) refl) accept stops)
      pages stops

  by_call : (c : Cursor) (g : Call) → Meets c g
      → (accepted g ≡ true → g.lent.columns ≤ 3
      → P (went g.quick g.lent c g.lent_buffer (paged g.lent.columns (answers_of (listing_of g.lent)) c g.lent_buffer)))
      → ((v : Reply) → eqb v.number 0 ≡ false → P (went g.quick g.lent c g.lent_buffer (unpaged v c g.lent_buffer)))
      → P g
  by_call c g d pages stops =
      subst P (sym (settled c g d))
      (by_outcome g.quick g.lent c g.lent_buffer (λ t. pages (ap (λ (z : PageReply). eqb z.number 0) d.0 ∙ t)) stops)

-- the page that is due

take_min : (xs : List Row) (m : ℕ) → take m xs ≡ take (min (length xs) m) xs
take_min xs m = go (dec_le m (length xs))
  where
    go : Dec (m ≤ length xs) → take m xs ≡ take (min (length xs) m) xs
    go (yes h) = let e : min (length xs) m ≡ m = omega arith in rw e
    go (no h) = take_all m xs (omega arith) ∙ sym (take_all (min (length xs) m) xs (omega arith))

page_due : (quick : Bool) (g : Lent) (c : Cursor) (buffer : List ℕ) → Page c (went quick g c buffer (paged g.columns (answers_of (listing_of g)) c buffer))
page_due quick g c buffer =
    record {
      count = long;
      rows = back ∙ take_min (answers_after l c) r;
      beyond = rw (← used) (drop_at (flat P) (drop (length (flat P)) buffer) (length (flat P)) refl);
      more = some_rest (answers_after l c) r;
      cursor = ap (moved c) (sym back);
    }
  where
    l : Listing
    l = listing_of g

    k : ℕ
    k = l.columns

    r : ℕ
    r = length buffer / k

    P : List Row
    P = fitting k (answers_of l) c buffer

    wide : Wide k P
    wide s i = answers_wide l.tree l.query k s (in_after s (answers_of l) k c (in_take r s (answers_after l c) i))

    long : length P ≡ min (length (answers_after l c)) r
    long = omega (arith, length-take r (answers_after l c))

    used : length (flat P) ≡ min (length (answers_after l c)) r * k
    used = flat_long k P wide ∙ ap (λ (z : ℕ). z * k) long

    back : rows_in k (length P) (flat P ++ drop (length (flat P)) buffer) ≡ P
    back = rows_back k P (drop (length (flat P)) buffer) wide

page : (c : Cursor) (g : Call) → Meets c g → accepted g ≡ true → Page c g
page c g d = by_call (λ z. accepted z ≡ true → Page c z) c g d (λ t few _. page_due g.quick g.lent c g.lent_buffer) (λ v t e. no_yes t e)

no_page : (c : Cursor) (g : Call) → Meets c g → accepted g ≡ false → NoPage c g
no_page c g d =
    by_call (λ z. accepted z ≡ false → NoPage c z) c g d (λ t few e. no_yes e refl)
    (λ v t _. record { count = refl; more = refl; cursor = refl; buffer = refl })

-- Calls that page through the same answers.

-- what one call gave, where the answers from m on were those after the cursor
record Step (l : Listing) (m : ℕ) (g : Call) : Type 0 where
  wrote : rows_in g.lent.columns g.reply.count g.buffer ≡ take (room_of g) (drop m (answers_of l))
  count : g.reply.count ≡ min (room_of g) (length (answers_of l) - m)
  next : after l.columns (answers_of l) g.cursor ≡ drop (m + room_of g) (answers_of l)
  more : accepted g ≡ true → g.reply.more ≡ ltb (min (length (answers_of l)) (m + room_of g)) (length (answers_of l))

-- an accepted call
step_accepted : (quick : Bool) (c : Cursor) (m : ℕ) (g : Lent) (buffer : List ℕ) → g.columns ≤ 3
    → answers_after (listing_of g) c ≡ drop m (answers_of (listing_of g)) → Step (listing_of g) m (went quick g c buffer (paged g.columns (answers_of (listing_of g)) c buffer))
step_accepted quick c m g buffer small h =
    record {
      wrote = (page_due quick g c buffer).rows ∙ sym (take_min (after k L c) r) ∙ ap (λ (z : List Row). take r z) h;
      count = rw (h, length-take r (drop m L), length-drop m L);
      next = after_page_lem k L rising wide small c m r h;
      more = λ _. rw h (some_after k L rising wide small m r);
    }
  where
    l : Listing
    l = listing_of g

    k : ℕ
    k = l.columns

    L : List Row
    L = answers_of l

    rising : Rising L
    rising = answers_rising l.tree l.query l.columns

    wide : Wide k L
    wide = answers_wide l.tree l.query l.columns

    r : ℕ
    r = length buffer / l.columns

-- a refused call, whatever it is lent
step_refused : (quick : Bool) (l : Listing) (c : Cursor) (m : ℕ) (l₁ : Lent) (buffer : List ℕ) (v : Reply) → after l.columns (answers_of l) c ≡ drop m (answers_of l)
    → eqb v.number 0 ≡ false → Step l m (went quick l₁ c buffer (unpaged v c buffer))
step_refused quick l c m l₁ buffer v h t =
    record {
      wrote = rw t;
      count = rw t (omega arith);
      next = rw (t, add-zero m) h;
      more = λ e. no_yes t e;
    }

-- one call from a place on
step : (l : Listing) (c : Cursor) (m : ℕ) (g : Call) → after l.columns (answers_of l) c ≡ drop m (answers_of l) → Meets c g
    → (accepted g ≡ true → listing_of g.lent ≡ l) → Step l m g
step l c m g h d alike =
    by_call (Step l m) c g d
    (λ t few.
    subst
    (λ (z : Listing). answers_after z c ≡ drop m (answers_of z) → Step z m (went g.quick g.lent c g.lent_buffer (paged g.lent.columns (answers_of (listing_of g.lent)) c g.lent_buffer)))
    (alike t) (step_accepted g.quick c m g.lent g.lent_buffer few) h)
    (λ v t. step_refused g.quick l c m g.lent g.lent_buffer v h t)

module _ (l : Listing) where
  -- the rows that a list of calls wrote, from answer m on
  rows_from : (gs : List Call) (c : Cursor) (m : ℕ) → after l.columns (answers_of l) c ≡ drop m (answers_of l) → Chain c gs → Alike l gs
      → rows_given gs ≡ take (rooms gs) (drop m (answers_of l))
  rows_from [] c m h ch al = refl
  rows_from (g ∷ gs) c m h ch al =
      let s = step l c m g h ch.0 al.0 in
      ap₂ {C = List Row} (λ x y. x ++ y) s.wrote
      (rows_from gs g.cursor (m + room_of g) s.next ch.1 al.1
      ∙ ap (λ (z : List Row). take (rooms gs) z) (sym (drop-drop (room_of g) m (answers_of l))))
      ∙ sym (take-add (room_of g) (rooms gs) (drop m (answers_of l)))

  -- what the call g gave, after the calls before it
  step_after : (before later : List Call) (g : Call) (c : Cursor) (m : ℕ) → after l.columns (answers_of l) c ≡ drop m (answers_of l)
      → Chain c (before ++ (g ∷ later)) → Alike l (before ++ (g ∷ later)) → Step l (m + rooms before) g
  step_after [] later g c m h ch al = rw (add-zero m) (step l c m g h ch.0 al.0)
  step_after (d ∷ before) later g c m h ch al =
      let s = step l c m d h ch.0 al.0 in
      subst (λ (z : ℕ). Step l z g) (add_assoc m (room_of d) (rooms before))
      (step_after before later g d.cursor (m + room_of d) s.next ch.1 al.1)

  rooms_one : (before : List Call) (g : Call) → rooms (before ++ (g ∷ [])) ≡ rooms before + room_of g
  rooms_one [] g = omega arith
  rooms_one (d ∷ before) g = omega (arith, rooms_one before g)

  tells : (c : Cursor) (m : ℕ) → answers_after l c ≡ drop m (answers_of l) → (before later : List Call) (g : Call) → Chain c (before ++ (g ∷ later))
      → Alike l (before ++ (g ∷ later)) → Tells (drop m (answers_of l)) before g
  tells c m h before later g ch al =
      record {
        count = omega (arith, long, rooms_one before g, s.count);
        more = λ a. s.more a ∙ bool_ext (ltb all there) (ltb part left)
            (λ t. lt-ltb part left (omega (arith, long, rooms_one before g, ltb-true all there t)))
            (λ t. lt-ltb all there (omega (arith, long, rooms_one before g, ltb-true part left t)));
      }
    where
      s : Step l (m + rooms before) g
      s = step_after before later g c m h ch al

      there : ℕ
      there = length (answers_of l)

      left : ℕ
      left = length (drop m (answers_of l))

      all : ℕ
      all = min there (m + rooms before + room_of g)

      part : ℕ
      part = min left (rooms (before ++ (g ∷ [])))

      long : left ≡ there - m
      long = length-drop m (answers_of l)

  paging : (gs : List Call) (c : Cursor) → Chain c gs → Alike l gs → Paging (answers_after l c) gs
  paging gs c ch al =
      let p = after_part l.columns (answers_of l) (answers_rising l.tree l.query l.columns) c in
      subst (λ (z : List Row). Paging z gs) (sym p.1)
      (record {
        written = rows_from gs c p.0 p.1 ch al ∙ take_min (drop p.0 (answers_of l)) (rooms gs);
        each = λ before later g e.
            tells c p.0 p.1 before later g (subst (λ (z : List Call). Chain c z) e ch) (subst (λ (z : List Call). Alike l z) e al);
      })

-- Any list of calls.

-- each call of a chain did what the contract says
met : (before later : List Call) (g : Call) (c : Cursor) → Chain c (before ++ (g ∷ later)) → Meets (cursor_after c before) g
met [] later g c ch = ch.0
met (d ∷ before) later g c ch = met before later g d.cursor ch.1

met_at : (gs before later : List Call) (g : Call) (c : Cursor) → Chain c gs → gs ≡ before ++ (g ∷ later) → Meets (cursor_after c before) g
met_at gs before later g c ch e = met before later g c (subst (λ (z : List Call). Chain c z) e ch)

-- Of any list of page calls, plain and quick ones mixed, each lent the cursor that the one before it left and otherwise whatever
-- it is lent: an accepted call's count is the number of rows after its cursor or, if they are fewer, the whole rows of its
-- buffer, its rows are as many of those, it says that there is more exactly if there are others after them, and it moves the
-- cursor to the last; a refused one leaves cursor and buffer as they were, counts nothing and says that there is no more. And
-- where all accepted calls are for a party that sees the same tree, and lent the same query and number of variables: the rows written, in the order of the calls,
-- are the first m of the answers, if the first cursor is fresh, or of those after it, m being the smaller of their number and the
-- sum of the whole rows that the accepted calls had room for; the count of each call is what it added to m; an accepted call says
-- that there is more exactly if m after it is below their number.
pub demand3 : (c : Cursor) (gs : List Call) → Chain c gs → Demand3 c gs
demand3 c gs ch =
    record {
      page = λ before later g e. page (cursor_after c before) g (met_at gs before later g c ch e);
      refused = λ before later g e. no_page (cursor_after c before) g (met_at gs before later g c ch e);
      fresh = λ l al f. rw f at (paging l gs c ch al);
      resumed = λ l al. paging l gs c ch al;
    }

-- the outcome of a call that is asked for
abbrev outcome : Asked → Cursor → Outcome
outcome l c = outcome_of l.0 l.1 c l.2

-- the calls that are asked for in ls, from the cursor c on
abbrev calls_from : Cursor → List Asked → List Call
calls_from c [] = []
calls_from c (l ∷ ls) = went l.0 l.1 c l.2 (outcome l c) ∷ calls_from (outcome l c).cursor ls

calls_lent : (c : Cursor) (ls : List Asked) → lent_to (calls_from c ls) ≡ ls
calls_lent c [] = refl
calls_lent c (l ∷ ls) = ap {B = List Asked} (λ z. l ∷ z) (calls_lent (outcome l c).cursor ls)

calls_chain : (c : Cursor) (ls : List Asked) → Chain c (calls_from c ls)
calls_chain c [] = tt
calls_chain c (l ∷ ls) = ((refl, refl, refl), calls_chain (outcome l c).cursor ls)

calls_only : (c : Cursor) (gs : List Call) → Chain c gs → gs ≡ calls_from c (lent_to gs)
calls_only c [] ch = refl
calls_only c (g ∷ gs) ch =
    ap₂ {C = List Call} (λ x y. x ∷ y) (settled c g ch.0)
    (calls_only g.cursor gs ch.1 ∙ ap (λ (z : Cursor). calls_from z (lent_to gs)) ch.0.1)

-- Whatever calls are lent one after the other, from any cursor on, there is such a list of them, and only one.
pub chain_exists : (c : Cursor) (ls : List Asked) → OneChain c ls
chain_exists c ls =
    record {
      calls = calls_from c ls;
      lent = calls_lent c ls;
      chain = calls_chain c ls;
      only = λ gs e ch. calls_only c gs ch ∙ ap (calls_from c) e;
    }
