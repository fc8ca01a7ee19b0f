-- Laws of bytes that are written over a buffer, one run after another.
use Prim.Native.Nat.{ℕ, ◌+◌, ◌≤◌, ◌<◌}
use native.Mathlib.Nat.{add-zero, add_assoc}
use native.Mathlib.Numerals.{add-one}
use native.Mathlib.Omega.{arith}
use mathlib.Core.Path.{◌≡◌, refl, sym, ap, ◌∙◌}
use mathlib.Core.List.{List, [], ◌∷◌, ◌++◌, append_assoc, append-nil}
use lib.ListN.{length, set, take, drop, length-append, length-drop, take-append-drop}
use lib.Seq.{set_split, take_at, drop_at, drop-drop, length-take-le}
use borrow.Rule.Slice.PartMut.{put_mid}
use Rattle.lines.specs.Lines.{put, Wrote}

put_none : (at : ℕ) (l : List ℕ) → put at [] l ≡ l
unfolding put
put_none at l = rw (add-zero at) (take-append-drop at l)

put_one : (at : ℕ) (l : List ℕ) (v : ℕ) → at < length l → set l at v ≡ put at (v ∷ []) l
unfolding put
put_one at l v h = set_split l at v h ∙ ap (λ (k : ℕ). take at l ++ (v ∷ drop k l)) (sym (add-one at))

module _ (at : ℕ) (xs l : List ℕ) (fits : at + length xs ≤ length l) where
  front : length (take at l ++ xs) ≡ at + length xs
  front = rw (length-append (take at l) xs, length-take-le at l (omega arith))

  split : put at xs l ≡ (take at l ++ xs) ++ drop (at + length xs) l
  unfolding put
  split = sym (append_assoc (take at l) xs (drop (at + length xs) l))

  length_put : length (put at xs l) ≡ length l
  length_put = rw (split, length-append (take at l ++ xs) (drop (at + length xs) l), front, length-drop (at + length xs) l) (omega arith)

  -- one run, and another right behind it
  put_put : (ys : List ℕ) → put (at + length xs) ys (put at xs l) ≡ put at (xs ++ ys) l
  unfolding put
  put_put ys =
      rw (split, take_at (take at l ++ xs) (drop (at + length xs) l) (at + length xs) front, rest, append_assoc (take at l) xs (ys ++ drop (at + length xs + length ys) l), length-append xs ys)
      (ap (λ (r : List ℕ). take at l ++ r) (sym (append_assoc xs ys (drop (at + length xs + length ys) l)) ∙ ap (λ (k : ℕ). (xs ++ ys) ++ drop k l) (add_assoc at (length xs) (length ys))))
    where
      rest : drop (at + length xs + length ys) ((take at l ++ xs) ++ drop (at + length xs) l) ≡ drop (at + length xs + length ys) l
      rest =
          sym (drop-drop (length ys) (at + length xs) ((take at l ++ xs) ++ drop (at + length xs) l))
          ∙ ap (drop (length ys)) (drop_at (take at l ++ xs) (drop (at + length xs) l) (at + length xs) front)
          ∙ drop-drop (length ys) (at + length xs) l

-- on the way of writing the bytes `whole` at a place of a buffer, which has room for them: what is left goes to `next` of the
-- buffer as it is now
pub record Writing (whole : List ℕ) (at : ℕ) (before left : List ℕ) (next : ℕ) (now : List ℕ) : Type 0 where
  pub room : at + length whole ≤ length before
  pub place : next + length left ≡ at + length whole
  pub same : length now ≡ length before
  pub buffer : put next left now ≡ put at whole before

module _ (whole : List ℕ) (at : ℕ) (before : List ℕ) where
  pub begin : at + length whole ≤ length before → Writing whole at before whole at before
  begin h = record { room = h; place = refl; same = refl; buffer = refl }

  module _ (next : ℕ) (now : List ℕ) where
    -- there is room for what comes next
    pub fits : (xs left rest : List ℕ) → Writing whole at before left next now → left ≡ xs ++ rest → next + length xs ≤ length now
    fits xs left rest w e = omega (arith, w.room, w.place, w.same, ap length e, length-append xs rest)

    pub go_on : (xs left rest : List ℕ) (next' : ℕ) (now' : List ℕ) → Writing whole at before left next now → left ≡ xs ++ rest → Wrote xs next now now' next'
        → Writing whole at before rest next' now'
    go_on xs left rest next' now' w e s = record {
      room = w.room;
      place = omega (arith, w.place, s.moved, ap length e, length-append xs rest);
      same = ap length s.buffer ∙ length_put next xs now (fits xs left rest w e) ∙ w.same;
      buffer = rw (s.buffer, s.moved) (put_put next xs now (fits xs left rest w e) rest ∙ ap (λ (l : List ℕ). put next l now) (sym e) ∙ w.buffer);
    }

    pub end : (left : List ℕ) → Writing whole at before left next now → left ≡ [] → Wrote whole at before now next
    end left w e = record {
      moved = omega (arith, w.place, ap length e);
      buffer = sym (put_none next now) ∙ ap (λ (l : List ℕ). put next l now) (sym e) ∙ w.buffer;
    }

  -- the first run, and the last

  pub first : (xs rest : List ℕ) (next : ℕ) (now : List ℕ) → at + length whole ≤ length before → whole ≡ xs ++ rest → Wrote xs at before now next → Writing whole at before rest next now
  first xs rest next now h e s = go_on at before xs whole rest next now (begin h) e s

  module _ (next : ℕ) (now xs : List ℕ) (w : Writing whole at before xs next now) where
    pub last_fits : next + length xs ≤ length now
    last_fits = fits next now xs xs [] w (sym (append-nil xs))

    pub last : (next' : ℕ) (now' : List ℕ) → Wrote xs next now now' next' → Wrote whole at before now' next'
    last next' now' s = end next' now' [] (go_on next now xs xs [] next' now' w (sym (append-nil xs)) s) refl

pub wrote_one : (at : ℕ) (l : List ℕ) (v : ℕ) → at < length l → Wrote (v ∷ []) at l (set l at v) (at + 1)
wrote_one at l v h = record { moved = refl; buffer = put_one at l v h }

-- bytes that were written from the front of a buffer on are within it
pub line_within : (bytes before after : List ℕ) (n : ℕ) → Wrote bytes 0 before after n → length after ≡ length before → n ≤ length after
unfolding put
line_within bytes before after n w e =
    omega (arith, w.moved, e, ap length w.buffer, length-append bytes (drop (0 + length bytes) before), length-drop (0 + length bytes) before)

-- bytes that were copied over a part of a buffer
pub wrote_part : (at n : ℕ) (bytes part l : List ℕ) → n ≡ length bytes → part ≡ bytes → put_mid at n l part ≡ put at bytes l
unfolding put
wrote_part at n bytes part l h e = rw (h, e) (ap (λ (r : List ℕ). take at l ++ (bytes ++ r)) (drop-drop (length bytes) at l))
