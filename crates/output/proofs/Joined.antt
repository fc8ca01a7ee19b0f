-- The pieces of a file's output, joined: from the beginning on they are the output, whatever the sizes of the buffers.
use Rattle.std.proofs.Common.{◌≡◌, ℕ, ◌+◌, ◌-◌, ◌/◌, ◌%◌, ◌^◌, ◌<◌, ◌≤◌, min, Bool, true, false, cond, not, eqb, ltb, List, [], ◌∷◌, ◌++◌, length, get_or, take, drop, sym, refl, ap, ◌∙◌, subst, append_assoc, append-nil, mod-eq_of_lt, le-div_iff_mul-le, arith, length-append, length-drop, take-append-drop, drop_of_length-le, length-take, drop-drop, take_at, ltb-false, ltb-true, le-ltb, eq-eqb, eqb-true}
use Rattle.model.specs.Sets.{bit}
use Rattle.model.specs.Tree.{size_of}
use Rattle.model.specs.Answers.{Row}
use Rattle.model.specs.Pages.{row_of, has_begun, after, moved, some}
use Rattle.model.specs.Accepted.{Below}
use Rattle.model.specs.Parties.{over_seen}
use Rattle.model.specs.Refusals.{reply}
use Rattle.model.proofs.Booleans.{Seen, yes!, no!, seen, no_yes}
use Rattle.model.proofs.Answers.{In, Wide, Rising, answers_rising, answers_wide, answers_member}
use Rattle.answers.proofs.Paging.{in_at, in_take, in_drop, moved_row, drop_same, after_rows, some_after}
use Rattle.lines.specs.Lines.{row_line, end_line, refused_line}
use Rattle.output.specs.declared.Position.{Position}
use Rattle.output.specs.declared.Piece.{Piece}
use Rattle.output.specs.Output.{shared_in, party_in, tree_in, query_in, columns_in, job_verdict, answers_in, lines_of, output_of}
use Rattle.output.specs.Piece.{beginning, smallest, numbers_for, PieceOutcome, too_short, end_piece, rows_piece, tables_piece, shared_piece, job_piece, list_piece, piece_outcome, PieceLeaves}
use Rattle.output.specs.Calls.{Call, Chain, joined, roomy, Unfinished, Printed, Pieces}
use Rattle.output.proofs.Verdict.{file_passes, table_passes, accepted_reply, most, least, few, page_passes, refused_list}

-- lines of rows

lines_append : (xs ys : List Row) → lines_of (xs ++ ys) ≡ lines_of xs ++ lines_of ys
lines_append [] ys = refl
lines_append (x ∷ xs) ys =
    ap (λ (l : List ℕ). row_line x ++ l) (lines_append xs ys) ∙ sym (append_assoc (row_line x) (lines_of xs) (lines_of ys))

end_some : (n : ℕ) → 0 < length (end_line n)
unfolding end_line
end_some n = omega arith

refused_some : (n p : ℕ) → 0 < length (refused_line n p)
unfolding refused_line
refused_some n p = omega arith

-- room for a line is room for a row
row_room : (room k : ℕ) → smallest ≤ room → k ≤ 3 → 1 ≤ k → (k ≤ numbers_for room) × (1 ≤ numbers_for room / k)
row_room room k h l s =
    let a : 4 ≤ room / 6 = (le-div_iff_mul-le {k = 6} {x = 4} {y = room} (omega arith)).1 (omega arith) in
    let b : k ≤ numbers_for room = omega (arith, a) in
    (b, (le-div_iff_mul-le {k = k} {x = 1} {y = numbers_for room} s).1 (omega (arith, b)))

module _ (file : List ℕ) where
  abbrev T : List ℕ
  T = tree_in file

  abbrev k : ℕ
  k = columns_in file

  abbrev A : List Row
  A = answers_in file

  rising : Rising A
  unfolding answers_in
  rising = answers_rising T (query_in file) k

  wide : Wide k A
  unfolding answers_in
  wide = answers_wide T (query_in file) k

  below : (r : Row) → In r A → Below (size_of T) r
  unfolding answers_in
  below r i = ((answers_member T (query_in file) k r).0 i).1

  -- m rows of an accepted file are written, and the cursor stands after them
  pub record Stands (at : Position) (m : ℕ) : Type 0 where
    pub accepted : (job_verdict file).number ≡ 0
    pub within : m ≤ length A
    pub total : at.total ≡ m
    pub next : after k A at.cursor ≡ drop m A
    pub nodes : has_begun at.cursor ≡ true → Below (size_of T) (row_of k at.cursor)

  -- from a position on, so many bytes are to come
  pub data At (at : Position) (rest : List ℕ) : Type 0 where
    refused : ((job_verdict file).number ≡ 0 → ⊥) → at.listed ≡ false → rest ≡ refused_line (job_verdict file).number (job_verdict file).place → At at rest
    listing : (m : ℕ) → Stands at m → at.listed ≡ false → rest ≡ lines_of (drop m A) ++ end_line (length A) → At at rest
    ended : job_verdict file ≡ reply 0 0 → at.total ≡ length A → at.listed ≡ true → rest ≡ end_line (length A) → At at rest

  -- how many pieces are to come at most, besides the last
  abbrev pub left : Position → ℕ
  left at = cond at.listed 0 (length A - at.total + 1)

  left_listing : (at : Position) (m : ℕ) → at.listed ≡ false → at.total ≡ m → left at ≡ length A - m + 1
  left_listing at m l t = ap (λ (b : Bool). cond b 0 (length A - at.total + 1)) l ∙ ap (λ (n : ℕ). length A - n + 1) t

  left_ended : (at : Position) → at.listed ≡ true → left at ≡ 0
  left_ended at l = ap (λ (b : Bool). cond b 0 (length A - at.total + 1)) l

  -- some bytes are to come
  some_left : (at : Position) (rest : List ℕ) → At at rest → 0 < length rest
  some_left at rest (refused z l e) = rw e (refused_some (job_verdict file).number (job_verdict file).place)
  some_left at rest (listing m s l e) =
      rw e (omega (arith, length-append (lines_of (drop m A)) (end_line (length A)), end_some (length A)))
  some_left at rest (ended z t l e) = rw e (end_some (length A))

  -- what a piece does: it is the last, and all that was to come; or the rest is still to come after it
  data Goes (at : Position) (rest : List ℕ) (o : PieceOutcome) : Type 0 where
    lasts : o.last ≡ true → o.bytes ≡ rest → o.reply ≡ job_verdict file → Goes at rest o
    goes_on : o.last ≡ false → (rest' : List ℕ) → rest ≡ o.bytes ++ rest' → left o.next < left at → At o.next rest' → Goes at rest o

  -- which piece it is, by whether all rows are written
  module _ (at : Position) (room : ℕ) where
    unlisted : at.listed ≡ false → cond at.listed (end_piece at) (list_piece file at room) ≡ list_piece file at room
    unlisted e = ap (λ (b : Bool). cond b (end_piece at) (list_piece file at room)) e

    all_listed : at.listed ≡ true → cond at.listed (end_piece at) (list_piece file at room) ≡ end_piece at
    all_listed e = ap (λ (b : Bool). cond b (end_piece at) (list_piece file at room)) e

  -- an accepted file's piece of rows
  module _ (at : Position) (m : ℕ) (s : Stands at m) (room : ℕ) (h : smallest ≤ room) where
    abbrev r : ℕ
    r = numbers_for room / k

    abbrev rows : List Row
    rows = take r (drop m A)

    most' : k ≤ 3
    most' = most file s.accepted

    some_room : (k ≤ numbers_for room) × (1 ≤ r)
    some_room = row_room room k h most' (least file s.accepted)

    rows_are : list_piece file at room ≡ rows_piece at rows (some (drop r (drop m A)))
    unfolding list_piece job_piece shared_piece over_seen tables_piece answers_in tree_in shared_in party_in query_in columns_in
    rows_are =
        rw (
          eq-eqb 0 0 refl,
          file_passes file s.accepted,
          table_passes file s.accepted,
          page_passes file s.accepted at.cursor (numbers_for room) s.nodes some_room.0,
          s.next,
        )

    count : length rows ≡ min r (length A - m)
    count = length-take r (drop m A) ∙ ap (min r) (length-drop m A)

    -- where the output stands after it
    abbrev next : Position
    next = (rows_piece at rows (some (drop r (drop m A)))).next

    row_below : (xs : List Row) → ((x : Row) → In x xs → In x A) → has_begun (moved at.cursor xs) ≡ true → Below (size_of T) (row_of k (moved at.cursor xs))
    row_below [] i b = s.nodes b
    row_below (x ∷ xs) i b =
        rw (moved_row k at.cursor x xs (λ y j. wide y (i y j)) most')
        (below (get_or (x ∷ xs) (length xs) []) (i (get_or (x ∷ xs) (length xs) []) (in_at (x ∷ xs) (length xs) [] (omega arith))))

    stands_next : Stands next (m + length rows)
    stands_next = record {
      accepted = s.accepted;
      within = omega (arith, count, s.within);
      total =
          ap (λ (t : ℕ). (t + length rows) % 2 ^ 64) s.total
          ∙ mod-eq_of_lt (omega (arith, count, s.within, few file s.accepted));
      next = after_rows k A rising wide most' at.cursor m r rows refl s.next;
      nodes = row_below rows (λ x i. in_drop m x A (in_take r x (drop m A) i));
    }

    rest_is : lines_of (drop m A) ++ end_line (length A) ≡ lines_of rows ++ (lines_of (drop (m + length rows) A) ++ end_line (length A))
    rest_is =
        ap (λ (l : List ℕ). l ++ end_line (length A))
        (ap lines_of (sym (take-append-drop r (drop m A))) ∙ lines_append rows (drop r (drop m A)) ∙ ap (λ (l : List Row). lines_of rows ++ lines_of l) dropped)
        ∙ append_assoc (lines_of rows) (lines_of (drop (m + length rows) A)) (end_line (length A))
      where
        dropped : drop r (drop m A) ≡ drop (m + length rows) A
        dropped = drop-drop r m A ∙ sym (drop_same k A rising wide most' m r)

    goes_rows : (rest : List ℕ) → rest ≡ lines_of (drop m A) ++ end_line (length A) → at.listed ≡ false → Seen (some (drop r (drop m A)))
        → Goes at rest (rows_piece at rows (some (drop r (drop m A))))
    goes_rows rest e l (yes! t) =
        let more : min (length A) (m + r) < length A = ltb-true (min (length A) (m + r)) (length A) (sym (some_after k A rising wide most' m r) ∙ t) in
        Goes.goes_on refl (lines_of (drop (m + length rows) A) ++ end_line (length A)) (e ∙ rest_is)
        (omega (arith, left_listing next (m + length rows) (ap not t) stands_next.total, left_listing at m l s.total, count, more, some_room.1))
        (At.listing (m + length rows) stands_next (ap not t) refl)
    goes_rows rest e l (no! t) =
        let all : length A ≤ min (length A) (m + r) = ltb-false (min (length A) (m + r)) (length A) (sym (some_after k A rising wide most' m r) ∙ t) in
        let end : m + length rows ≡ length A = omega (arith, count, all, s.within) in
        Goes.goes_on refl (end_line (length A))
        (e ∙ rest_is ∙ ap (λ (l : List ℕ). lines_of rows ++ l) (ap (λ (l : List Row). lines_of l ++ end_line (length A)) (drop_of_length-le A {i = m + length rows} (omega (arith, end)))))
        (omega (arith, left_ended next (ap not t), left_listing at m l s.total))
        (At.ended (accepted_reply file s.accepted) (stands_next.total ∙ end) (ap not t) refl)

  -- a piece in a buffer that is not too short
  goes : (at : Position) (rest : List ℕ) (room : ℕ) → smallest ≤ room → At at rest → Goes at rest (piece_outcome file at room)
  unfolding piece_outcome
  goes at rest room h (At.refused z l e) =
      rw (le-ltb room 25 h)
      (subst (λ (o : PieceOutcome). Goes at rest o) (sym (unlisted at room l ∙ refused_list file z at room)) (Goes.lasts refl (sym e) refl))
  goes at rest room h (At.listing m s l e) =
      rw (le-ltb room 25 h)
      (subst (λ (o : PieceOutcome). Goes at rest o) (sym (unlisted at room l ∙ rows_are at m s room h)) (goes_rows at m s room h rest e l (seen (some (drop (numbers_for room / k) (drop m A))))))
  goes at rest room h (At.ended z t l e) =
      rw (le-ltb room 25 h)
      (subst (λ (o : PieceOutcome). Goes at rest o) (sym (all_listed at room l)) (Goes.lasts refl (ap end_line t ∙ sym e) (sym z)))

  -- One call.

  -- it wrote the bytes of its piece
  written : (o : PieceOutcome) (g : Call) → PieceLeaves o g.lent_buffer g.piece g.buffer → take g.piece.count g.buffer ≡ o.bytes
  written o g d =
      rw (d.0, d.1) (take_at o.bytes (drop (length o.bytes) g.lent_buffer) (length o.bytes) refl)

  -- what it did: its piece is the last, and all that was to come; or the rest is still to come after it
  data Did (at : Position) (rest : List ℕ) (g : Call) : Type 0 where
    lasts : g.piece.last ≡ true → take g.piece.count g.buffer ≡ rest → g.piece.reply ≡ job_verdict file → Did at rest g
    goes_on : g.piece.last ≡ false → (rest' : List ℕ) → rest ≡ take g.piece.count g.buffer ++ rest'
        → bit (not (ltb (length g.lent_buffer) smallest)) + left g.piece.next ≤ left at → At g.piece.next rest' → Did at rest g

  did : (at : Position) (rest : List ℕ) (g : Call) → At at rest
      → PieceLeaves (piece_outcome file at (length g.lent_buffer)) g.lent_buffer g.piece g.buffer → Did at rest g
  unfolding piece_outcome
  did at rest g a d = go (seen (ltb (length g.lent_buffer) 25))
    where
      -- it goes on at this position
      on : (o : PieceOutcome) (rest' : List ℕ) → PieceLeaves o g.lent_buffer g.piece g.buffer → o.last ≡ false → rest ≡ o.bytes ++ rest'
          → bit (not (ltb (length g.lent_buffer) 25)) + left o.next ≤ left at → At o.next rest' → Did at rest g
      on o rest' w l e p next =
          let same : g.piece.next ≡ o.next = ap (λ (p : Piece). p.next) w.0 in
          Did.goes_on (ap (λ (p : Piece). p.last) w.0 ∙ l) rest' (e ∙ ap (λ (b : List ℕ). b ++ rest') (sym (written o g w)))
          (subst (λ (q : Position). bit (not (ltb (length g.lent_buffer) 25)) + left q ≤ left at) (sym same) p)
          (subst (λ (q : Position). At q rest') (sym same) next)

      from : Goes at rest (piece_outcome file at (length g.lent_buffer)) → ltb (length g.lent_buffer) 25 ≡ false → Did at rest g
      from (Goes.lasts l b r) t =
          Did.lasts (ap (λ (p : Piece). p.last) d.0 ∙ l) (written (piece_outcome file at (length g.lent_buffer)) g d ∙ b) (ap (λ (p : Piece). p.reply) d.0 ∙ r)
      from (Goes.goes_on l rest' e p next) t =
          let one : bit (not (ltb (length g.lent_buffer) 25)) ≡ 1 = ap (λ (b : Bool). bit (not b)) t in
          on (piece_outcome file at (length g.lent_buffer)) rest' d l e (omega (arith, one, p)) next

      go : Seen (ltb (length g.lent_buffer) 25) → Did at rest g
      go (yes! t) = on (too_short at) rest (rw t at d) refl refl (rw t (omega arith)) a
      go (no! t) = from (goes at rest (length g.lent_buffer) (ltb-false (length g.lent_buffer) 25 t) a) t

  -- The same of a call with room for a line, for a loop of such calls.

  -- some output is to come from a position on
  abbrev pub Printing : Position → Type 0
  Printing at = (rest : List ℕ) × At at rest

  module _ (at : Position) (w : Printing at) (before : List ℕ) (p : Piece) (out : List ℕ) (d : PieceLeaves (piece_outcome file at (length before)) before p out)
      (h : smallest ≤ length before) where
    pub printed_more : p.last ≡ false → Printing p.next × (left p.next < left at)
    printed_more l = go (did at w.0 (record { lent_buffer = before; piece = p; buffer = out }) w.1 d)
      where
        go : Did at w.0 (record { lent_buffer = before; piece = p; buffer = out }) → Printing p.next × (left p.next < left at)
        go (Did.lasts f b r) = no_yes l f
        go (Did.goes_on _ rest e m next) =
            let one : bit (not (ltb (length before) 25)) ≡ 1 = ap (λ (b : Bool). bit (not b)) (le-ltb (length before) 25 h) in
            ((rest, next), omega (arith, one, m))

    pub printed_all : p.last ≡ true → p.reply ≡ job_verdict file
    printed_all l = go (did at w.0 (record { lent_buffer = before; piece = p; buffer = out }) w.1 d)
      where
        go : Did at w.0 (record { lent_buffer = before; piece = p; buffer = out }) → p.reply ≡ job_verdict file
        go (Did.lasts _ b r) = r
        go (Did.goes_on f rest e m next) = no_yes f l

  -- A list of calls.

  front_from : (gs : List Call) (at : Position) (rest : List ℕ) → At at rest → Chain file at gs → Unfinished gs
      → (rest' : List ℕ) × (0 < length rest') × (joined gs ++ rest' ≡ rest)
  front_from [] at rest a ch u = (rest, some_left at rest a, refl)
  front_from (g ∷ gs) at rest a ch u =
      go (λ rest₁ next. front_from gs g.piece.next rest₁ next ch.1 u.1) (did at rest g a ch.0)
    where
      go : ((rest₁ : List ℕ) → At g.piece.next rest₁ → (rest' : List ℕ) × (0 < length rest') × (joined gs ++ rest' ≡ rest₁))
          → Did at rest g → (rest' : List ℕ) × (0 < length rest') × (joined (g ∷ gs) ++ rest' ≡ rest)
      go ih (Did.lasts l b r) = no_yes u.0 l
      go ih (Did.goes_on l rest₁ e p next) =
          let w = ih rest₁ next in
          (w.0, w.1, append_assoc (take g.piece.count g.buffer) (joined gs) w.0 ∙ ap (λ (b : List ℕ). take g.piece.count g.buffer ++ b) w.2 ∙ sym e)

  ends_from : (gs : List Call) (at : Position) (rest : List ℕ) → At at rest → Chain file at gs → Unfinished gs → roomy gs ≤ left at
  ends_from [] at rest a ch u = omega arith
  ends_from (g ∷ gs) at rest a ch u =
      go (λ rest₁ next. ends_from gs g.piece.next rest₁ next ch.1 u.1) (did at rest g a ch.0)
    where
      go : ((rest₁ : List ℕ) → At g.piece.next rest₁ → roomy gs ≤ left g.piece.next) → Did at rest g → roomy (g ∷ gs) ≤ left at
      go ih (Did.lasts l b r) = no_yes u.0 l
      go ih (Did.goes_on l rest₁ e p next) = omega (arith, p, ih rest₁ next)

  whole_from : (before : List Call) (g : Call) (at : Position) (rest : List ℕ) → At at rest → Chain file at (before ++ (g ∷ []))
      → Unfinished before → g.piece.last ≡ true → (joined (before ++ (g ∷ [])) ≡ rest) × (g.piece.reply ≡ job_verdict file)
  whole_from [] g at rest a ch u l = go (did at rest g a ch.0)
    where
      go : Did at rest g → (joined (g ∷ []) ≡ rest) × (g.piece.reply ≡ job_verdict file)
      go (Did.lasts _ b r) = (append-nil (take g.piece.count g.buffer) ∙ b, r)
      go (Did.goes_on f rest₁ e p next) = no_yes f l
  whole_from (d ∷ before) g at rest a ch u l =
      go (λ rest₁ next. whole_from before g d.piece.next rest₁ next ch.1 u.1 l) (did at rest d a ch.0)
    where
      go : ((rest₁ : List ℕ) → At d.piece.next rest₁ → (joined (before ++ (g ∷ [])) ≡ rest₁) × (g.piece.reply ≡ job_verdict file))
          → Did at rest d → (joined (d ∷ (before ++ (g ∷ []))) ≡ rest) × (g.piece.reply ≡ job_verdict file)
      go ih (Did.lasts f b r) = no_yes u.0 f
      go ih (Did.goes_on _ rest₁ e p next) =
          let w = ih rest₁ next in
          (ap (λ (b : List ℕ). take d.piece.count d.buffer ++ b) w.0 ∙ sym e, w.1)

  -- at the beginning all of the output is to come
  at_beginning : At beginning (output_of file)
  unfolding output_of
  at_beginning = go (seen (eqb (job_verdict file).number 0))
    where
      go : Seen (eqb (job_verdict file).number 0) → At beginning (output_of file)
      go (yes! t) =
          rw t
          (At.listing 0 (record { accepted = eqb-true (job_verdict file).number 0 t; within = omega arith; total = refl; next = refl; nodes = λ b. no_yes refl b }) refl refl)
      go (no! t) = rw t (At.refused (λ z. no_yes t (eq-eqb (job_verdict file).number 0 z)) refl refl)

  pub printing_first : (at : Position) → at ≡ beginning → Printing at
  printing_first at e = subst (λ (p : Position). Printing p) (sym e) (output_of file, at_beginning)

  -- Of any list of calls over a file from the output's beginning on, with buffers of any sizes: while none has said that its piece
  -- is the last, the pieces joined are the front of the file's output, and some of it is to come, in no more pieces than there are
  -- answers and the one after them; once a call says so, they are the whole output, and its reply is the verdict on the file. A
  -- buffer that is too short gets nothing, and changes nothing.
  pub pieces_joined : (gs : List Call) → Chain file beginning gs → Printed file gs
  pieces_joined gs ch = record {
    front = front_from gs beginning (output_of file) at_beginning ch;
    ends = λ u. omega (arith, ends_from gs beginning (output_of file) at_beginning ch u);
    whole = λ before g e u l.
        subst (λ (z : List Call). Chain file beginning z → (joined z ≡ output_of file) × (g.piece.reply ≡ job_verdict file)) (sym e)
        (λ c. whole_from before g beginning (output_of file) at_beginning c u l) ch;
  }

  -- whatever buffers are lent, there are calls that are lent them, from every position on
  pub pieces_exist : (at : Position) (buffers : List (List ℕ)) → Pieces file at buffers
  pieces_exist at [] = record { calls = []; lent = refl; chain = tt }
  pieces_exist at (b ∷ bs) =
      let o = piece_outcome file at (length b) in
      let p : Piece = record { reply = o.reply; count = length o.bytes; last = o.last; next = o.next } in
      let w = pieces_exist o.next bs in
      record {
        calls = record { lent_buffer = b; piece = p; buffer = o.bytes ++ drop (length o.bytes) b } ∷ w.calls;
        lent = ap (λ (l : List (List ℕ)). b ∷ l) w.lent;
        chain = ((refl, refl), w.chain);
      }
