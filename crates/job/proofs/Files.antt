-- Laws of the job file.
use Prim.Native.Nat.{ℕ, zero, suc, ◌+◌, ◌-◌, ◌*◌, ◌≤◌, ◌<◌, max}
use native.Mathlib.Omega.{arith}
use mathlib.Core.Path.{◌≡◌, refl, sym, ap, ◌∙◌}
use mathlib.Core.Logic.{⊎_elim}
use mathlib.Core.Bool.{Bool, true, false, not, cond, ◌&&◌, ◌||◌, or-false}
use mathlib.Core.List.{List, [], ◌∷◌, ◌++◌}
use lib.ListN.{length, set, drop}
use lib.Dec.{ltb, leb, eqb}
use borrow.Author.Tests.{ltb-true, ltb-false, lt-ltb, le-ltb, le-leb, leb-true, eq-eqb, eqb-true, eqb-false, not-true, ne_eqb}
use Rattle.model.specs.Sets.{any}
use Rattle.model.specs.Refusals.{reply, refused, verdict}
use Rattle.model.specs.declared.Reply.{Reply}
use Rattle.model.specs.declared.refusal.Refusal.{Refusal}
use Rattle.model.proofs.Refusals.{numbered, Passes, accepted, refused_some}
use Rattle.model.proofs.Bytes.{front_more, front_done}
use Rattle.model.proofs.Booleans.{Seen, yes!, no!, seen, bool_ext, both_yes, yes_left, yes_right, or_left, or_right, or_cases, no_or}
use Rattle.model.proofs.Exists.{any_intro, any_elim}
use Rattle.job.specs.declared.Span.{Span}
use Rattle.job.specs.declared.Pointer.{Pointer}
use Rattle.job.specs.declared.Trailer.{Trailer}
use Rattle.job.specs.JobFile.{bad_magic, number_at, numbers, magic_of, trailer_size, trailer_start, party_of, trailer_at, trailer_of, bad_length, span_of, end_of, outside, covers, overlap, part_checks, file_checks, Job, refused_job, job_of}

-- one number more at the end
numbers_more : (f : List ℕ) (at n : ℕ) → numbers f at (suc n) ≡ numbers f at n ++ (number_at f (at + 2 * n) ∷ [])
unfolding numbers
numbers_more f at zero = rw (here at)
  where
    here : (a : ℕ) → a + 0 ≡ a
    here a = omega arith
numbers_more f at (suc n) = ap (λ (l : List ℕ). number_at f at ∷ l) (numbers_more f (at + 2) n ∙ ap (λ (k : ℕ). numbers f (at + 2) n ++ (number_at f k ∷ [])) (over at n))
  where
    over : (a n : ℕ) → a + 2 + 2 * n ≡ a + 2 * suc n
    over a n = omega arith

pub length_numbers : (f : List ℕ) (at n : ℕ) → length (numbers f at n) ≡ n
unfolding numbers
length_numbers f at zero = refl
length_numbers f at (suc n) = ap suc (length_numbers f (at + 2) n)

-- the loop that writes them over the front of a list
module _ (f : List ℕ) (at : ℕ) (d : List ℕ) where
  pub none_written : d ≡ numbers f at 0 ++ drop 0 d
  unfolding numbers
  none_written = refl

  pub one_written : (l : List ℕ) (i v : ℕ) → l ≡ numbers f at i ++ drop i d → v ≡ number_at f (at + 2 * i) → i < length d → set l i v ≡ numbers f at (i + 1) ++ drop (i + 1) d
  one_written l i v p q h = front_more (numbers f at) d l i p v (numbers_more f at i ∙ ap (λ (x : ℕ). numbers f at i ++ (x ∷ [])) (sym q)) (length_numbers f at i) h

  pub all_written : (l : List ℕ) (i n : ℕ) → l ≡ numbers f at i ++ drop i d → i ≤ n → n ≤ i → l ≡ numbers f at n ++ drop n d
  all_written l i n p a b = front_done (numbers f at) d l i p n a b

-- a part that is outside, and one that is not

pub before_file : (n start d : ℕ) (p : Pointer) → n < d → d ≡ p.distance → true ≡ outside n start p
unfolding outside
before_file n start d p h e = rw (lt-ltb n p.distance (omega arith))

pub past_trailer : (n start d : ℕ) (p : Pointer) (s : Span) → s ≡ span_of n p → d ≤ n → d ≡ p.distance → ltb start (end_of s) ≡ outside n start p
unfolding outside
past_trailer n start d p s q h e = rw (q, le-ltb n p.distance (omega arith))

module _ (n start : ℕ) (p : Pointer) (b : Bool) where
  inside : b ≡ outside n start p → b ≡ false → (ltb n p.distance ≡ false) × (ltb start (end_of (span_of n p)) ≡ false)
  unfolding outside
  inside e f = no_or (ltb n p.distance) (ltb start (end_of (span_of n p))) (sym e ∙ f)

  pub starts_inside : b ≡ outside n start p → b ≡ false → p.distance ≤ n
  starts_inside e f = ltb-false n p.distance (inside e f).0

  ends_before : b ≡ outside n start p → b ≡ false → end_of (span_of n p) ≤ start
  ends_before e f = ltb-false start (end_of (span_of n p)) (inside e f).1

  pub ends_inside : (s : Span) → s ≡ span_of n p → b ≡ outside n start p → b ≡ false → start ≤ n → end_of s ≤ n
  ends_inside s q e f h = rw q (let l : end_of (span_of n p) ≤ start = ends_before e f in omega arith)

all_four : (w x y z : Bool) → ((w && x) && (y && z)) ≡ true → (w ≡ true) × (x ≡ true) × (y ≡ true) × (z ≡ true)
all_four w x y z h =
    let l : (w && x) ≡ true = yes_left (w && x) (y && z) h in
    let r : (y && z) ≡ true = yes_right (w && x) (y && z) h in
    (yes_left w x l, yes_right w x l, yes_left y z r, yes_right y z r)

-- a number is not 0
some : (c : ℕ) → 0 < c → not (eqb c 0) ≡ true
some c h = rw (ne_eqb c 0 (omega arith))

some_is : (c : ℕ) → not (eqb c 0) ≡ true → 0 < c
some_is c h = let z : c ≡ 0 → ⊥ = eqb-false c 0 (not-true (eqb c 0) h) in omega arith

-- two parts share a byte exactly if each has one and begins before the other ends: then the later of their first bytes is in both
pub overlap_is : (n : ℕ) (a b : Span) → end_of a ≤ n → end_of b ≤ n
    → ((not (eqb a.count 0) && not (eqb b.count 0)) && (ltb a.start (end_of b) && ltb b.start (end_of a))) ≡ overlap n a b
unfolding overlap
overlap_is n a b p q = bool_ext ((not (eqb a.count 0) && not (eqb b.count 0)) && (ltb a.start (end_of b) && ltb b.start (end_of a)))
    (any n (λ byte. covers a byte && covers b byte)) to from
  where
    to : ((not (eqb a.count 0) && not (eqb b.count 0)) && (ltb a.start (end_of b) && ltb b.start (end_of a))) ≡ true → any n (λ byte. covers a byte && covers b byte) ≡ true
    to h =
        let (x, y, u, v) = all_four (not (eqb a.count 0)) (not (eqb b.count 0)) (ltb a.start (end_of b)) (ltb b.start (end_of a)) h in
        let x' : 0 < a.count = some_is a.count x in
        let y' : 0 < b.count = some_is b.count y in
        let u' : a.start < end_of b = ltb-true a.start (end_of b) u in
        let v' : b.start < end_of a = ltb-true b.start (end_of a) v in
        let m = max a.start b.start in
        any_intro n (λ byte. covers a byte && covers b byte) m (omega arith)
        (both_yes
        (both_yes (le-leb a.start m (omega arith)) (lt-ltb m (end_of a) (omega arith)))
        (both_yes (le-leb b.start m (omega arith)) (lt-ltb m (end_of b) (omega arith))))

    from : any n (λ byte. covers a byte && covers b byte) ≡ true → ((not (eqb a.count 0) && not (eqb b.count 0)) && (ltb a.start (end_of b) && ltb b.start (end_of a))) ≡ true
    from h =
        let (m, l, e) = any_elim n (λ byte. covers a byte && covers b byte) h in
        let (x, y, u, v) = all_four (leb a.start m) (ltb m (end_of a)) (leb b.start m) (ltb m (end_of b)) e in
        let x' : a.start ≤ m = leb-true a.start m x in
        let y' : m < end_of a = ltb-true m (end_of a) y in
        let u' : b.start ≤ m = leb-true b.start m u in
        let v' : m < end_of b = ltb-true m (end_of b) v in
        both_yes (both_yes (some a.count (omega arith)) (some b.count (omega arith)))
        (both_yes (lt-ltb a.start (end_of b) (omega arith)) (lt-ltb b.start (end_of a) (omega arith)))

pub same_overlap : (n : ℕ) (p q : Pointer) (a b : Span) (r : Bool) → r ≡ overlap n a b → a ≡ span_of n p → b ≡ span_of n q → r ≡ overlap n (span_of n p) (span_of n q)
same_overlap n p q a b r e x y = rw (x, y) at e

-- the length of a file

size_least : (magic : ℕ) → (12 ≤ trailer_size magic) × (trailer_size magic ≤ 14)
unfolding trailer_size
size_least magic = go (eqb magic 20565)
  where
    go : (b : Bool) → (12 ≤ cond b 14 12) × (cond b 14 12 ≤ 14)
    go true = (omega arith, omega arith)
    go false = (omega arith, omega arith)

-- the trailer's bytes lie in the file

pub front_fits : (start magic n : ℕ) → start + trailer_size magic ≤ n → start + 12 ≤ n
front_fits start magic n h = omega (arith, (size_least magic).0)

pub party_fits : (start magic n : ℕ) → start + trailer_size magic ≤ n → magic ≡ 20565 → start + 14 ≤ n
unfolding trailer_size
party_fits start magic n h e = rw (eq-eqb magic 20565 e) at h

pub size_new : (magic : ℕ) → magic ≡ 20565 → 14 ≡ trailer_size magic
unfolding trailer_size
size_new magic e = rw (eq-eqb magic 20565 e)

pub size_old : (magic : ℕ) → (magic ≡ 20565 → ⊥) → 12 ≡ trailer_size magic
unfolding trailer_size
size_old magic e = rw (ne_eqb magic 20565 e)

pub party_new : (file : List ℕ) (start magic p : ℕ) → p ≡ number_at file (start + 10) → magic ≡ 20565 → p ≡ party_of file start magic
unfolding party_of
party_new file start magic p q e = rw (eq-eqb magic 20565 e) q

pub party_old : (file : List ℕ) (start magic : ℕ) → (magic ≡ 20565 → ⊥) → 1 ≡ party_of file start magic
unfolding party_of
party_old file start magic e = rw (ne_eqb magic 20565 e)

-- too short for every trailer, or too long
pub bad_length_lem : (magic n : ℕ) → (ltb n 12 || ltb 4096 n) ≡ true → true ≡ bad_length magic n
unfolding bad_length
bad_length_lem magic n h =
    ⊎_elim (λ p. sym (or_left (ltb n (trailer_size magic)) (ltb 4096 n) (lt-ltb n (trailer_size magic) (omega (arith, ltb-true n 12 p, (size_least magic).0)))))
    (λ p. sym (or_right (ltb n (trailer_size magic)) (ltb 4096 n) p)) (or_cases (ltb n 12) (ltb 4096 n) h)

pub twelve : (n : ℕ) → (ltb n 12 || ltb 4096 n) ≡ false → 12 ≤ n
twelve n h = ltb-false n 12 (no_or (ltb n 12) (ltb 4096 n) h).0

pub other_length : (magic m n s : ℕ) → (ltb n 12 || ltb 4096 n) ≡ false → m ≡ magic → s ≡ trailer_size m → ltb n s ≡ bad_length magic n
unfolding bad_length
other_length magic m n s h d e = rw (e, d, (no_or (ltb n 12) (ltb 4096 n) h).1) (sym (or-false (ltb n (trailer_size magic))))

module _ (magic n : ℕ) (h : bad_length magic n ≡ false) where
  pub trailer_fits : trailer_size magic ≤ n
  unfolding bad_length
  trailer_fits = ltb-false n (trailer_size magic) (no_or (ltb n (trailer_size magic)) (ltb 4096 n) h).0

  pub long_enough : 12 ≤ n
  long_enough = omega (arith, trailer_fits, (size_least magic).0)

  pub short_enough : n ≤ 4096
  unfolding bad_length
  short_enough = ltb-false 4096 n (no_or (ltb n (trailer_size magic)) (ltb 4096 n) h).1

  pub size_within : (s m : ℕ) → m ≡ magic → s ≡ trailer_size m → s ≤ n
  size_within s m e d = rw (d, e) trailer_fits

pub trailer_at_fits : (file : List ℕ) (magic s : ℕ) → bad_length (magic_of file) (length file) ≡ false → magic ≡ magic_of file → s ≡ trailer_size magic → length file - s + trailer_size magic ≤ length file
trailer_at_fits file magic s h e d = omega (arith, d, size_within (magic_of file) (length file) h s magic e d)

pub trailer_is : (file : List ℕ) (magic s : ℕ) (t : Trailer) → t ≡ trailer_at file (length file - s) magic → magic ≡ magic_of file → s ≡ trailer_size magic → t ≡ trailer_of file
trailer_is file magic s t q e d = q ∙ rw (d, e)

pub trailer_size_fits : (file : List ℕ) (s : ℕ) (t : Trailer) → bad_length (magic_of file) (length file) ≡ false → t ≡ trailer_of file → s ≡ trailer_size t.magic → s ≤ length file
trailer_size_fits file s t h q d = size_within (magic_of file) (length file) h s t.magic (ap (λ (t : Trailer). t.magic) q) d

pub length_good : (magic n : ℕ) (b : Bool) → b ≡ bad_length magic n → b ≡ false → bad_length magic n ≡ false
length_good magic n b e h = sym e ∙ h

-- the verdict on a file

module _ (file : List ℕ) (r : Reply) (t : Trailer) (q : t ≡ trailer_of file) (l : bad_length (magic_of file) (length file) ≡ false) where
  pub magic_wrong : r ≡ reply 2 0 → (not (eqb t.magic 20564) && not (eqb t.magic 20565)) ≡ true → r ≡ verdict (file_checks file)
  unfolding file_checks bad_magic verdict
  magic_wrong e m = rw (l, rw q at m) e

  pub magic_right : (s : ℕ) → (not (eqb t.magic 20564) && not (eqb t.magic 20565)) ≡ false → s ≡ trailer_size t.magic
      → r ≡ verdict (part_checks (length file) (length file - s) t.tree t.query) → r ≡ verdict (file_checks file)
  unfolding file_checks bad_magic verdict
  magic_right s m d e = rw (l, rw q at m) (e ∙ rw (d, q))

pub refused_is : (file : List ℕ) (e : Refusal) → refused e ≡ verdict (file_checks file) → refused_job (refused e) ≡ job_of file
unfolding job_of
refused_is file e v = rw (sym v, ne_eqb (refused e).number 0 (refused_some e))

module _ (file : List ℕ) (r : Reply) (v : r ≡ verdict (file_checks file)) where
  module _ (z : r.number ≡ 0) where
    pub accepted_is : (t : Trailer) (a b : Span) → t ≡ trailer_of file → a ≡ span_of (length file) t.tree → b ≡ span_of (length file) t.query
        → ◌≡◌ {A = Job} (record { reply = r; tree = a; query = b; columns = t.columns; party = t.party; owners = eqb t.magic 20565 }) (job_of file)
    unfolding job_of
    accepted_is t a b q x y = rw (x, y, sym v, eq-eqb r.number 0 z, q)

    checks : Passes (file_checks file)
    unfolding file_checks part_checks numbered
    checks = accepted (file_checks file) refl (ap (λ (r : Reply). r.number) (sym v) ∙ z)

    pub accepted_length : bad_length (magic_of file) (length file) ≡ false
    unfolding file_checks part_checks Passes
    accepted_length = checks.0

    pub accepted_tree : (t : Trailer) → t ≡ trailer_of file → t.tree.distance ≤ length file
    unfolding file_checks part_checks Passes
    accepted_tree t q = rw q (starts_inside (length file) (trailer_start file) (trailer_of file).tree false (sym checks.1.1.0) refl)

    pub accepted_query : (t : Trailer) → t ≡ trailer_of file → t.query.distance ≤ length file
    unfolding file_checks part_checks Passes
    accepted_query t q = rw q (starts_inside (length file) (trailer_start file) (trailer_of file).query false (sym checks.1.1.1.0) refl)

-- the parts of a file can be decoded into buffers of 2,042 numbers

decodable : (magic n : ℕ) (p : Pointer) → bad_length magic n ≡ false → outside n (n - trailer_size magic) p ≡ false → (end_of (span_of n p) ≤ n) × (p.count ≤ 2042)
decodable magic n p l o =
    let long : n ≤ 4096 = short_enough magic n l in
    let least = size_least magic in
    let ends : end_of (span_of n p) ≤ n - trailer_size magic = ends_before n (n - trailer_size magic) p false (sym o) refl in
    (omega arith, omega (arith, least.0))

module _ (file : List ℕ) where
  accepted_checks : eqb (verdict (file_checks file)).number 0 ≡ true → Passes (file_checks file)
  accepted_checks e = checks file (verdict (file_checks file)) refl (eqb-true (verdict (file_checks file)).number 0 e)

  -- a part lies in the file, and has at most the 2,042 numbers that fit before the trailer
  abbrev Within : Span → Type 0
  Within s = (end_of s ≤ length file) × (s.count ≤ 2042)

  parts_within : (j : Job) → j ≡ job_of file → Within j.tree × Within j.query
  unfolding job_of file_checks part_checks Passes
  parts_within j q = rw q (go (seen (eqb (verdict (file_checks file)).number 0)))
    where
      go : Seen (eqb (verdict (file_checks file)).number 0) → Within (job_of file).tree × Within (job_of file).query
      go (yes! e) = let w = accepted_checks e in rw e (decodable (magic_of file) (length file) (trailer_of file).tree w.0 w.1.1.0, decodable (magic_of file) (length file) (trailer_of file).query w.0 w.1.1.1.0)
      go (no! e) = rw e (omega arith, omega arith)

  pub tree_within : (j : Job) → j ≡ job_of file → Within j.tree
  tree_within j q = (parts_within j q).0

  pub query_within : (j : Job) → j ≡ job_of file → Within j.query
  query_within j q = (parts_within j q).1
