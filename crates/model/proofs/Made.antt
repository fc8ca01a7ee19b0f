-- A query table that is made from a path passes the checks 8 to 15.
use Prim.Native.Nat.{ℕ, zero, suc, ◌+◌, ◌-◌, ◌%◌, ◌≤◌, ◌<◌}
use native.Mathlib.Omega.{arith}
use native.Mathlib.Nat.{add-zero, add-suc, not-suc-le-zero, le_of_suc-le-suc, eq-or-lt_of_le}
use mathlib.Core.Path.{◌≡◌, refl, ap, ◌∙◌, subst}
use mathlib.Core.Logic.{⊎_elim}
use mathlib.Core.Bool.{Bool, true, false, ◌&&◌, cond}
use mathlib.Core.List.{List}
use lib.ListN.{length}
use lib.Dec.{ltb, eqb}
use borrow.Author.Tests.{lt-ltb, le-ltb, eq-eqb, ne_eqb}
use Rattle.model.specs.Sets.{any, bit}
use Rattle.model.specs.Syntax.{Path, NodeExpr}
use Rattle.model.specs.Syntax.Path.{step, compose, union, intersect, except, filter, variable, from_root, closure}
use Rattle.model.specs.Syntax.NodeExpr.{exists, negate, both, either, is, same}
use Rattle.model.specs.QueryTable.{entries_of, kind, left, last_of}
use Rattle.model.specs.Refusals.{reply, verdict}
use Rattle.model.specs.Kinds.{is_path, left_path, left_expr, right_path, right_expr, names_variable, has_left, has_right}
use Rattle.model.specs.Checks.{bad_query_length, bad_kind, bad_field, bad_operand, bad_sort, bad_entry, uses, misused, bad_last, query_checks}
use Rattle.model.specs.Encoding.{Term, path_term, expr_term, size, encode, table_of, columns, columns_of}
use Rattle.model.proofs.Booleans.{Seen, seen, no_yes, not_yes}
use Rattle.model.proofs.Booleans.Seen.{yes!, no! }
use Rattle.model.proofs.Exists.{any_elim, any_more}
use Rattle.model.proofs.Refusals.{Passes, accepted, none_refused}
use Rattle.model.proofs.Encoding.{size_some, length_encode, Holds, Stands, table_stands, entries_table}
use Rattle.model.proofs.Accepted.{variable_at, query_numbered}

unfoldable mutual
  -- every step has an axis of document 01
  pub ProperSteps : Path → Type 0
  ProperSteps (step a name) = a < 13
  ProperSteps (compose p q) = ProperSteps p × ProperSteps q
  ProperSteps (union p q) = ProperSteps p × ProperSteps q
  ProperSteps (intersect p q) = ProperSteps p × ProperSteps q
  ProperSteps (except p q) = ProperSteps p × ProperSteps q
  ProperSteps (filter p e) = ProperSteps p × ProperStepsIn e
  ProperSteps (variable k) = Unit {0}
  ProperSteps (from_root p) = ProperSteps p
  ProperSteps (closure p) = ProperSteps p

  -- of the paths in a node expression
  pub ProperStepsIn : NodeExpr → Type 0
  ProperStepsIn (exists p) = ProperSteps p
  ProperStepsIn (negate e) = ProperStepsIn e
  ProperStepsIn (both e f) = ProperStepsIn e × ProperStepsIn f
  ProperStepsIn (either e f) = ProperStepsIn e × ProperStepsIn f
  ProperStepsIn (is k) = Unit {0}
  ProperStepsIn (same p q) = ProperSteps p × ProperSteps q

-- the kind of a term's last entry
abbrev top : Term → ℕ
top (Term.leaf k l g) = k
top (Term.unary k a) = k
top (Term.binary k a b) = k

-- entry e with these numbers, and operands of the kinds x and y, passes the checks 10 to 13
Good : (c e k l r g x y : ℕ) → Type 0
Good c e k l r g x y =
    (bad_kind (record { kind = k; left = l; right = r; tag = g }) ≡ false)
    × (bad_field c (record { kind = k; left = l; right = r; tag = g }) ≡ false)
    × (bad_operand e (record { kind = k; left = l; right = r; tag = g }) ≡ false)
    × (bad_sort k x y ≡ false)

-- the kind has a left operand or none, and a right one or none
abbrev Arity : ℕ → Bool → Bool → Type 0
Arity k l r = (has_left k ≡ l) × (has_right k ≡ r)

-- each entry of a term is good wherever it stands, if its operands stand before it
unfoldable Sorted : ℕ → Term → Type 0
Sorted c (Term.leaf k l g) = ((e x y : ℕ) → Good c e k l 0 g x y) × Arity k false false
Sorted c (Term.unary k a) = ((e l y : ℕ) → l < e → Good c e k l 0 0 (top a) y) × Arity k true false × Sorted c a
Sorted c (Term.binary k a b) = ((e l r : ℕ) → l < e → r < e → Good c e k l r 0 (top a) (top b)) × Arity k true true × Sorted c a × Sorted c b

-- a path's term ends in a path's kind, a node expression's in one of the others

path_top : (p : Path) → is_path (top (path_term p)) ≡ true
unfolding path_term is_path
path_top (step a name) = refl
path_top (compose p q) = refl
path_top (union p q) = refl
path_top (intersect p q) = refl
path_top (except p q) = refl
path_top (filter p e) = refl
path_top (variable k) = refl
path_top (from_root p) = refl
path_top (closure p) = refl

expr_top : (e : NodeExpr) → is_path (top (expr_term e)) ≡ false
unfolding expr_term is_path
expr_top (exists p) = refl
expr_top (negate e) = refl
expr_top (both e f) = refl
expr_top (either e f) = refl
expr_top (is k) = refl
expr_top (same p q) = refl

-- what is asked of a kind with operands, apart from their places
abbrev Operator : ℕ → ℕ → ℕ → ℕ → ℕ → Type 0
Operator c k r x y =
    (ltb 14 k ≡ false) × ((l : ℕ) → bad_field c (record { kind = k; left = l; right = r; tag = 0 }) ≡ false) × (bad_sort k x y ≡ false)

none : (c k l g : ℕ) → ltb 14 k ≡ false → bad_field c (record { kind = k; left = l; right = 0; tag = g }) ≡ false → ((x y : ℕ) → bad_sort k x y ≡ false) → Arity k false false → Sorted c (Term.leaf k l g)
unfolding Sorted Good
none c k l g a f o h = (λ e x y. (a, f, rw (h.0, h.1) refl, o x y), h)

one : (c k : ℕ) (a : Term) → ((y : ℕ) → Operator c k 0 (top a) y) → Arity k true false → Sorted c a → Sorted c (Term.unary k a)
unfolding Sorted Good
one c k a o h s = (λ e l y p. ((o y).0, (o y).1 l, rw (h.0, h.1, lt-ltb l e p), (o y).2), h, s)

two : (c k : ℕ) (a b : Term) → ((r : ℕ) → Operator c k r (top a) (top b)) → Arity k true true → Sorted c a → Sorted c b → Sorted c (Term.binary k a b)
unfolding Sorted Good
two c k a b o h s u = (λ e l r p q. ((o r).0, (o r).1 l, rw (h.0, h.1, lt-ltb l e p, lt-ltb r e q), (o r).2), h, s, u)

mutual
  unfolding path_term expr_term columns ProperSteps ProperStepsIn left_path left_expr right_path right_expr names_variable

  path_sorted : (c : ℕ) (p : Path) → ProperSteps p → columns (path_term p) ≤ c → Sorted c (path_term p)
  path_sorted c (step a name) h m = none c 0 a name refl (rw (le-ltb 12 a (omega arith)) refl) (λ x y. refl) (refl, refl)
  path_sorted c (compose p q) (u, v) m = two c 1 (path_term p) (path_term q) (λ r. (refl, λ l. refl, rw (path_top p, path_top q) refl)) (refl, refl) (path_sorted c p u (omega arith)) (path_sorted c q v (omega arith))
  path_sorted c (union p q) (u, v) m = two c 2 (path_term p) (path_term q) (λ r. (refl, λ l. refl, rw (path_top p, path_top q) refl)) (refl, refl) (path_sorted c p u (omega arith)) (path_sorted c q v (omega arith))
  path_sorted c (intersect p q) (u, v) m = two c 3 (path_term p) (path_term q) (λ r. (refl, λ l. refl, rw (path_top p, path_top q) refl)) (refl, refl) (path_sorted c p u (omega arith)) (path_sorted c q v (omega arith))
  path_sorted c (except p q) (u, v) m = two c 4 (path_term p) (path_term q) (λ r. (refl, λ l. refl, rw (path_top p, path_top q) refl)) (refl, refl) (path_sorted c p u (omega arith)) (path_sorted c q v (omega arith))
  path_sorted c (filter p e) (u, v) m = two c 5 (path_term p) (expr_term e) (λ r. (refl, λ l. refl, rw (path_top p, expr_top e) refl)) (refl, refl) (path_sorted c p u (omega arith)) (expr_sorted c e v (omega arith))
  path_sorted c (variable k) u m = none c 6 k 0 refl (rw (lt-ltb k c m) refl) (λ x y. refl) (refl, refl)
  path_sorted c (from_root p) u m = one c 7 (path_term p) (λ y. (refl, λ l. refl, rw (path_top p) refl)) (refl, refl) (path_sorted c p u m)
  path_sorted c (closure p) u m = one c 13 (path_term p) (λ y. (refl, λ l. refl, rw (path_top p) refl)) (refl, refl) (path_sorted c p u m)

  expr_sorted : (c : ℕ) (e : NodeExpr) → ProperStepsIn e → columns (expr_term e) ≤ c → Sorted c (expr_term e)
  expr_sorted c (exists p) u m = one c 8 (path_term p) (λ y. (refl, λ l. refl, rw (path_top p) refl)) (refl, refl) (path_sorted c p u m)
  expr_sorted c (negate e) u m = one c 9 (expr_term e) (λ y. (refl, λ l. refl, rw (expr_top e) refl)) (refl, refl) (expr_sorted c e u m)
  expr_sorted c (both e f) (u, v) m = two c 10 (expr_term e) (expr_term f) (λ r. (refl, λ l. refl, rw (expr_top e, expr_top f) refl)) (refl, refl) (expr_sorted c e u (omega arith)) (expr_sorted c f v (omega arith))
  expr_sorted c (either e f) (u, v) m = two c 11 (expr_term e) (expr_term f) (λ r. (refl, λ l. refl, rw (expr_top e, expr_top f) refl)) (refl, refl) (expr_sorted c e u (omega arith)) (expr_sorted c f v (omega arith))
  expr_sorted c (is k) u m = none c 12 k 0 refl (rw (lt-ltb k c m) refl) (λ x y. refl) (refl, refl)
  expr_sorted c (same p q) (u, v) m = two c 14 (path_term p) (path_term q) (λ r. (refl, λ l. refl, rw (path_top p, path_top q) refl)) (refl, refl) (path_sorted c p u (omega arith)) (path_sorted c q v (omega arith))

none_any : (n : ℕ) (f : ℕ → Bool) → ((x : ℕ) → x < n → f x ≡ false) → any n f ≡ false
none_any n f h = not_yes (any n f) (λ p. let (x, l, q) = any_elim n f p in no_yes (h x l) q)

module _ (t : List ℕ) where
  -- an operand is the last entry of its term
  last_kind : (a : Term) (n : ℕ) → Stands t n a → kind t (n + size a - 1) ≡ top a
  unfolding size Stands
  last_kind (Term.leaf k l g) n h = ap (kind t) (let e : n + 1 - 1 ≡ n = omega arith in e) ∙ h.0
  last_kind (Term.unary k a) n h = ap (kind t) (let e : n + suc (size a) - 1 ≡ n + size a = omega arith in e) ∙ h.0.0
  last_kind (Term.binary k a b) n h = ap (kind t) (let e : n + suc (size a + size b) - 1 ≡ n + size a + size b = omega arith in e) ∙ h.0.0

  -- the first n entries pass the checks 10 to 13
  Clean : ℕ → ℕ → Type 0
  Clean c n = (any n (bad_entry t c 10) ≡ false) × (any n (bad_entry t c 11) ≡ false) × (any n (bad_entry t c 12) ≡ false) × (any n (bad_entry t c 13) ≡ false)

  clean_more : (c e m k l r g x y : ℕ) → m ≡ e + 1 → Clean c e → Holds t e k l r g → kind t l ≡ x → kind t r ≡ y → Good c e k l r g x y → Clean c m
  unfolding Clean Good bad_entry
  clean_more c e m k l r g x y p (u, v, w, z) (hk, hl, hr, hg) hx hy (a, b, d, s) = rw p (
    any_more e (bad_entry t c 10) u (rw hk a),
    any_more e (bad_entry t c 11) v (rw (hk, hl, hr, hg) b),
    any_more e (bad_entry t c 12) w (rw (hk, hl, hr) d),
    any_more e (bad_entry t c 13) z (rw (hk, hl, hr, hx, hy) s),
  )

  clean : (c : ℕ) (a : Term) (n : ℕ) → Sorted c a → Stands t n a → Clean c n → Clean c (n + size a)
  unfolding size Stands Sorted
  clean c (Term.leaf k l g) n s h u = clean_more c n (n + 1) k l 0 g (kind t l) (kind t 0) refl u h refl refl (s.0 n (kind t l) (kind t 0))
  clean c (Term.unary k a) n s h u =
      let o = size_some a in
      let l = n + size a - 1 in
      clean_more c (n + size a) (n + suc (size a)) k l 0 0 (top a) (kind t 0) (omega arith) (clean c a n s.2 h.1 u) h.0 (last_kind a n h.1) refl
      (s.0 (n + size a) l (kind t 0) (omega arith))
  clean c (Term.binary k a b) n s h u =
      let o = size_some a in
      let o' = size_some b in
      let l = n + size a - 1 in
      let r = n + size a + size b - 1 in
      clean_more c (n + size a + size b) (n + suc (size a + size b)) k l r 0 (top a) (top b) (omega arith) (clean c b (n + size a) s.3 h.2 (clean c a n s.2 h.1 u)) h.0 (last_kind a n h.1) (last_kind b (n + size a) h.2)
      (s.0 (n + size a + size b) l r (omega arith) (omega arith))

-- how often i is among the k numbers from n on
unfoldable hits : ℕ → ℕ → ℕ → ℕ
hits i n zero = 0
hits i n (suc k) = hits i n k + bit (eqb (n + k) i)

hits_join : (i n j k : ℕ) → hits i n (j + k) ≡ hits i n j + hits i (n + j) k
unfolding hits
hits_join i n j zero = let e : hits i n (j + 0) ≡ hits i n j = ap (hits i n) (add-zero j) in omega arith
hits_join i n j (suc k) =
    let e : bit (eqb (n + (j + k)) i) ≡ bit (eqb (n + j + k) i) = ap (λ (x : ℕ). bit (eqb x i)) (omega arith) in
    let m : hits i n (j + suc k) ≡ hits i n (suc (j + k)) = ap (hits i n) (add-suc j k) in
    omega (arith, hits_join i n j k, e)

hits_none : (i k : ℕ) → k ≤ i → hits i 0 k ≡ 0
unfolding hits
hits_none i zero h = refl
hits_none i (suc k) h = rw (hits_none i k (omega arith), ne_eqb (0 + k) i (λ e. omega arith)) refl

hits_one : (i k : ℕ) → i < k → hits i 0 k ≡ 1
unfolding hits
hits_one i zero h = absurd (not-suc-le-zero h)
hits_one i (suc k) h =
    ⊎_elim
    (λ e. rw (hits_none i k (omega arith), eq-eqb (0 + k) i (omega arith)) refl)
    (λ l. rw (hits_one i k l, ne_eqb (0 + k) i (λ e. omega arith)) refl)
    (eq-or-lt_of_le (le_of_suc-le-suc h))

-- the entries of a term have each of them but the last for an operand once, and no other
module _ (t : List ℕ) (i c : ℕ) where
  uses_more : (e m k l r g : ℕ) (x y : Bool) → m ≡ suc e → Holds t e k l r g → Arity k x y → uses t i m ≡ uses t i e + (bit (x && eqb l i) + bit (y && eqb r i))
  unfolding uses
  uses_more e m k l r g x y p (hk, hl, hr, hg) (a, b) = rw (p, hk, hl, hr, a, b) refl

  once : (a : Term) (n : ℕ) → Sorted c a → Stands t n a → uses t i (n + size a) + bit (eqb (n + size a - 1) i) ≡ uses t i n + hits i n (size a)
  unfolding size Stands Sorted hits
  once (Term.leaf k l g) n s h =
      let e : bit (eqb (n + 1 - 1) i) ≡ bit (eqb (n + 0) i) = ap (λ (x : ℕ). bit (eqb x i)) (omega arith) in
      omega (arith, uses_more n (n + 1) k l 0 g false false (omega arith) h s.1, e)
  once (Term.unary k a) n s h =
      let e : bit (eqb (n + suc (size a) - 1) i) ≡ bit (eqb (n + size a) i) = ap (λ (x : ℕ). bit (eqb x i)) (omega arith) in
      omega (arith, uses_more (n + size a) (n + suc (size a)) k (n + size a - 1) 0 0 true false (omega arith) h.0 s.1, once a n s.2 h.1, e)
  once (Term.binary k a b) n s h =
      let m = n + size a + size b in
      let e : bit (eqb (n + suc (size a + size b) - 1) i) ≡ bit (eqb (n + (size a + size b)) i) = ap (λ (x : ℕ). bit (eqb x i)) (omega arith) in
      omega (arith, uses_more m (n + suc (size a + size b)) k (n + size a - 1) (m - 1) 0 true true (omega arith) h.0 s.1, once a n s.2 h.1, once b (n + size a) s.3 h.2, hits_join i n (size a) (size b), e)

-- the checks of the table of a term, where the service takes no fewer variables than least
module _ (a : Term) (least c : ℕ) (s : Sorted c a) where
  length_good : size a ≤ 64 → bad_query_length (length (encode 0 a)) ≡ false
  length_good h =
      let n = size_some a in
      let l = length_encode a 0 in
      rw (ne_eqb (length (encode 0 a)) 0 (λ z. omega arith), eq-eqb (length (encode 0 a) % 4) 0 (omega arith), le-ltb 256 (length (encode 0 a)) (omega arith)) refl

  entries_clean : Clean (encode 0 a) c (entries_of (encode 0 a))
  unfolding Clean any
  entries_clean = subst (Clean (encode 0 a) c) (let e : 0 + size a ≡ entries_of (encode 0 a) = omega (arith, entries_table a) in e) (clean (encode 0 a) c a 0 s (table_stands a) (refl, refl, refl, refl))

  used_once : any (last_of (encode 0 a)) (misused (encode 0 a)) ≡ false
  unfolding uses
  used_once = none_any (last_of (encode 0 a)) (misused (encode 0 a)) (λ i l.
      let n = entries_table a in
      let b : bit (eqb (0 + size a - 1) i) ≡ 0 = ap bit (ne_eqb (0 + size a - 1) i (λ e. omega arith)) in
      let u : uses (encode 0 a) i (entries_of (encode 0 a)) ≡ uses (encode 0 a) i (0 + size a) = ap (uses (encode 0 a) i) (let e : entries_of (encode 0 a) ≡ 0 + size a = omega arith in e) in
      rw (eq-eqb (uses (encode 0 a) i (entries_of (encode 0 a))) 1 (omega (arith, once (encode 0 a) i c a 0 s (table_stands a), hits_one i (size a) (omega arith)))) refl)

  last_good : is_path (top a) ≡ true → bad_last (encode 0 a) ≡ false
  last_good h =
      let e : kind (encode 0 a) (last_of (encode 0 a)) ≡ top a = ap (kind (encode 0 a)) (let e : last_of (encode 0 a) ≡ 0 + size a - 1 = omega (arith, entries_table a) in e) ∙ last_kind (encode 0 a) a 0 (table_stands a) in
      rw (e, h) refl

  checks_pass : least ≤ c → c ≤ 3 → size a ≤ 64 → is_path (top a) ≡ true → Passes (query_checks (encode 0 a) least c)
  unfolding Passes query_checks Clean
  checks_pass l m z h =
      let (k, f, o, b) = entries_clean in
      (length_good z, (rw (le-ltb c least l, le-ltb 3 c m) refl, (k, (f, (o, (b, (used_once, (last_good h, tt))))))))

-- for the reader: a query table that is made is accepted, with any number of variables that it can do with
pub made_passes_with : (p : Path) (least c : ℕ) → ProperSteps p → size (path_term p) ≤ 64 → least ≤ c → columns_of p ≤ c → c ≤ 3 → verdict (query_checks (table_of p) least c) ≡ reply 0 0
made_passes_with p least c s z l n m = none_refused (query_checks (table_of p) least c) (checks_pass (path_term p) least c (path_sorted c p s n) l m z (path_top p))

-- for the reader: so it is with the number that it needs
pub made_passes : (p : Path) → ProperSteps p → size (path_term p) ≤ 64 → columns_of p ≤ 3 → verdict (query_checks (table_of p) 0 (columns_of p)) ≡ reply 0 0
made_passes p s z m = made_passes_with p 0 (columns_of p) s z (omega arith) (omega arith) m

-- a table that is accepted has all its variables below their number
needs : (t : List ℕ) (c : ℕ) (a : Term) (n : ℕ) → Stands t n a → ((e : ℕ) → e < n + size a → names_variable (kind t e) ≡ true → left t e < c) → columns a ≤ c
unfolding size Stands columns
needs t c (Term.leaf k l g) n h f = go (seen (names_variable k))
  where
    go : Seen (names_variable k) → cond (names_variable k) (suc l) 0 ≤ c
    go (yes! p) = rw p (let w : left t n < c = f n (omega arith) (ap names_variable h.0 ∙ p) in let v = h.1 in omega arith)
    go (no! p) = rw p (omega arith)
needs t c (Term.unary k a) n h f = needs t c a n h.1 (λ e l. f e (omega arith))
needs t c (Term.binary k a b) n h f =
    let u = needs t c a n h.1 (λ e l. f e (omega arith)) in
    let v = needs t c b (n + size a) h.2 (λ e l. f e (omega arith)) in
    omega arith

-- for the reader: with fewer it is refused
pub made_needs : (p : Path) (least c : ℕ) → (verdict (query_checks (table_of p) least c)).number ≡ 0 → columns_of p ≤ c
made_needs p least c h =
    let w = accepted (query_checks (table_of p) least c) (query_numbered (table_of p) least c) h in
    needs (table_of p) c (path_term p) 0 (table_stands (path_term p)) (λ e l. variable_at (table_of p) least c w e (omega (arith, entries_table (path_term p))))
