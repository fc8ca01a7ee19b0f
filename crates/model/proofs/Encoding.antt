-- The table of a path is read back as that path (model: path_at).
use Prim.Native.Nat.{ℕ, suc, ◌+◌, ◌-◌, ◌*◌, ◌≤◌}
use native.Mathlib.Omega.{arith}
use mathlib.Core.Path.{◌≡◌, refl, sym, ap, ap₂, ◌∙◌}
use mathlib.Core.List.{List, [], ◌∷◌, ◌++◌, append_assoc, append-nil}
use lib.ListN.{length, get_or, length-append}
use lib.Seq.{get_or-append-add}
use Rattle.model.specs.Syntax.{Path, NodeExpr}
use Rattle.model.specs.Syntax.Path.{step, compose, union, intersect, except, filter, variable, from_root, closure}
use Rattle.model.specs.Syntax.NodeExpr.{exists, negate, both, either, is, same}
use Rattle.model.specs.QueryTable.{Parsed, entries_of, kind, left, right, tag, of_expr, parse, parse_over, parsed, parsed_at, path_at, last_of}
use Rattle.model.proofs.QueryTable.{entry_at}
use Rattle.model.specs.Encoding.{Term, path_term, expr_term, size, entry4, encode, table_of}

pub size_some : (a : Term) → 1 ≤ size a
unfolding size
size_some (Term.leaf k l g) = omega arith
size_some (Term.unary k a) = omega arith
size_some (Term.binary k a b) = omega arith

pub length_encode : (a : Term) (n : ℕ) → length (encode n a) ≡ 4 * size a
unfolding size encode
length_encode (Term.leaf k l g) n = refl
length_encode (Term.unary k a) n = length-append (encode n a) _ ∙ (let u = length_encode a n in omega arith)
length_encode (Term.binary k a b) n =
    length-append (encode n a) _
    ∙ ap (λ (x : ℕ). length (encode n a) + x) (length-append (encode (n + size a) b) _)
    ∙ (let u = length_encode a n in let v = length_encode b (n + size a) in omega arith)

-- entry e of a table has these four numbers
abbrev pub Holds : List ℕ → ℕ → ℕ → ℕ → ℕ → ℕ → Type 0
Holds t e k l r g = (kind t e ≡ k) × (left t e ≡ l) × (right t e ≡ r) × (tag t e ≡ g)

-- the entries of a term stand in a table from entry n on
unfoldable pub Stands : List ℕ → ℕ → Term → Type 0
Stands t n (Term.leaf k l g) = Holds t n k l 0 g
Stands t n (Term.unary k a) = Holds t (n + size a) k (n + size a - 1) 0 0 × Stands t n a
Stands t n (Term.binary k a b) = Holds t (n + size a + size b) k (n + size a - 1) (n + size a + size b - 1) 0 × Stands t n a × Stands t (n + size a) b

-- the entry behind a front of e entries
behind : (t front post : List ℕ) (e k l r g : ℕ) → t ≡ front ++ (entry4 k l r g ++ post) → length front ≡ 4 * e → Holds t e k l r g
behind t front post e k l r g h f = (number 0 (4 * e) (omega arith) refl, number 1 (4 * e + 1) (omega arith) refl, number 2 (4 * e + 2) (omega arith) refl, number 3 (4 * e + 3) (omega arith) refl)
  where
    number : (i j : ℕ) {x : ℕ} → j ≡ length front + i → get_or (k ∷ l ∷ r ∷ g ∷ post) i 0 ≡ x → get_or t j 0 ≡ x
    number i j {x = x} p q = ap (λ (u : List ℕ). get_or u j 0) h ∙ ap (λ (m : ℕ). get_or (front ++ (k ∷ l ∷ r ∷ g ∷ post)) m 0) p ∙ get_or-append-add front (k ∷ l ∷ r ∷ g ∷ post) i 0 ∙ q

-- the entries of a term, anywhere in a table
pub encode_stands : (a : Term) (n : ℕ) (t pre post : List ℕ) → t ≡ pre ++ (encode n a ++ post) → length pre ≡ 4 * n → Stands t n a
unfolding size encode Stands
encode_stands (Term.leaf k l g) n t pre post h f = behind t pre post n k l 0 g h f
encode_stands (Term.unary k a) n t pre post h f =
    let l = n + size a - 1 in
    let x = encode n a in (
      behind t (pre ++ x) post (n + size a) k l 0 0 (h ∙ simp append_assoc) (omega (arith, length-append pre x, length_encode a n)),
      encode_stands a n t pre (entry4 k l 0 0 ++ post) (h ∙ simp append_assoc) f,
    )
encode_stands (Term.binary k a b) n t pre post h f =
    let l = n + size a - 1 in
    let r = n + size a + size b - 1 in
    let x = encode n a in
    let y = encode (n + size a) b in (
      behind t (pre ++ (x ++ y)) post (n + size a + size b) k l r 0 (h ∙ simp append_assoc) (omega (arith, length-append pre (x ++ y), length-append x y, length_encode a n, length_encode b (n + size a))),
      encode_stands a n t pre (y ++ (entry4 k l r 0 ++ post)) (h ∙ simp append_assoc) f,
      encode_stands b (n + size a) t (pre ++ x) (entry4 k l r 0 ++ post) (h ∙ simp append_assoc) (omega (arith, length-append pre x, length_encode a n)),
    )

-- in the table of the term alone
pub table_stands : (a : Term) → Stands (encode 0 a) 0 a
table_stands a = encode_stands a 0 (encode 0 a) [] [] (sym (append-nil (encode 0 a))) refl

-- a term as the table's reader sees it: each entry parsed over what its operands are read as, the numbers of the operands free
unfoldable Reads : Term → Parsed → Type 0
Reads (Term.leaf k l g) w = (a : Parsed) × (b : Parsed) × (w ≡ parse k l g a b)
Reads (Term.unary k x) w = (a : Parsed) × (b : Parsed) × (l : ℕ) × (w ≡ parse k l 0 a b) × Reads x a
Reads (Term.binary k x y) w = (a : Parsed) × (b : Parsed) × (l : ℕ) × (w ≡ parse k l 0 a b) × Reads x a × Reads y b

entry_parsed : (t : List ℕ) (e m k l r g : ℕ) → m ≡ e → Holds t e k l r g → parsed_at t m ≡ parse k l g (get_or (parsed t e) l (of_expr (is 0))) (get_or (parsed t e) r (of_expr (is 0)))
unfolding parsed_at parse_over
entry_parsed t e m k l r g p (a, b, c, d) = rw (p, a, b, c, d)

stands_reads : (a : Term) (n : ℕ) (t : List ℕ) → Stands t n a → Reads a (parsed_at t (n + size a - 1))
unfolding size Stands Reads
stands_reads (Term.leaf k l g) n t h =
    (get_or (parsed t n) l (of_expr (is 0)), get_or (parsed t n) 0 (of_expr (is 0)), entry_parsed t n (n + 1 - 1) k l 0 g (omega arith) h)
stands_reads (Term.unary k a) n t (h, x) =
    let l = n + size a - 1 in
    let e = n + size a in
    let s = size_some a in (
      parsed_at t l,
      get_or (parsed t e) 0 (of_expr (is 0)),
      l,
      entry_parsed t e (n + suc (size a) - 1) k l 0 0 (omega arith) h
          ∙ ap (λ (w : Parsed). parse k l 0 w (get_or (parsed t e) 0 (of_expr (is 0)))) (entry_at t e l (of_expr (is 0)) (omega arith)),
      stands_reads a n t x,
    )
stands_reads (Term.binary k a b) n t (h, x, y) =
    let l = n + size a - 1 in
    let r = n + size a + size b - 1 in
    let e = n + size a + size b in
    let s = size_some a in
    let s' = size_some b in (
      parsed_at t l,
      parsed_at t r,
      l,
      entry_parsed t e (n + suc (size a + size b) - 1) k l r 0 (omega arith) h
          ∙ ap₂ (λ (w v : Parsed). parse k l 0 w v) (entry_at t e l (of_expr (is 0)) (omega arith)) (entry_at t e r (of_expr (is 0)) (omega arith)),
      stands_reads a n t x,
      stands_reads b (n + size a) t y,
    )

-- what is read is what was meant
mutual
  unfolding path_term expr_term parse Reads

  reads_path : (p : Path) (w : Parsed) → Reads (path_term p) w → w.path ≡ p
  reads_path (step a name) w (x, y, h) = ap (λ (w : Parsed). w.path) h
  reads_path (compose p q) w (x, y, l, h, u, v) = ap (λ (w : Parsed). w.path) h ∙ ap₂ compose (reads_path p x u) (reads_path q y v)
  reads_path (union p q) w (x, y, l, h, u, v) = ap (λ (w : Parsed). w.path) h ∙ ap₂ union (reads_path p x u) (reads_path q y v)
  reads_path (intersect p q) w (x, y, l, h, u, v) = ap (λ (w : Parsed). w.path) h ∙ ap₂ intersect (reads_path p x u) (reads_path q y v)
  reads_path (except p q) w (x, y, l, h, u, v) = ap (λ (w : Parsed). w.path) h ∙ ap₂ except (reads_path p x u) (reads_path q y v)
  reads_path (filter p e) w (x, y, l, h, u, v) = ap (λ (w : Parsed). w.path) h ∙ ap₂ filter (reads_path p x u) (reads_expr e y v)
  reads_path (variable k) w (x, y, h) = ap (λ (w : Parsed). w.path) h
  reads_path (from_root p) w (x, y, l, h, u) = ap (λ (w : Parsed). w.path) h ∙ ap from_root (reads_path p x u)
  reads_path (closure p) w (x, y, l, h, u) = ap (λ (w : Parsed). w.path) h ∙ ap closure (reads_path p x u)

  reads_expr : (e : NodeExpr) (w : Parsed) → Reads (expr_term e) w → w.expr ≡ e
  reads_expr (exists p) w (x, y, l, h, u) = ap (λ (w : Parsed). w.expr) h ∙ ap exists (reads_path p x u)
  reads_expr (negate e) w (x, y, l, h, u) = ap (λ (w : Parsed). w.expr) h ∙ ap negate (reads_expr e x u)
  reads_expr (both e f) w (x, y, l, h, u, v) = ap (λ (w : Parsed). w.expr) h ∙ ap₂ both (reads_expr e x u) (reads_expr f y v)
  reads_expr (either e f) w (x, y, l, h, u, v) = ap (λ (w : Parsed). w.expr) h ∙ ap₂ either (reads_expr e x u) (reads_expr f y v)
  reads_expr (is k) w (x, y, h) = ap (λ (w : Parsed). w.expr) h
  reads_expr (same p q) w (x, y, l, h, u, v) = ap (λ (w : Parsed). w.expr) h ∙ ap₂ same (reads_path p x u) (reads_path q y v)

pub entries_table : (a : Term) → entries_of (encode 0 a) ≡ size a
entries_table a = omega (arith, length_encode a 0)

-- for the reader: the query of the table of a path is that path
pub table_back : (p : Path) → path_at (table_of p) (last_of (table_of p)) ≡ p
table_back p =
    let s = size_some (path_term p) in
    ap (path_at (table_of p)) (let e : last_of (table_of p) ≡ 0 + size (path_term p) - 1 = omega (arith, entries_table (path_term p)) in e)
    ∙ reads_path p (parsed_at (table_of p) (0 + size (path_term p) - 1)) (stands_reads (path_term p) 0 (table_of p) (table_stands (path_term p)))
