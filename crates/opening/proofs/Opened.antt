-- The opened table: it can be evaluated where the query can, and its entries are read as those of the query, opened.
use Prim.Native.Nat.{ℕ, zero, suc, ◌+◌, ◌*◌, ◌≤◌, ◌<◌}
use native.Mathlib.Omega.{arith}
use mathlib.Core.Path.{◌≡◌, refl, sym, ap, ◌∙◌, subst}
use mathlib.Core.Bool.{Bool, true, false, cond}
use mathlib.Core.List.{List}
use lib.ListN.{length}
use lib.Seq.{length-take-le, get_or-take}
use lib.Dec.{ltb}
use borrow.Author.Tests.{lt-ltb}
use Rattle.model.specs.declared.Entry.{Entry}
use Rattle.model.specs.Syntax.{Path, NodeExpr}
use Rattle.model.specs.Syntax.Path.{step, compose, union, intersect, except, filter, variable, from_root, closure}
use Rattle.model.specs.Syntax.NodeExpr.{exists, negate, both, either, is, same}
use Rattle.model.specs.QueryTable.{entries_of, kind, left, right, entry, path_at, expr_at, last_of}
use Rattle.model.specs.Kinds.{is_path, left_path, left_expr, right_path, right_expr, names_variable, has_left, has_right}
use Rattle.model.specs.Accepted.{Shaped, Evaluable}
use Rattle.model.specs.Sharing.{any_node, everywhere, opened, opened_expr, unfilled}
use Rattle.model.proofs.Booleans.{Seen, seen, no_yes, or_left, or_right}
use Rattle.model.proofs.Booleans.Seen.{yes!, no! }
use Rattle.model.proofs.QueryTable.{at_step, at_compose, at_union, at_intersect, at_except, at_filter, at_variable, at_root, at_exists, at_negate, at_both, at_either, at_is, at_closure, at_same}
use Rattle.model.proofs.Formed.{PathBefore, ExprBefore, Read, sort_of, BySort, as_path, as_expr, by_sort}
use Rattle.model.proofs.Formed.Read.{step!, compose!, union!, intersect!, except!, filter!, variable!, root!, exists!, negate!, both!, either!, is!, closure!, same! }
use Rattle.opening.specs.Opening.{node_step, stand_in, moved_entry, opened_entry, Opens, opened_table}
use Rattle.opening.proofs.Entries.{Stands, stands, named_leaf}
use Rattle.opening.proofs.Entries.Stands.{path!, expr!, moved! }

module _ (q : List ℕ) (i : ℕ) (r : List ℕ) (ok : Shaped q) (o : Opens q i r) where
  abbrev T : List ℕ
  T = opened_table q r

  long : length T ≡ 4 * (entries_of q + 2)
  long = length-take-le (4 * (entries_of q + 2)) r (omega (arith, ok.few, o.front.size))

  pub opened_entries : entries_of T ≡ entries_of q + 2
  opened_entries = omega (arith, long)

  -- for the reader: the opened table has at most 66 entries
  pub opened_few : entries_of T ≤ 66
  opened_few = omega (arith, opened_entries, ok.few)

  pub opened_last : 0 < entries_of q → last_of T ≡ 2 + last_of q
  opened_last some = omega (arith, opened_entries)

  kept : (e : ℕ) → e < entries_of q + 2 → entry T e ≡ entry r e
  kept e l = λ j. record {
    kind = get_or-take (4 * (entries_of q + 2)) r (4 * e) 0 (omega arith) j;
    left = get_or-take (4 * (entries_of q + 2)) r (4 * e + 1) 0 (omega arith) j;
    right = get_or-take (4 * (entries_of q + 2)) r (4 * e + 2) 0 (omega arith) j;
    tag = get_or-take (4 * (entries_of q + 2)) r (4 * e + 3) 0 (omega arith) j;
  }

  at_zero : entry T 0 ≡ node_step 0
  at_zero = kept 0 (omega arith) ∙ o.front.first

  at_one : entry T 1 ≡ node_step 11
  at_one = kept 1 (omega arith) ∙ o.front.second

  behind : (e : ℕ) → e < entries_of q → entry T (2 + e) ≡ opened_entry i (entry q e)
  behind e l = kept (2 + e) (omega arith) ∙ o.at e l

  form : (e : ℕ) → e < entries_of q → Stands i (entry q e) (entry T (2 + e))
  form e l = subst (Stands i (entry q e)) (sym (behind e l)) (stands i (entry q e))

  -- paths stay paths, and node expressions stay such

  same_sort : (e : ℕ) → e < entries_of q → is_path (kind T (2 + e)) ≡ is_path (kind q e)
  unfolding moved_entry is_path
  same_sort e l = go (form e l)
    where
      go : Stands i (entry q e) (entry T (2 + e)) → is_path (kind T (2 + e)) ≡ is_path (kind q e)
      go (path! k m p) = ap (λ (f : Entry). is_path f.kind) p ∙ rw k
      go (expr! k m p) = ap (λ (f : Entry). is_path f.kind) p ∙ rw k
      go (moved! m p) = ap (λ (f : Entry). is_path f.kind) p

  pub opened_sort : (e : ℕ) → e < entries_of q → {b : Bool} → is_path (kind q e) ≡ b → is_path (kind T (2 + e)) ≡ b
  opened_sort e l h = same_sort e l ∙ h

  -- operands move with their entry

  path_behind : (e x : ℕ) → e < entries_of q → PathBefore q e x → PathBefore T (2 + e) (2 + x)
  path_behind e x l w = (omega (arith, w.0), opened_sort x (omega (arith, w.0)) w.1)

  expr_behind : (e x : ℕ) → e < entries_of q → ExprBefore q e x → ExprBefore T (2 + e) (2 + x)
  expr_behind e x l w = (omega (arith, w.0), opened_sort x (omega (arith, w.0)) w.1)

  -- what makes a table evaluable for m nodes, of one entry f of it, entry e
  record Fit (m e : ℕ) (f : Entry) : Type 0 where
    known : f.kind ≤ 14
    axis : f.kind ≡ 0 → f.left ≤ 12
    left_path_lem : left_path f.kind ≡ true → PathBefore T e f.left
    left_expr_lem : left_expr f.kind ≡ true → ExprBefore T e f.left
    right_path_lem : right_path f.kind ≡ true → PathBefore T e f.right
    right_expr_lem : right_expr f.kind ≡ true → ExprBefore T e f.right
    variable : names_variable f.kind ≡ true → f.left < m

  -- a step, or an entry with one operand, a path
  fit_one : (m e k l g : ℕ) → k ≤ 14 → (k ≡ 0 → l ≤ 12) → (left_path k ≡ true → PathBefore T e l) → left_expr k ≡ false → right_path k ≡ false → right_expr k ≡ false → names_variable k ≡ false
      → Fit m e (record { kind = k; left = l; right = 0; tag = g })
  fit_one m e k l g known axis path a b c d = record {
    known = known;
    axis = axis;
    left_path_lem = path;
    left_expr_lem = λ h. no_yes a h;
    right_path_lem = λ h. no_yes b h;
    right_expr_lem = λ h. no_yes c h;
    variable = λ h. no_yes d h;
  }

  module _ (t nodes : List ℕ) (ev : Evaluable t q nodes) where
    fit_moved : (e : ℕ) → e < entries_of q → Fit (length nodes) (2 + e) (moved_entry (entry q e))
    unfolding moved_entry left_path left_expr
    fit_moved e l = record {
      known = ev.formed.known e l;
      axis = λ h. rw h (ev.axis e l h);
      left_path_lem = λ h. rw (or_left (left_path (kind q e)) (left_expr (kind q e)) h) (path_behind e (left q e) l (ev.formed.left_path_lem e l h));
      left_expr_lem = λ h. rw (or_right (left_path (kind q e)) (left_expr (kind q e)) h) (expr_behind e (left q e) l (ev.formed.left_expr_lem e l h));
      right_path_lem = λ h. rw (or_left (right_path (kind q e)) (right_expr (kind q e)) h) (path_behind e (right q e) l (ev.formed.right_path_lem e l h));
      right_expr_lem = λ h. rw (or_right (right_path (kind q e)) (right_expr (kind q e)) h) (expr_behind e (right q e) l (ev.formed.right_expr_lem e l h));
      variable = λ h. rw (named_leaf (kind q e) h) (ev.variable e l h);
    }

    fit_behind : (e : ℕ) → e < entries_of q → Fit (length nodes) (2 + e) (entry T (2 + e))
    unfolding is_path left_path left_expr right_path right_expr names_variable
    fit_behind e l = go (form e l)
      where
        go : Stands i (entry q e) (entry T (2 + e)) → Fit (length nodes) (2 + e) (entry T (2 + e))
        go (path! k m p) = rw p (fit_one (length nodes) (2 + e) 7 1 0 (omega arith) (λ h. omega arith) (λ h. (omega arith, ap (λ (f : Entry). is_path f.kind) at_one)) refl refl refl refl)
        go (expr! k m p) = rw p (fit_one (length nodes) (2 + e) 8 0 0 (omega arith) (λ h. omega arith) (λ h. (omega arith, ap (λ (f : Entry). is_path f.kind) at_zero)) refl refl refl refl)
        go (moved! m p) = rw p (fit_moved e l)

    fit : (e : ℕ) → e < entries_of q + 2 → Fit (length nodes) e (entry T e)
    unfolding left_path left_expr right_path right_expr names_variable
    fit zero l = rw at_zero (fit_one (length nodes) 0 0 0 65534 (omega arith) (λ h. omega arith) (λ h. no_yes refl h) refl refl refl refl)
    fit (suc zero) l = rw at_one (fit_one (length nodes) 1 0 11 65534 (omega arith) (λ h. omega arith) (λ h. no_yes refl h) refl refl refl refl)
    fit (suc (suc e)) l = subst (λ (x : ℕ). Fit (length nodes) x (entry T x)) (let h : 2 + e ≡ suc (suc e) = omega arith in h) (fit_behind e (omega arith))

    -- the opened table can be evaluated where the query can
    pub opened_evaluable : Evaluable t T nodes
    opened_evaluable = record {
      formed = record {
        known = λ e l. (at e l).known;
        left_path_lem = λ e l. (at e l).left_path_lem;
        left_expr_lem = λ e l. (at e l).left_expr_lem;
        right_path_lem = λ e l. (at e l).right_path_lem;
        right_expr_lem = λ e l. (at e l).right_expr_lem;
      };
      axis = λ e l. (at e l).axis;
      variable = λ e l. (at e l).variable;
      node = ev.node;
    }
      where
        at : (e : ℕ) → e < entries_of T → Fit (length nodes) e (entry T e)
        at e l = fit e (omega (arith, opened_entries))

  -- what its entries are read as, where every variable that is named is below k

  module _ (k : ℕ) (named : (e : ℕ) → e < entries_of q → names_variable (kind q e) ≡ true → left q e < k) where
    abbrev P : Path → Path
    P = opened (unfilled i k)

    abbrev E : NodeExpr → NodeExpr
    E = opened_expr (unfilled i k)

    abbrev PathOpened : ℕ → Type 0
    PathOpened e = path_at T (2 + e) ≡ P (path_at q e)

    abbrev ExprOpened : ℕ → Type 0
    ExprOpened e = expr_at T (2 + e) ≡ E (expr_at q e)

    module _ (e : ℕ) (within : e < entries_of q) where
      -- an entry that names no variable moves
      moves : names_variable (kind q e) ≡ false → entry T (2 + e) ≡ moved_entry (entry q e)
      unfolding opened_entry
      moves h = behind e within ∙ rw h

      is_step : kind q e ≡ 0 → PathOpened e
      unfolding moved_entry left_path left_expr names_variable opened
      is_step h =
          let m : entry T (2 + e) ≡ moved_entry (entry q e) = moves (rw h) in
          let l : left T (2 + e) ≡ left q e = ap (λ (s : Entry). s.left) m ∙ rw h in
          at_step T (2 + e) (ap (λ (s : Entry). s.kind) m ∙ h) ∙ rw (l, ap (λ (s : Entry). s.tag) m) (ap P (sym (at_step q e h)))

      -- entries with operands; a, b and c say what the operands and the entry are read as, f, g and h how that is opened

      one : {A C : Type 0} (a : List ℕ → ℕ → A) (c : List ℕ → ℕ → C) (f : A → A) (h : C → C) (op : A → C) (n : ℕ)
          → kind q e ≡ n → names_variable n ≡ false → has_left n ≡ true
          → ((t : List ℕ) (x : ℕ) → kind t x ≡ n → left t x < x → c t x ≡ op (a t (left t x)))
          → ((x : A) → op (f x) ≡ h (op x)) → left q e < e → a T (2 + left q e) ≡ f (a q (left q e)) → c T (2 + e) ≡ h (c q e)
      unfolding moved_entry
      one a c f h op n p v w at through l x =
          let m : entry T (2 + e) ≡ moved_entry (entry q e) = moves (rw p v) in
          let lT : left T (2 + e) ≡ 2 + left q e = ap (λ (s : Entry). s.left) m ∙ rw (p, w) in
          at T (2 + e) (ap (λ (s : Entry). s.kind) m ∙ p) (omega arith) ∙ rw (lT, x) (through (a q (left q e)) ∙ ap h (sym (at q e p l)))

      two : {A B C : Type 0} (a : List ℕ → ℕ → A) (b : List ℕ → ℕ → B) (c : List ℕ → ℕ → C) (f : A → A) (g : B → B) (h : C → C) (op : A → B → C) (n : ℕ)
          → kind q e ≡ n → names_variable n ≡ false → has_left n ≡ true → has_right n ≡ true
          → ((t : List ℕ) (x : ℕ) → kind t x ≡ n → left t x < x → right t x < x → c t x ≡ op (a t (left t x)) (b t (right t x)))
          → ((x : A) (y : B) → op (f x) (g y) ≡ h (op x y)) → left q e < e → right q e < e
          → a T (2 + left q e) ≡ f (a q (left q e)) → b T (2 + right q e) ≡ g (b q (right q e)) → c T (2 + e) ≡ h (c q e)
      unfolding moved_entry
      two a b c f g h op n p v w z at through l r x y =
          let m : entry T (2 + e) ≡ moved_entry (entry q e) = moves (rw p v) in
          let lT : left T (2 + e) ≡ 2 + left q e = ap (λ (s : Entry). s.left) m ∙ rw (p, w) in
          let rT : right T (2 + e) ≡ 2 + right q e = ap (λ (s : Entry). s.right) m ∙ rw (p, z) in
          at T (2 + e) (ap (λ (s : Entry). s.kind) m ∙ p) (omega arith) (omega arith)
          ∙ rw (lT, rT, x, y) (through (a q (left q e)) (b q (right q e)) ∙ ap h (sym (at q e p l r)))

      -- an entry that names a variable; z is what stands for one that is not filled
      name : {C : Type 0} (c : List ℕ → ℕ → C) (h : C → C) (op : ℕ → C) (z : C) (n : ℕ)
          → kind q e ≡ n → names_variable n ≡ true
          → ((t : List ℕ) (x : ℕ) → kind t x ≡ n → c t x ≡ op (left t x))
          → ((j : ℕ) → h (op j) ≡ cond (unfilled i k j) z (op j))
          → (entry T (2 + e) ≡ stand_in n → c T (2 + e) ≡ z) → c T (2 + e) ≡ h (c q e)
      unfolding moved_entry opened_entry
      name c h op z n p v at through stand = go (seen (ltb (left q e) i))
        where
          names : names_variable (kind q e) ≡ true
          names = rw p v

          is_opened : h (c q e) ≡ cond (unfilled i k (left q e)) z (op (left q e))
          is_opened = ap h (at q e p) ∙ through (left q e)

          go : Seen (ltb (left q e) i) → c T (2 + e) ≡ h (c q e)
          go (yes! m) =
              let s : entry T (2 + e) ≡ moved_entry (entry q e) = behind e within ∙ rw (names, m) in
              let l : left T (2 + e) ≡ left q e = ap (λ (f : Entry). f.left) s ∙ rw (named_leaf (kind q e) names) in
              at T (2 + e) (ap (λ (f : Entry). f.kind) s ∙ p) ∙ ap op l ∙ sym (is_opened ∙ rw m)
          go (no! m) = stand (behind e within ∙ rw (names, m, p)) ∙ sym (is_opened ∙ rw (m, lt-ltb (left q e) k (named e within names)))

      -- what stands there: an entry over one of the two in front
      over_step : {C : Type 0} (c : List ℕ → ℕ → C) (op : Path → C) (n l axis : ℕ) → entry T (2 + e) ≡ record { kind = n; left = l; right = 0; tag = 0 }
          → entry T l ≡ node_step axis → l < 2 + e → ((t : List ℕ) (x : ℕ) → kind t x ≡ n → left t x < x → c t x ≡ op (path_at t (left t x))) → c T (2 + e) ≡ op (step axis 65534)
      over_step c op n l axis s p b at =
          let h : left T (2 + e) ≡ l = ap (λ (f : Entry). f.left) s in
          at T (2 + e) (ap (λ (f : Entry). f.kind) s) (omega arith)
          ∙ rw h (ap op (at_step T l (ap (λ (f : Entry). f.kind) p) ∙ ap (λ (f : Entry). step f.left f.tag) p))

      is_variable : kind q e ≡ 6 → PathOpened e
      unfolding names_variable stand_in opened
      is_variable h = name path_at P variable any_node 6 h refl at_variable (λ j. refl) (λ s. over_step path_at from_root 7 1 11 s at_one (omega arith) at_root)

      is_is : kind q e ≡ 12 → ExprOpened e
      unfolding names_variable stand_in opened
      is_is h = name expr_at E is everywhere 12 h refl at_is (λ j. refl) (λ s. over_step expr_at exists 8 0 0 s at_zero (omega arith) at_exists)

      path_case : is_path (kind q e) ≡ true → PathOpened e → BySort q PathOpened ExprOpened e
      path_case l p = as_path q PathOpened ExprOpened e l p

      expr_case : is_path (kind q e) ≡ false → ExprOpened e → BySort q PathOpened ExprOpened e
      expr_case l p = as_expr q PathOpened ExprOpened e l p

      agrees : ((x : ℕ) → PathBefore q e x → PathOpened x) → ((x : ℕ) → ExprBefore q e x → ExprOpened x) → Read q e → BySort q PathOpened ExprOpened e
      unfolding is_path left_path left_expr right_path right_expr names_variable opened
      agrees f g (step! h p) = path_case (sort_of q e refl h) (is_step h)
      agrees f g (compose! h l r p) = path_case (sort_of q e refl h) (two path_at path_at path_at P P P compose 1 h refl refl refl at_compose (λ x y. refl) l.0 r.0 (f (left q e) l) (f (right q e) r))
      agrees f g (union! h l r p) = path_case (sort_of q e refl h) (two path_at path_at path_at P P P union 2 h refl refl refl at_union (λ x y. refl) l.0 r.0 (f (left q e) l) (f (right q e) r))
      agrees f g (intersect! h l r p) = path_case (sort_of q e refl h) (two path_at path_at path_at P P P intersect 3 h refl refl refl at_intersect (λ x y. refl) l.0 r.0 (f (left q e) l) (f (right q e) r))
      agrees f g (except! h l r p) = path_case (sort_of q e refl h) (two path_at path_at path_at P P P except 4 h refl refl refl at_except (λ x y. refl) l.0 r.0 (f (left q e) l) (f (right q e) r))
      agrees f g (filter! h l r p) = path_case (sort_of q e refl h) (two path_at expr_at path_at P E P filter 5 h refl refl refl at_filter (λ x y. refl) l.0 r.0 (f (left q e) l) (g (right q e) r))
      agrees f g (variable! h p) = path_case (sort_of q e refl h) (is_variable h)
      agrees f g (root! h l p) = path_case (sort_of q e refl h) (one path_at path_at P P from_root 7 h refl refl at_root (λ x. refl) l.0 (f (left q e) l))
      agrees f g (exists! h l p) = expr_case (sort_of q e refl h) (one path_at expr_at P E exists 8 h refl refl at_exists (λ x. refl) l.0 (f (left q e) l))
      agrees f g (negate! h l p) = expr_case (sort_of q e refl h) (one expr_at expr_at E E negate 9 h refl refl at_negate (λ x. refl) l.0 (g (left q e) l))
      agrees f g (both! h l r p) = expr_case (sort_of q e refl h) (two expr_at expr_at expr_at E E E both 10 h refl refl refl at_both (λ x y. refl) l.0 r.0 (g (left q e) l) (g (right q e) r))
      agrees f g (either! h l r p) = expr_case (sort_of q e refl h) (two expr_at expr_at expr_at E E E either 11 h refl refl refl at_either (λ x y. refl) l.0 r.0 (g (left q e) l) (g (right q e) r))
      agrees f g (is! h p) = expr_case (sort_of q e refl h) (is_is h)
      agrees f g (closure! h l p) = path_case (sort_of q e refl h) (one path_at path_at P P closure 13 h refl refl at_closure (λ x. refl) l.0 (f (left q e) l))
      agrees f g (same! h l r p) = expr_case (sort_of q e refl h) (two path_at path_at expr_at P P E same 14 h refl refl refl at_same (λ x y. refl) l.0 r.0 (f (left q e) l) (f (right q e) r))

    -- each path of the query stands in the table as that path, opened
    pub opened_path : (e : ℕ) → e < entries_of q → is_path (kind q e) ≡ true → path_at T (2 + e) ≡ opened (unfilled i k) (path_at q e)
    opened_path e l h = (by_sort q PathOpened ExprOpened ok.formed agrees e l).0 h
