-- What the calls of the cycle require: an operand is an earlier entry of the right sort, so that the measure falls.
use Prim.Native.Nat.{ℕ, ◌-◌, ◌≤◌, ◌<◌}
use native.Mathlib.Nat.{eq-or-lt_of_le}
use native.Mathlib.Omega.{arith}
use mathlib.Core.Path.{◌≡◌, refl, sym, ap, ◌∙◌}
use mathlib.Core.Logic.{◌⊎◌, inl, inr, ⊎_elim}
use mathlib.Core.Bool.{Bool, true, false, cond, ◌||◌}
use mathlib.Core.List.{List, [], ◌∷◌}
use lib.ListN.{length, get_or}
use lib.Dec.{ltb, eqb}
use borrow.Author.Tests.{lt-ltb, ltb-true, ltb-false, eq-eqb, eqb-true, eqb-false}
use Rattle.model.specs.declared.Entry.{Entry}
use Rattle.model.specs.declared.kind.Kind.{Kind}
use Rattle.model.specs.declared.kind.Kind.TheVariants.{Step, Compose, Union, Intersect, Except, Filter, Variable, Root, Exists, Not, And, Or, Is, Star, Same}
use Rattle.model.specs.Numbers.{kind_number}
use Rattle.model.specs.Tree.{size_of}
use Rattle.model.specs.QueryTable.{kind, entry, entries_of}
use Rattle.model.specs.Kinds.{is_path, left_path, left_expr, right_path, right_expr, names_variable}
use Rattle.model.specs.Results.{assigned}
use Rattle.model.proofs.Booleans.{both_yes, or_left, or_right, or_cases, no_or}
use Rattle.model.proofs.KindTests.{is_path_by, left_expr_by, right_expr_by}
use Rattle.sets.specs.declared.Operation.{Operation}
use Rattle.sets.specs.NodeSets.{operation_number}
use Rattle.eval.specs.Evaluation.{Ready, Sorted, operation_of}

pub kind_at : {f g : Entry} → f ≡ g → f.kind ≡ g.kind
kind_at p = ap (λ (f : Entry). f.kind) p

-- the kind that has a number
numbered : ℕ → Kind
numbered n = get_or (Step ∷ Compose ∷ Union ∷ Intersect ∷ Except ∷ Filter ∷ Variable ∷ Root ∷ Exists ∷ Not ∷ And ∷ Or ∷ Is ∷ Star ∷ []) n Same

numbered_back : (k : Kind) → numbered (kind_number k) ≡ k
unfolding numbered
numbered_back Step = refl
numbered_back Compose = refl
numbered_back Union = refl
numbered_back Intersect = refl
numbered_back Except = refl
numbered_back Filter = refl
numbered_back Variable = refl
numbered_back Root = refl
numbered_back Exists = refl
numbered_back Not = refl
numbered_back And = refl
numbered_back Or = refl
numbered_back Is = refl
numbered_back Star = refl
numbered_back Same = refl

-- a kind that is not v has another number than v
pub other_kind : {k v : Kind} {n : ℕ} → (k ≡ v → ⊥) → kind_number k ≡ n → n ≡ kind_number v → ⊥
other_kind {k} {v} h p q = h (sym (numbered_back k) ∙ ap numbered (p ∙ q) ∙ numbered_back v)

-- a kind that is v or w has the number of v or of w
pub one_kind : {k v w : Kind} {n : ℕ} → (k ≡ v) ⊎ (k ≡ w) → kind_number k ≡ n → (n ≡ kind_number v) ⊎ (n ≡ kind_number w)
one_kind (inl e) h = inl (sym h ∙ ap kind_number e)
one_kind (inr e) h = inr (sym h ∙ ap kind_number e)

-- the operation of a union, an intersect or an except is its number less 2
joined_by : (k : Kind) → 2 ≤ kind_number k → kind_number k ≤ 4 → operation_number (operation_of k) ≡ kind_number k - 2
joined_by Union a b = refl
joined_by Intersect a b = refl
joined_by Except a b = refl
joined_by k a b = omega arith

pub operation_by : (k : Kind) {n : ℕ} {op : Operation} → op ≡ operation_of k → kind_number k ≡ n → 2 ≤ n → n ≤ 4 → operation_number op ≡ n - 2
operation_by k e h a b = rw (e, ← h) (joined_by k (rw h a) (rw h b))

-- two operands in their order, or turned

pub turned : {p : ℕ × ℕ} {b : Bool} {x y : ℕ} → p ≡ (y, x) → b ≡ true → (p.0 ≡ cond b y x) × (p.1 ≡ cond b x y)
turned e h = rw (e, h) (refl, refl)

pub straight : {p : ℕ × ℕ} {b : Bool} {x y : ℕ} → p ≡ (x, y) → b ≡ false → (p.0 ≡ cond b y x) × (p.1 ≡ cond b x y)
straight e h = rw (e, h) (refl, refl)

-- l is an operand of entry e: an earlier entry, a path where the flag is set, else a node expression
pub record Operand (q : List ℕ) (e l : ℕ) (path : Bool) : Type 0 where
  pub lower : l < e
  pub kinds : Sorted q l path

-- one operand or the other
pub either_operand : {q : List ℕ} {e i x y : ℕ} {path : Bool} (b : Bool) → i ≡ cond b x y → Operand q e x path → Operand q e y path → Operand q e i path
either_operand true p a b = rw p a
either_operand false p a b = rw p b

-- the kinds that have each sort of operand

module _ {k : ℕ} where
  pub root_on_left : k ≡ 7 → left_path k ≡ true
  unfolding left_path
  root_on_left h = rw h

  pub some_on_left : k ≡ 8 → left_path k ≡ true
  unfolding left_path
  some_on_left h = rw h

  pub star_on_left : k ≡ 13 → left_path k ≡ true
  unfolding left_path
  star_on_left h = rw h

  pub same_on_both : k ≡ 14 → (left_path k ≡ true) × (right_path k ≡ true)
  unfolding left_path right_path
  same_on_both h = (rw h, rw h)

  pub expr_on_left : 8 < k → k < 12 → left_expr k ≡ true
  expr_on_left a b = left_expr_by k ∙ both_yes (lt-ltb 8 k a) (lt-ltb k 12 b)

  pub filter_on_right : k ≡ 5 → right_expr k ≡ true
  unfolding right_expr
  filter_on_right h = rw h

  pub expr_on_right : 10 ≤ k → k ≤ 11 → right_expr k ≡ true
  expr_on_right a b = right_expr_by k ∙ or_right (eqb k 5) (eqb k 10 || eqb k 11) (⊎_elim (λ e. or_left (eqb k 10) (eqb k 11) (eq-eqb k 10 (sym e))) (λ l. or_right (eqb k 10) (eqb k 11) (eq-eqb k 11 (omega arith))) (eq-or-lt_of_le a))

  pub variable_named : k ≡ 6 → names_variable k ≡ true
  unfolding names_variable
  variable_named h = rw h

  pub is_named_lem : k ≡ 12 → names_variable k ≡ true
  unfolding names_variable
  is_named_lem h = rw h

  -- what the kinds are that are left

  pub path_kind_lem : is_path k ≡ true → (k ≡ 13 → ⊥) → k ≤ 7
  path_kind_lem h n = ⊎_elim (λ p. let l : k < 8 = ltb-true k 8 p in omega arith) (λ p. absurd (n (eqb-true k 13 p))) (or_cases (ltb k 8) (eqb k 13) (sym (is_path_by k) ∙ h))

  pub expr_kind_lem : is_path k ≡ false → k ≤ 14 → (8 ≤ k) × ((k ≡ 13 → ⊥) × (k ≤ 14))
  expr_kind_lem h m = let (a, b) = no_or (ltb k 8) (eqb k 13) (sym (is_path_by k) ∙ h) in (ltb-false k 8 a, (eqb-false k 13 b, m))

-- the operands of an entry

module _ {t v q nodes : List ℕ} {e : ℕ} {f : Entry} (fe : f ≡ entry q e) (ok : Ready t v q nodes) (em : e < entries_of q) where
  pub left_path_lem : left_path f.kind ≡ true → Operand q e f.left true
  left_path_lem h = let w = ok.query.formed.left_path_lem e em (rw fe at h) in rw fe (record { lower = w.0; kinds = record { within = omega arith; sort = w.1 } })

  pub right_path_lem : right_path f.kind ≡ true → Operand q e f.right true
  right_path_lem h = let w = ok.query.formed.right_path_lem e em (rw fe at h) in rw fe (record { lower = w.0; kinds = record { within = omega arith; sort = w.1 } })

  pub left_expr_lem : left_expr f.kind ≡ true → Operand q e f.left false
  left_expr_lem h = let w = ok.query.formed.left_expr_lem e em (rw fe at h) in rw fe (record { lower = w.0; kinds = record { within = omega arith; sort = w.1 } })

  pub right_expr_lem : right_expr f.kind ≡ true → Operand q e f.right false
  right_expr_lem h = let w = ok.query.formed.right_expr_lem e em (rw fe at h) in rw fe (record { lower = w.0; kinds = record { within = omega arith; sort = w.1 } })

  pub variable_within : names_variable f.kind ≡ true → f.left < length nodes
  variable_within h = rw fe (ok.query.variable e em (rw fe at h))

  pub variable_node : names_variable f.kind ≡ true → assigned nodes f.left < size_of t
  unfolding assigned
  variable_node h = ok.query.node f.left (variable_within h)

  pub variable_small : names_variable f.kind ≡ true → assigned nodes f.left < 256
  variable_small h = omega (arith, variable_node h, ok.linked.tree.sound.at_most)

  pub axis_known : f.kind ≡ 0 → f.left ≤ 12
  axis_known h = rw fe (ok.query.axis e em (rw fe at h))

  -- what the kinds are that are left

  pub known_path : is_path (kind q e) ≡ true → (f.kind ≡ 13 → ⊥) → f.kind ≤ 7
  known_path h n = path_kind_lem (rw fe h) n

  pub known_expr : is_path (kind q e) ≡ false → (8 ≤ f.kind) × ((f.kind ≡ 13 → ⊥) × (f.kind ≤ 14))
  known_expr h = expr_kind_lem (rw fe h) (rw fe (ok.query.formed.known e em))
