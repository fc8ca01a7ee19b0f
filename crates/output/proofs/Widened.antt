-- A tree table of two numbers a node, as a shared table: it is refused as the table is, and each party sees all of it.
use Rattle.std.proofs.Common.{◌≡◌, ℕ, zero, suc, ◌+◌, ◌*◌, ◌/◌, ◌%◌, ◌<◌, ◌≤◌, Bool, true, false, not, ◌&&◌, ◌||◌, eqb, ltb, List, [], ◌∷◌, length, get_or, sym, refl, ap, ◌∙◌, not-suc-le-zero, add-zero, arith, ext_get_or, le-ltb, eq-eqb, ne_eqb, eqb-true}
use mathlib.Core.Bool.{and_comm}
use borrow.Author.Tests.{not-false}
use Rattle.model.specs.Sets.{any}
use Rattle.model.specs.Tree.{Tree, tree_of}
use Rattle.model.specs.Axes.{descendant_or_self}
use Rattle.model.specs.Checks.{bad_tree_length, bad_parent, bad_tag, tree_checks_at, tree_checks}
use Rattle.model.specs.Parties.{shared_tree, owner, bad_owner, shared_checks, open_to, sees, rank, rows_of, new_row, seen_table}
use Rattle.model.specs.Refusals.{refuse, refuse_at, verdict}
use Rattle.model.proofs.Booleans.{bool_ext, no_yes, not_yes}
use Rattle.model.proofs.Exists.{any_elim, none_of}
use Rattle.model.proofs.Refusals.{Passes}
use Rattle.model.proofs.Accepted.{length_fits}
use Rattle.job.specs.JobFile.{widened}
use Rattle.job.proofs.Widening.{widened_length}
use Rattle.view.proofs.Part.{length_rows, rows_at}

-- parents and tags stay, and owners are 0

wide_at : (t : List ℕ) (x i : ℕ) → i < 2 → get_or (widened t) (3 * x + i) 0 ≡ get_or t (2 * x + i) 0
unfolding widened
wide_at [] x i l = refl
wide_at (p ∷ []) zero i l = ap (λ (k : ℕ). get_or {A = ℕ} (p ∷ []) k 0) (let e : 3 * 0 + i ≡ 2 * 0 + i = omega arith in e)
wide_at (p ∷ []) (suc x) i l =
    ap (λ (k : ℕ). get_or {A = ℕ} (p ∷ []) k 0) (let e : 3 * suc x + i ≡ suc (suc (suc (3 * x + i))) = omega arith in e)
    ∙ sym (ap (λ (k : ℕ). get_or {A = ℕ} (p ∷ []) k 0) (let e : 2 * suc x + i ≡ suc (suc (2 * x + i)) = omega arith in e))
wide_at (p ∷ g ∷ t) zero zero l = refl
wide_at (p ∷ g ∷ t) zero (suc zero) l = refl
wide_at (p ∷ g ∷ t) zero (suc (suc i)) l = absurd (not-suc-le-zero (let e : 1 ≤ 0 = omega arith in e))
wide_at (p ∷ g ∷ t) (suc x) i l =
    ap (λ (k : ℕ). get_or {A = ℕ} (p ∷ g ∷ 0 ∷ widened t) k 0) (let e : 3 * suc x + i ≡ suc (suc (suc (3 * x + i))) = omega arith in e)
    ∙ wide_at t x i l
    ∙ sym (ap (λ (k : ℕ). get_or {A = ℕ} (p ∷ g ∷ t) k 0) (let e : 2 * suc x + i ≡ suc (suc (2 * x + i)) = omega arith in e))

wide_parent : (t : List ℕ) (x : ℕ) → get_or (widened t) (3 * x) 0 ≡ get_or t (2 * x) 0
wide_parent t x =
    ap (λ (k : ℕ). get_or (widened t) k 0) (sym (add-zero (3 * x))) ∙ wide_at t x 0 (omega arith) ∙ ap (λ (k : ℕ). get_or t k 0) (add-zero (2 * x))

wide_owner : (t : List ℕ) (x : ℕ) → owner (widened t) x ≡ 0
unfolding widened
wide_owner [] x = refl
wide_owner (p ∷ []) x = ap (λ (k : ℕ). get_or {A = ℕ} (p ∷ []) k 0) (let e : 3 * x + 2 ≡ suc (3 * x + 1) = omega arith in e)
wide_owner (p ∷ g ∷ t) zero = refl
wide_owner (p ∷ g ∷ t) (suc x) = ap (λ (k : ℕ). get_or {A = ℕ} (p ∷ g ∷ 0 ∷ widened t) k 0) (let e : 3 * suc x + 2 ≡ suc (suc (suc (3 * x + 2))) = omega arith in e) ∙ wide_owner t x

-- the whole tree of the widened table is that of the table
pub widened_tree : (t : List ℕ) → shared_tree (widened t) ≡ tree_of t
widened_tree t = λ i. record { size = size_is i; parent = λ x. wide_parent t x i; tag = λ x. wide_at t x 1 (omega arith) i }
  where
    size_is : length (widened t) / 3 ≡ length t / 2
    size_is = let h = widened_length t in omega arith

-- the checks

length_alike : (t : List ℕ) → bad_tree_length 3 (length (widened t)) ≡ bad_tree_length 2 (length t)
length_alike t =
    let h = widened_length t in
    bool_ext (bad_tree_length 3 (length (widened t))) (bad_tree_length 2 (length t))
    (λ p. yes (bad_tree_length 2 (length t)) (λ q. let (a, b, c) = length_fits 2 512 (length t) q in no_yes (fits 3 768 (length (widened t)) (λ z. absurd (a (omega arith))) (omega arith) (omega arith)) p))
    (λ p. yes (bad_tree_length 3 (length (widened t))) (λ q. let (a, b, c) = length_fits 3 768 (length (widened t)) q in no_yes (fits 2 512 (length t) (λ z. absurd (a (omega arith))) (omega arith) (omega arith)) p))
  where
    yes : (b : Bool) → (b ≡ false → ⊥) → b ≡ true
    yes true n = refl
    yes false n = absurd (n refl)

    fits : (k most l : ℕ) → (l ≡ 0 → ⊥) → l % k ≡ 0 → l ≤ most → (eqb l 0 || (not (eqb (l % k) 0) || ltb most l)) ≡ false
    fits k most l a b c = rw (ne_eqb l 0 a, eq-eqb (l % k) 0 b, le-ltb most l c)

owners_pass : (t : List ℕ) (n : ℕ) → any n (bad_owner (widened t)) ≡ false
owners_pass t n = not_yes (any n (bad_owner (widened t))) (λ p. let (x, l, q) = any_elim n (bad_owner (widened t)) p in no_yes (rw (wide_owner t x) (and_comm (eqb x 0) false)) q)

-- the widened table is refused as the table is, with the same number and place
pub widened_verdict : (t : List ℕ) → verdict (shared_checks (widened t)) ≡ verdict (tree_checks t)
unfolding shared_checks tree_checks_at verdict
widened_verdict t = rw (length_alike t, owners_pass t (length (widened t) / 3)) (ap (λ (d : Tree). verdict (refuse 5 (bad_tree_length 2 (length t)) ∷ refuse_at 6 d.size (bad_parent d) ∷ refuse_at 7 d.size (bad_tag d) ∷ [])) (widened_tree t))

-- what each party sees

all_seen : (t : List ℕ) (party x : ℕ) → sees (widened t) party x ≡ true
unfolding sees
all_seen t party x = ap not (not_yes (any (length (widened t) / 3) (λ a. descendant_or_self (shared_tree (widened t)) a x && not (open_to (widened t) party a)))
    (λ p. let (a, l, q) = any_elim (length (widened t) / 3) (λ a. descendant_or_self (shared_tree (widened t)) a x && not (open_to (widened t) party a)) p in
    no_yes (rw (wide_owner t a) (and_comm (descendant_or_self (shared_tree (widened t)) a x) false)) q))

rank_all : (S : ℕ → Bool) → ((x : ℕ) → S x ≡ true) → (k : ℕ) → rank S k ≡ k
unfolding rank
rank_all S h zero = refl
rank_all S h (suc k) = rw (h k, rank_all S h k) (omega arith)

-- of a widened table that is accepted, each party sees the table
pub widened_seen : (t : List ℕ) (party : ℕ) → Passes (tree_checks t) → seen_table (widened t) party ≡ t
unfolding seen_table tree_checks_at bad_parent Passes
widened_seen t party w = ext_get_or 0 (rows_of S row n) t long at
  where
    S : ℕ → Bool
    S = sees (widened t) party

    row : ℕ → List ℕ
    row = new_row (shared_tree (widened t)) S

    n : ℕ
    n = length (widened t) / 3

    long : length (rows_of S row n) ≡ length t
    long =
        let (a, b, c) = length_fits 2 512 (length t) w.0 in
        let h = widened_length t in
        let e = length_rows S row 2 (λ x. refl) n ∙ ap (λ (k : ℕ). 2 * k) (rank_all S (all_seen t party) n) in
        omega arith

    root : get_or t 0 0 ≡ 65535
    root =
        let (a, b, c) = length_fits 2 512 (length t) w.0 in
        eqb-true (get_or t 0 0) 65535 (not-false (eqb (get_or t 0 0) 65535) (none_of (length t / 2) (bad_parent (tree_of t)) 0 w.1.0 (omega arith)))

    cell : (x j : ℕ) → j < 2 → get_or (row x) j 0 ≡ get_or t (2 * x + j) 0
    cell x zero l = first (native.Mathlib.Decide.ℕ_discrete x 0) ∙ ap (λ (k : ℕ). get_or t k 0) (sym (add-zero (2 * x)))
      where
        first : Dec (x ≡ 0) → get_or (row x) 0 0 ≡ get_or t (2 * x) 0
        first (yes z) = rw z (sym root)
        first (no z) = rw (ne_eqb x 0 z) (rank_all S (all_seen t party) (get_or (widened t) (3 * x) 0) ∙ wide_parent t x)
    cell x (suc zero) l = wide_at t x 1 (omega arith)
    cell x (suc (suc j)) l = absurd (not-suc-le-zero (let e : 1 ≤ 0 = omega arith in e))

    at : (i : ℕ) → i < length (rows_of S row n) → get_or (rows_of S row n) i 0 ≡ get_or t i 0
    at i l =
        let h = widened_length t in
        let g = long in
        let (a, b, c) = length_fits 2 512 (length t) w.0 in
        let e : 2 * (i / 2) + i % 2 ≡ i = omega arith in
        let r : rank S (i / 2) ≡ i / 2 = rank_all S (all_seen t party) (i / 2) in
        ap (λ (k : ℕ). get_or (rows_of S row n) k 0) (let d : i ≡ 2 * rank S (i / 2) + i % 2 = omega arith in d)
        ∙ rows_at S row 2 (λ x. refl) n (i / 2) (i % 2) (let m : i / 2 < length (widened t) / 3 = omega arith in m) (all_seen t party (i / 2)) (omega arith)
        ∙ cell (i / 2) (i % 2) (omega arith)
        ∙ ap (λ (k : ℕ). get_or t k 0) e
