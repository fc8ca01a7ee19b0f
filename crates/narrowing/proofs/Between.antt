-- Pairs of a path that lead from one set to another: how an entry is taken off, at the side of the start or at that of the end.
use Prim.Native.Nat.{ℕ, ◌≤◌, ◌<◌}
use native.Mathlib.Omega.{arith}
use mathlib.Core.Path.{◌≡◌, refl, sym, ap, ◌∙◌}
use mathlib.Core.Bool.{Bool, true, false, ◌&&◌, and_comm, and_assoc}
use mathlib.Core.List.{List}
use lib.Dec.{ltb, eqb}
use borrow.Author.Tests.{ltb-true, lt-ltb, le-ltb, eq-eqb, eqb-true}
use Rattle.model.specs.Sets.{any, tab, memb, upto, turn, image}
use Rattle.model.specs.Tree.{size_of}
use Rattle.model.specs.QueryTable.{entries_of, kind, left, right, last_of}
use Rattle.model.specs.Meaning.{pairs_over}
use Rattle.model.specs.Results.{related}
use Rattle.model.specs.Answers.{Row, satisfied}
use Rattle.model.proofs.Booleans.{bool_ext}
use Rattle.model.proofs.Exists.{any_cong, and_any, any_and, any_swap, any_one}
use Rattle.model.proofs.Axes.{eqb_comm}
use Rattle.model.proofs.Bytes.{memb_tab}
use Rattle.model.proofs.QueryTable.{at_root}
use Rattle.sets.specs.NodeSets.{always, combination}
use Rattle.sets.proofs.Images.{memb_upto}
use Rattle.eval.specs.Evaluation.{Ready, passed, reached}
use Rattle.eval.proofs.Entries.{small, did_compose, did_filter_back}
use Rattle.narrowing.specs.Narrowing.{linked, between, common}

-- relations

shuffle : (a b c : Bool) → (a && (b && c)) ≡ ((a && c) && b)
shuffle true b c = and_comm b c
shuffle false b c = refl

module _ (n : ℕ) (le : n ≤ 256) (R : ℕ → ℕ → Bool) (s u : List ℕ) where
  -- the image of the one set meets the other
  crossing_image : any n (λ x. memb s x && any n (λ y. memb u y && R x y)) ≡ common n (tab 256 (image n R (memb s))) u
  unfolding common image
  crossing_image =
      any_cong n _ _ (λ x k. any_and n (memb s x) (λ y. memb u y && R x y))
      ∙ any_swap n n (λ x y. memb s x && (memb u y && R x y))
      ∙ any_cong n _ _ (λ y k. any_cong n _ _ (λ x l. shuffle (memb s x) (memb u y) (R x y))
      ∙ sym (rw (memb_upto n le (λ y. any n (λ x. memb s x && R x y)) y k) (and_any n (λ x. memb s x && R x y) (memb u y))))

  -- the same backwards
  crossing_back : any n (λ x. memb s x && any n (λ y. memb u y && R x y)) ≡ common n s (tab 256 (image n (turn true R) (memb u)))
  unfolding common image
  crossing_back = any_cong n _ _ (λ x k. rw (memb_upto n le (λ x. any n (λ y. memb u y && R x y)) x k))

-- sets that meet

pub common_cong : (n : ℕ) (a b c d : List ℕ) → ((x : ℕ) → x < n → memb a x ≡ memb c x) → ((x : ℕ) → x < n → memb b x ≡ memb d x) → common n a b ≡ common n c d
unfolding common
common_cong n a b c d h k = any_cong n _ _ (λ x l. rw (h x l, k x l))

-- with all nodes
pub common_all : (n : ℕ) (a b : List ℕ) → n ≤ 256 → b ≡ tab 256 (upto n (always true)) → common n a b ≡ any n (memb a)
unfolding common
common_all n a b le p = any_cong n _ _ (λ x k. rw (p, memb_upto n le (always true) x k) (and_comm (memb a x) true))

-- the path at an entry

module _ {t v q : List ℕ} {row : Row} (ok : Ready t v q row) (from to : List ℕ) where
  pub by_image : (e : ℕ) → e < entries_of q → between t q row e from to ≡ common (size_of t) (reached t q row e false from) to
  unfolding between linked reached
  by_image e em = rw (lt-ltb e (entries_of q) em) (crossing_image (size_of t) (small ok) (related t q row e false) from to)

  pub by_back : (e : ℕ) → e < entries_of q → between t q row e from to ≡ common (size_of t) from (reached t q row e true to)
  unfolding between linked reached related
  by_back e em = rw (lt-ltb e (entries_of q) em) (crossing_back (size_of t) (small ok) (related t q row e false) from to)

  -- nothing left
  pub by_none : (e : ℕ) → entries_of q ≤ e → between t q row e from to ≡ common (size_of t) from to
  unfolding between linked common
  by_none e h = rw (le-ltb e (entries_of q) h) (any_cong (size_of t) _ _ (λ x k. ap (λ (b : Bool). memb from x && b)
      (any_cong (size_of t) _ _ (λ y l. and_comm (memb to y) (eqb x y) ∙ rw (eqb_comm x y)) ∙ any_one (size_of t) x (memb to) k)))

-- an entry taken off

module _ {t v q : List ℕ} {row : Row} (ok : Ready t v q row) (from to : List ℕ) (e : ℕ) (em : e < entries_of q) where
  -- all of it
  pub off_whole : (m : List ℕ) → m ≡ reached t q row e false from → between t q row e from to ≡ between t q row (entries_of q) m to
  off_whole m p = by_image ok from to e em ∙ ap (λ (z : List ℕ). common (size_of t) z to) (sym p) ∙ sym (by_none ok m to (entries_of q) (omega arith))

  -- of a composition, the left operand
  pub off_left : (m : List ℕ) → m ≡ reached t q row (left q e) false from → kind q e ≡ 1 → right q e < entries_of q → between t q row e from to ≡ between t q row (right q e) m to
  off_left m p h r =
      by_image ok from to e em
      ∙ ap (λ (z : List ℕ). common (size_of t) z to) (sym (did_compose refl ok em false (left q e) (right q e) from m _ refl p refl refl h))
      ∙ sym (by_image ok m to (right q e) r)

  -- the right operand
  pub off_right : (m : List ℕ) → m ≡ reached t q row (right q e) true to → kind q e ≡ 1 → left q e < entries_of q → between t q row e from to ≡ between t q row (left q e) from m
  off_right m p h l =
      by_back ok from to e em
      ∙ ap (common (size_of t) from) (sym (did_compose refl ok em true (right q e) (left q e) to m _ refl p refl refl h))
      ∙ sym (by_back ok from m (left q e) l)

  -- of a filter, the node expression
  pub off_filter : (m s : List ℕ) → m ≡ tab 256 (combination 1 to s) → s ≡ passed t q row (right q e) → kind q e ≡ 5 → left q e < entries_of q → between t q row e from to ≡ between t q row (left q e) from m
  off_filter m s p a h l =
      by_back ok from to e em
      ∙ ap (common (size_of t) from) (sym (did_filter_back refl ok em true to m s _ refl p a refl h))
      ∙ sym (by_back ok from m (left q e) l)

  -- from the root
  pub off_root : (m : List ℕ) (b : Bool) → m ≡ tab 256 (upto 1 (always b)) → b ≡ any (size_of t) (memb from) → kind q e ≡ 7 → left q e < e → between t q row e from to ≡ between t q row (left q e) m to
  unfolding between linked related pairs_over upto
  off_root m b p c h l =
      rw (lt-ltb e (entries_of q) em, lt-ltb (left q e) (entries_of q) (omega arith), at_root q e h l, p)
      (sym (and_any n (memb from) (Y 0)) ∙ rw (sym c)
      (sym (any_cong n _ _ (λ x k. rw (memb_tab 256 (λ x. ltb x 1 && b) x (omega (arith, small ok)), first x) (and_assoc (eqb x 0) b (Y x)))
      ∙ any_one n 0 (λ x. b && Y x) ok.linked.tree.sound.some_node)))
    where
      n : ℕ
      n = size_of t

      Y : ℕ → Bool
      Y x = any n (λ y. memb to y && related t q row (left q e) false x y)

      first : (x : ℕ) → ltb x 1 ≡ eqb x 0
      first x = bool_ext (ltb x 1) (eqb x 0) (λ h. eq-eqb x 0 (let w : x < 1 = ltb-true x 1 h in omega arith)) (λ h. lt-ltb x 1 (let w : x ≡ 0 = eqb-true x 0 h in omega arith))

-- the whole query, from all nodes to all nodes
pub off_none : (t q : List ℕ) (row : Row) (all : List ℕ) → size_of t ≤ 256 → last_of q < entries_of q → all ≡ tab 256 (upto (size_of t) (always true)) → satisfied t q row ≡ between t q row (last_of q) all all
unfolding satisfied between linked
off_none t q row all le em p =
    rw (lt-ltb (last_of q) (entries_of q) em, p)
    (any_cong (size_of t) _ _ (λ x k. rw (memb_upto (size_of t) le (always true) x k)
    (any_cong (size_of t) _ _ (λ y l. rw (memb_upto (size_of t) le (always true) y l)))))
