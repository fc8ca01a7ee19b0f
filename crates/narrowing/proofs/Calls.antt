-- What is evaluated: a part that no variable decides, once for all rows, and what is left, for a row.
use Prim.Native.Nat.{ℕ, zero, suc, ◌≤◌}
use native.Mathlib.Omega.{arith}
use mathlib.Core.Path.{◌≡◌, refl, sym, ap, ◌∙◌}
use mathlib.Core.Bool.{Bool, true, false, not, ◌&&◌}
use mathlib.Core.List.{List, [], ◌∷◌}
use lib.Dec.{eqb}
use lib.ListN.{length, take, replicate, length-replicate}
use Rattle.model.specs.Sets.{any, tab, ones, memb, image}
use Rattle.model.specs.Tree.{size_of, tree_of}
use Rattle.model.specs.QueryTable.{entries_of, path_at, expr_at}
use Rattle.model.specs.Meaning.{pairs, holds}
use Rattle.model.specs.Results.{assigned, related}
use Rattle.model.specs.Answers.{satisfied}
use Rattle.model.specs.Accepted.{Below}
use Rattle.model.proofs.Bytes.{memb_tab}
use Rattle.model.proofs.Exists.{any_cong}
use Rattle.model.proofs.Counts.{ones_front, ones_any}
use Rattle.sets.specs.NodeSets.{combination, combine}
use Rattle.sets.proofs.Images.{upto_cong, image_turned}
use Rattle.eval.specs.Evaluation.{Ready, passing, passed, reached}
use Rattle.eval.proofs.Entries.{small}
use Rattle.pruning.proofs.Fixed.{fixed_path, fixed_expr}
use Rattle.engines.specs.Engines.{Suits, Searchable}
use lib.Seq.{length-take-le}
use Rattle.std.specs.Prelude.{Some, None}
use Rattle.narrowing.specs.declared.Narrowed.{Narrowed}
use Rattle.narrowing.specs.Narrowing.{CoreOf, Decided, AlwaysReached, AlwaysPassed, common}
use Rattle.narrowing.proofs.Between.{common_all, by_image, by_none}
use Rattle.narrowing.proofs.Cores.{ready_at, zeros_below}

-- what no variable decides

pub zeros : (k : ℕ) → k ≤ 3 → take {A = ℕ} k (0 ∷ 0 ∷ 0 ∷ []) ≡ replicate k 0
zeros zero h = refl
zeros (suc zero) h = refl
zeros (suc (suc zero)) h = refl
zeros (suc (suc (suc zero))) h = refl
zeros (suc (suc (suc (suc k)))) h = absurd (omega arith)

module _ {t v q : List ℕ} {k e : ℕ} {path : Bool} (d : Decided t v q k e path) where
  pub suits_zeros : Suits t v q (take {A = ℕ} k (0 ∷ 0 ∷ 0 ∷ [])) e path
  suits_zeros = rw (zeros k d.searchable.most) (record {
    ready = ready_at d.searchable (replicate k 0) (length-replicate k 0) (zeros_below d.searchable);
    kinds = d.kinds;
    few = d.searchable.few;
    five = d.five;
  })

pub always_reached : {t v q : List ℕ} {k e : ℕ} (back : Bool) (from r nodes : List ℕ) → r ≡ reached t q nodes e back from → Decided t v q k e true → AlwaysReached t q e back from r
unfolding reached related
always_reached {t = t} {q = q} {e = e} back from r nodes p d row =
    p ∙ image_turned (size_of t) d.searchable.linked.tree.sound.at_most back (pairs (tree_of t) (assigned nodes) (path_at q e)) (pairs (tree_of t) (assigned row) (path_at q e)) (memb from)
    (λ x y a b. fixed_path (tree_of t) (assigned nodes) (assigned row) q e d.kinds.sort d.fixed x y)

pub always_passed : {t v q : List ℕ} {k e : ℕ} (r nodes : List ℕ) → r ≡ passed t q nodes e → Decided t v q k e false → AlwaysPassed t q e r
unfolding passed passing
always_passed {t = t} {q = q} {e = e} r nodes p d row =
    p ∙ upto_cong (size_of t) d.searchable.linked.tree.sound.at_most (holds (tree_of t) (assigned nodes) (expr_at q e)) (holds (tree_of t) (assigned row) (expr_at q e))
    (λ x l. fixed_expr (tree_of t) (assigned nodes) (assigned row) q e d.kinds.sort d.fixed x)

-- two sets

pub did_meet : (n : ℕ) (a b both : List ℕ) (r : Bool) → r ≡ any n (memb both) → both ≡ tab 256 (combination 1 a b) → n ≤ 256 → r ≡ common n a b
unfolding common combination combine
did_meet n a b both r p c le =
    p ∙ ap (λ (z : List ℕ). any n (memb z)) c
    ∙ any_cong n _ _ (λ x k. memb_tab 256 (λ x. memb a x && memb b x) x (omega arith))

-- a row

module _ {t v q : List ℕ} {k : ℕ} (ok : Searchable t v q k) (left : Narrowed) (c : CoreOf t q k left) (w : List ℕ) (three : length w ≡ 3) (rb : Below (size_of t) (take k w)) where
  long : length (take k w) ≡ k
  long = length-take-le k w (omega (arith, ok.most))

  ready_row : Ready t v q (take k w)
  ready_row = ready_at ok (take k w) long rb

  -- nothing left: the sets meet or not
  pub holds_none : left.entry ≡ None → (r : Bool) → r ≡ common (size_of t) left.from left.to → r ≡ satisfied t q (take k w)
  holds_none is r p =
      let d : CoreOf t q k (record { entry = None; cut = left.cut; from = left.from; to = left.to }) = rw is at c in
      p ∙ sym (d.0.holds (take k w) long rb ∙ by_none ready_row left.from left.to (entries_of q) (omega arith))

  module _ (e : ℕ) (is : left.entry ≡ Some e) where
    some : CoreOf t q k (record { entry = Some e; cut = left.cut; from = left.from; to = left.to })
    some = rw is at c

    pub suits_row : Suits t v q (take k w) e true
    suits_row = record { ready = ready_row; kinds = record { within = some.1; sort = some.0.path some.1 }; few = ok.few; five = some.0.five some.1 }

    module _ (ends : List ℕ) (p : ends ≡ reached t q (take k w) e false left.from) where
      held : satisfied t q (take k w) ≡ common (size_of t) ends left.to
      unfolding reached
      held = some.0.holds (take k w) long rb ∙ by_image ready_row left.from left.to e some.1 ∙ ap (λ (z : List ℕ). common (size_of t) z left.to) (sym p)

      -- the set that is reached meets the end, or has a node where that is all nodes

      pub holds_cut : (r : Bool) → r ≡ common (size_of t) ends left.to → r ≡ satisfied t q (take k w)
      holds_cut r d = d ∙ sym held

      pub holds_count : (count : ℕ) → count ≡ ones ends → left.cut ≡ false → not (eqb count 0) ≡ satisfied t q (take k w)
      unfolding reached image
      holds_count count d z =
          ap (λ (j : ℕ). not (eqb j 0)) (d ∙ ones_front (size_of t) _ ends p (small ready_row))
          ∙ ones_any (memb ends) (size_of t)
          ∙ sym (held ∙ common_all (size_of t) ends left.to (small ready_row) (some.0.uncut z))
