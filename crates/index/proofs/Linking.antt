-- Laws of the pass that links the nodes, from the last to the first.
use Prim.Native.Nat.{ℕ, suc, ◌+◌, ◌-◌, ◌≤◌, ◌<◌}
use native.Mathlib.Omega.{arith}
use mathlib.Core.Path.{◌≡◌, refl, sym, ap, ◌∙◌}
use mathlib.Core.Logic.{◌⊎◌, ⊎_elim}
use mathlib.Core.List.{List, ◌++◌}
use lib.ListN.{length, drop, set, get_or, length-append, length-drop, length-set, get_or-append}
use lib.Seq.{ext_get_or, get_or-set_same, get_or-set_other, get_or-append-add, get_or-drop}
use Rattle.model.specs.Sets.{tab}
use Rattle.model.specs.Tree.{Tree}
use Rattle.model.proofs.Booleans.{lt_or_le}
use Rattle.model.proofs.Exists.{any_intro}
use Rattle.model.proofs.Bytes.{length_tab}
use Rattle.model.proofs.Counts.{ones_most}
use borrow.Author.Tests.{eq-eqb}
use Rattle.index.specs.Index.{has, has_from, first_from, index_of, present}
use Rattle.index.specs.Parts.{Tagged, Rising, Holds, count_from, Each}
use Rattle.index.proofs.First.{first_here, first_next}
use Rattle.index.proofs.Present.{present_rising, present_holds}
use Rattle.index.proofs.Numbers.{index_length, index_at, count_here, count_next}

-- node x has the tag at place k: a value for that tag is stored, those of other tags are as before
each_next : (F : ℕ → ℕ → ℕ) (list values : List ℕ) (x k v : ℕ) → Rising list → k < length list
    → ((g : ℕ) → (get_or list k 0 ≡ g → ⊥) → F g x ≡ F g (suc x)) → v ≡ F (get_or list k 0) x → Each F list (suc x) values → Each F list x (set values k v)
each_next F list values x k v r l other e w = record { long = rw (length-set values k v) w.long; at = λ j m. at j m (native.Mathlib.Decide.ℕ_discrete j k) }
  where
    apart : (j : ℕ) → j < length list → (j ≡ k → ⊥) → get_or list k 0 ≡ get_or list j 0 → ⊥
    apart j m ne q = ⊎_elim (λ h. let z = r.rises j k h l in omega arith) (λ h. let z = r.rises k j (omega arith) m in omega arith) (lt_or_le j k)

    at : (j : ℕ) → j < length list → Dec (j ≡ k) → get_or (set values k v) j 0 ≡ F (get_or list j 0) x
    at j m (yes q) = rw q (get_or-set_same values k v 0 (let z = w.long in omega arith) ∙ e)
    at j m (no q) = get_or-set_other values k j v 0 q ∙ w.at j m ∙ sym (other (get_or list j 0) (apart j m q))

-- the nodes from x on are linked
pub record Linking (t : Tree) (list next₀ first₀ counts₀ next first counts : List ℕ) (x : ℕ) : Type 0 where
  pub tagged : Tagged t
  pub listed : list ≡ present t
  pub fits : t.size ≤ length next₀
  pub from : x ≤ t.size
  pub same_next : length next ≡ length next₀
  pub same_first : length first ≡ length first₀
  pub same_counts : length counts ≡ length counts₀
  pub made : (y : ℕ) → x ≤ y → y < t.size → get_or next y 0 ≡ first_from t (t.tag y) (suc y)
  pub kept : (y : ℕ) → t.size ≤ y → get_or next y 0 ≡ get_or next₀ y 0
  pub firsts : Each (first_from t) list x first
  pub counted : Each (count_from t) list x counts

module _ (t : Tree) (list next₀ first₀ counts₀ : List ℕ) where
  pub linking_start : Tagged t → list ≡ present t → t.size ≤ length next₀ → Each (first_from t) list t.size first₀ → Each (count_from t) list t.size counts₀ → Linking t list next₀ first₀ counts₀ next₀ first₀ counts₀ t.size
  linking_start s p l f c = record {
    tagged = s;
    listed = p;
    fits = l;
    from = omega arith;
    same_next = refl;
    same_first = refl;
    same_counts = refl;
    made = λ y a b. absurd (omega arith);
    kept = λ y a. refl;
    firsts = f;
    counted = c;
  }

  module _ (next first counts : List ℕ) (i : ℕ) (w : Linking t list next₀ first₀ counts₀ next first counts i) where
    pub linking_rising : Rising list
    linking_rising = rw w.listed (present_rising t)

    pub linking_holds : (g : ℕ) → g ≡ t.tag (i - 1) → 0 < i → Holds list g
    linking_holds g e pos =
        let l : i - 1 < t.size = let z = w.from in omega arith in
        rw (w.listed, e)
        (present_holds t (t.tag (i - 1)) (let z = w.tagged.tags (i - 1) l in omega arith) (any_intro t.size (has t (t.tag (i - 1))) (i - 1) l (eq-eqb (t.tag (i - 1)) (t.tag (i - 1)) refl)))

    pub linking_next : (x k g : ℕ) → 0 < i → x ≡ i - 1 → k < length list → get_or list k 0 ≡ g → g ≡ t.tag x
        → Linking t list next₀ first₀ counts₀ (set next x (get_or first k 0)) (set first k x) (set counts k (get_or counts k 0 + 1)) x
    linking_next x k g pos e l p q = record {
      tagged = w.tagged;
      listed = w.listed;
      fits = w.fits;
      from = let z = w.from in omega arith;
      same_next = length-set next x (get_or first k 0) ∙ w.same_next;
      same_first = length-set first k x ∙ w.same_first;
      same_counts = length-set counts k (get_or counts k 0 + 1) ∙ w.same_counts;
      made = λ y a b. at y a b (native.Mathlib.Decide.ℕ_discrete y x);
      kept = λ y a. get_or-set_other next x y (get_or first k 0) 0 (λ r. absurd (omega arith)) ∙ w.kept y a;
      firsts = each_next (first_from t) list first x k x linking_rising l
          (λ h ne. first_next t h x (λ r. ne (tag_at ∙ r))) (sym (first_here t (get_or list k 0) x small (sym tag_at))) (rw (sym step) w.firsts);
      counted = each_next (count_from t) list counts x k (get_or counts k 0 + 1) linking_rising l
          (λ h ne. count_next t h x (λ r. ne (tag_at ∙ r)))
          (ap (λ (z : ℕ). z + 1) (w.counted.at k l ∙ ap (count_from t (get_or list k 0)) step) ∙ sym (count_here t (get_or list k 0) x small (sym tag_at)))
          (rw (sym step) w.counted);
    }
      where
        step : i ≡ suc x
        step = omega arith

        small : x < t.size
        small = let z = w.from in omega arith

        tag_at : get_or list k 0 ≡ t.tag x
        tag_at = p ∙ q

        at : (y : ℕ) → x ≤ y → y < t.size → Dec (y ≡ x) → get_or (set next x (get_or first k 0)) y 0 ≡ first_from t (t.tag y) (suc y)
        at y a b (yes r) = rw r (get_or-set_same next x (get_or first k 0) 0 (let z = w.fits in let u = w.same_next in omega arith) ∙ w.firsts.at k l ∙ rw (tag_at, step))
        at y a b (no r) = get_or-set_other next x y (get_or first k 0) 0 r ∙ w.made y (omega arith) b

    -- a count stays small
    pub linking_count_small : (k : ℕ) → k < length list → get_or counts k 0 ≤ 256
    unfolding count_from
    linking_count_small k l =
        let a = ones_most (tab t.size (has_from t (get_or list k 0) i)) in
        let b = w.tagged.at_most in
        omega (arith, w.counted.at k l, length_tab t.size (has_from t (get_or list k 0) i))

    -- all nodes are linked

    pub linking_firsts : i ≤ 0 → Each (first_from t) list 0 first
    linking_firsts z = rw (let e : 0 ≡ i = omega arith in e) w.firsts

    pub linking_counted : i ≤ 0 → Each (count_from t) list 0 counts
    linking_counted z = rw (let e : 0 ≡ i = omega arith in e) w.counted

    pub linking_whole : i ≤ 0 → next ≡ index_of t ++ drop t.size next₀
    linking_whole z = ext_get_or 0 next (index_of t ++ drop t.size next₀) (w.same_next ∙ sym size) (λ y l. at y l (lt_or_le y t.size))
      where
        size : length (index_of t ++ drop t.size next₀) ≡ length next₀
        size = length-append (index_of t) (drop t.size next₀) ∙ rw (index_length t, length-drop t.size next₀) (let f = w.fits in omega arith)

        at : (y : ℕ) → y < length next → (y < t.size) ⊎ (t.size ≤ y) → get_or next y 0 ≡ get_or (index_of t ++ drop t.size next₀) y 0
        at y l (◌⊎◌.inl h) = w.made y (omega arith) h ∙ sym (get_or-append (index_of t) (drop t.size next₀) 0 y (rw (index_length t) h) ∙ index_at t y h)
        at y l (◌⊎◌.inr h) =
            w.kept y h
            ∙ ap (λ (k : ℕ). get_or next₀ k 0) (let e : y ≡ t.size + (y - t.size) = omega arith in e)
            ∙ sym (get_or-drop t.size next₀ (y - t.size) 0)
            ∙ sym (get_or-append-add (index_of t) (drop t.size next₀) (y - t.size) 0)
            ∙ ap (λ (k : ℕ). get_or (index_of t ++ drop t.size next₀) k 0) (let e : length (index_of t) + (y - t.size) ≡ y = omega (arith, index_length t) in e)
