-- Laws of node sets as bytes, and of the images of sets under relations.
use Prim.Native.Nat.{ℕ, zero, suc, ◌+◌, ◌-◌, ◌≤◌, ◌<◌}
use native.Mathlib.Omega.{arith}
use native.Mathlib.Nat.{zero-add}
use mathlib.Core.Path.{◌≡◌, refl, sym, ap, ◌∙◌}
use mathlib.Core.Bool.{Bool, true, false, not, ◌&&◌, ◌||◌, and_comm, and_assoc}
use mathlib.Core.Logic.{⊎_elim}
use mathlib.Core.List.{List, [], ◌∷◌, ◌++◌}
use lib.ListN.{length, get_or, get_or-eq_default, take, drop, replicate, length-replicate, get_or-replicate}
use lib.Dec.{ltb, eqb}
use borrow.Author.Tests.{ltb-true, lt-ltb, le-ltb, eqb-true}
use Rattle.std.proofs.lemmas.Grind.{common_steps}
use Rattle.std.proofs.lemmas.List.{length-take, get_or-take, get_or-drop, get_or-append_right}
use Rattle.model.specs.Sets.{any, bit, tab, ones, memb, upto, turn, image}
use Rattle.model.proofs.Booleans.{lt_or_le, Seen, yes!, no!, seen, bool_ext, both_yes, yes_right}
use Rattle.model.proofs.Exists.{any_cong, and_any, any_and, any_swap, any_or, any_one}
use Rattle.model.proofs.Bytes.{tab_of, tab_cong, tab_append, memb_tab}
use Rattle.model.proofs.Counts.{ones_append}
use Rattle.sets.specs.NodeSets.{always, only, combine, combination, shifted}

-- a count by halves

pub part_bit : (s : List ℕ) (at m i v : ℕ) → v ≡ bit (memb (take m (drop at s)) i) → i < length (take m (drop at s)) → v ≡ bit (shifted at s i)
unfolding memb
part_bit s at m i v e l = let h : i < m = omega (arith, length-take {A = ℕ}) in e ∙ rw (get_or-take m (drop at s) i 0 h, get_or-drop at s i 0)

pub ones_halves : (s : List ℕ) (a b : ℕ) → a ≡ ones (tab 128 (shifted 0 s)) → b ≡ ones (tab 128 (shifted 128 s)) → a + b ≡ ones (tab 256 (memb s))
ones_halves s a b p q =
    rw (p, q, tab_cong 128 (shifted 0 s) (memb s) (λ k l. ap (memb s) (zero-add k)))
    (sym (ones_append (tab 128 (memb s)) (tab 128 (shifted 128 s))) ∙ ap ones (sym (tab_append 128 128 (memb s))))

-- one byte for each number below n

pub filled : (b : Bool) (n m v : ℕ) (p : List ℕ) → n ≤ 256 → p ≡ replicate m v → m ≡ n → v ≡ bit b → p ++ drop n (replicate 256 0) ≡ tab 256 (upto n (always b))
unfolding upto
filled b n m v p h e z q = rw (e, z) (tab_of 256 (λ k. ltb k n && b) (replicate n v ++ drop n (replicate 256 0)) size at)
  where
    size : length (replicate n v ++ drop n (replicate 256 0)) ≡ 256
    size = grind (arith, common_steps)

    at : (i : ℕ) → i < 256 → get_or (replicate n v ++ drop n (replicate 256 0)) i 0 ≡ bit (ltb i n && b)
    at i l = ⊎_elim
        (λ k. (let f : get_or (replicate n v ++ drop n (replicate 256 0)) i 0 ≡ v = grind (arith, common_steps) in f) ∙ q ∙ ap (λ (c : Bool). bit (c && b)) (sym (lt-ltb i n k)))
        (λ k.
        get_or-append_right (replicate n v) (drop n (replicate 256 0)) n i 0 (length-replicate n v) k
        ∙ get_or-drop n (replicate 256 0) (i - n) 0 ∙ get_or-replicate 256 (n + (i - n)) 0 0 (omega arith) ∙ ap (λ (c : Bool). bit (c && b)) (sym (le-ltb i n k)))
        (lt_or_le i n)

-- combining at one node

-- the third way
pub combine_else : (op : ℕ) (a b : Bool) → (op ≡ 0 → ⊥) → (op ≡ 1 → ⊥) → (a && not b) ≡ combine op a b
unfolding combine
combine_else op a b p q = sym (get_or-eq_default ((a || b) ∷ (a && b) ∷ []) (a && not b) (let h : 2 ≤ op = omega arith in h))

-- every way keeps a bound
pub combine_within : (op : ℕ) (c a b : Bool) → combine op (c && a) (c && b) ≡ (c && combine op a b)
unfolding combine
combine_within op true a b = refl
combine_within zero false a b = refl
combine_within (suc zero) false a b = refl
combine_within (suc (suc op)) false a b = refl

module _ (n : ℕ) (le : n ≤ 256) where
  -- the byte of a part below n
  pub memb_upto : (H : ℕ → Bool) (i : ℕ) → i < n → memb (tab 256 (upto n H)) i ≡ H i
  unfolding upto
  memb_upto H i l = memb_tab 256 (λ k. ltb k n && H k) i (omega arith) ∙ rw (lt-ltb i n l)

  pub upto_cong : (H K : ℕ → Bool) → ((i : ℕ) → i < n → H i ≡ K i) → tab 256 (upto n H) ≡ tab 256 (upto n K)
  unfolding upto
  upto_cong H K h = tab_cong 256 (λ k. ltb k n && H k) (λ k. ltb k n && K k) (λ k m. at k (seen (ltb k n)))
    where
      at : (k : ℕ) → Seen (ltb k n) → (ltb k n && H k) ≡ (ltb k n && K k)
      at k (yes! p) = rw (h k (ltb-true k n p))
      at k (no! p) = rw p

  pub only_upto : (x : ℕ) → x < n → tab 256 (only x) ≡ tab 256 (upto n (only x))
  unfolding upto
  only_upto x h = tab_cong 256 (only x) (λ k. ltb k n && eqb k x) (λ k m. bool_ext (eqb k x) (ltb k n && eqb k x)
      (λ p. both_yes (lt-ltb k n (let e : k ≡ x = eqb-true k x p in omega arith)) p)
      (λ p. yes_right (ltb k n) (eqb k x) p))

  -- combining two sets below n
  pub combine_upto : (op : ℕ) (H K : ℕ → Bool) → tab 256 (combination op (tab 256 (upto n H)) (tab 256 (upto n K))) ≡ tab 256 (upto n (λ k. combine op (H k) (K k)))
  unfolding combination upto
  combine_upto op H K = tab_cong 256 _ _ (λ k m. rw (memb_tab 256 (λ k. ltb k n && H k) k m, memb_tab 256 (λ k. ltb k n && K k) k m) (combine_within op (ltb k n) (H k) (K k)))

  -- the same where only the first is known to be below n
  pub trim_upto : (H : ℕ → Bool) (s : List ℕ) → tab 256 (combination 1 (tab 256 (upto n H)) s) ≡ tab 256 (upto n (λ k. H k && memb s k))
  unfolding combination combine upto
  trim_upto H s = tab_cong 256 _ _ (λ k m. rw (memb_tab 256 (λ k. ltb k n && H k) k m) (and_assoc (ltb k n) (H k) (memb s k)))

  -- images

  pub image_cong : (A B : ℕ → ℕ → Bool) (S : ℕ → Bool) → ((x y : ℕ) → x < n → y < n → A x y ≡ B x y) → tab 256 (image n A S) ≡ tab 256 (image n B S)
  unfolding image
  image_cong A B S h = upto_cong _ _ (λ y l. any_cong n _ _ (λ x k. rw (h x y k l)))

  -- the same of converses
  pub image_turned : (back : Bool) (A B : ℕ → ℕ → Bool) (S : ℕ → Bool) → ((x y : ℕ) → x < n → y < n → A x y ≡ B x y) → tab 256 (image n (turn back A) S) ≡ tab 256 (image n (turn back B) S)
  image_turned true A B S h = image_cong (λ x y. A y x) (λ x y. B y x) S (λ x y a b. h y x b a)
  image_turned false A B S h = image_cong A B S h

  pub image_from : (A : ℕ → ℕ → Bool) (S R : ℕ → Bool) → ((x : ℕ) → x < n → S x ≡ R x) → tab 256 (image n A S) ≡ tab 256 (image n A R)
  unfolding image
  image_from A S R h = upto_cong _ _ (λ y l. any_cong n _ _ (λ x k. rw (h x k)))

  pub image_compose : (A B : ℕ → ℕ → Bool) (S : ℕ → Bool) → tab 256 (image n B (memb (tab 256 (image n A S)))) ≡ tab 256 (image n (λ x y. any n (λ z. A x z && B z y)) S)
  unfolding image
  image_compose A B S = upto_cong _ _ at
    where
      at : (y : ℕ) → y < n → any n (λ z. memb (tab 256 (upto n (λ z. any n (λ x. S x && A x z)))) z && B z y) ≡ any n (λ x. S x && any n (λ z. A x z && B z y))
      at y l =
          any_cong n _ _ (λ z k. rw (memb_upto (λ z. any n (λ x. S x && A x z)) z k) (and_any n (λ x. S x && A x z) (B z y)))
          ∙ any_swap n n (λ z x. (S x && A x z) && B z y)
          ∙ any_cong n _ _ (λ x k. any_cong n _ _ (λ z h. and_assoc (S x) (A x z) (B z y)) ∙ sym (any_and n (S x) (λ z. A x z && B z y)))

  -- the union of two images of one set
  pub image_or : (A B : ℕ → ℕ → Bool) (S : ℕ → Bool) → tab 256 (combination 0 (tab 256 (image n A S)) (tab 256 (image n B S))) ≡ tab 256 (image n (λ x y. A x y || B x y) S)
  unfolding image combine
  image_or A B S = combine_upto 0 _ _ ∙ upto_cong _ _ (λ y l. any_or n _ _ ∙ any_cong n _ _ (λ x k. distrib (S x) (A x y) (B x y)))
    where
      distrib : (c a b : Bool) → ((c && a) || (c && b)) ≡ (c && (a || b))
      distrib true a b = refl
      distrib false a b = refl

  -- a filter at the end node
  pub image_keep : (A : ℕ → ℕ → Bool) (H S : ℕ → Bool) → tab 256 (combination 1 (tab 256 (image n A S)) (tab 256 (upto n H))) ≡ tab 256 (image n (λ x y. A x y && H y) S)
  unfolding image combine
  image_keep A H S = combine_upto 1 _ _ ∙ upto_cong _ _ (λ y l. and_any n _ (H y) ∙ any_cong n _ _ (λ x k. and_assoc (S x) (A x y) (H y)))

  -- the same from the other side: the start set is filtered
  pub image_kept : (A : ℕ → ℕ → Bool) (H : ℕ → Bool) (s : List ℕ) → tab 256 (image n A (memb (tab 256 (combination 1 s (tab 256 (upto n H)))))) ≡ tab 256 (image n (λ x y. A x y && H x) (memb s))
  unfolding image combination combine
  image_kept A H s = upto_cong _ _ (λ y l. any_cong n _ _ (λ x k.
      rw (memb_tab 256 (λ k. memb s k && memb (tab 256 (upto n H)) k) x (omega arith), memb_upto H x k) (and_assoc (memb s x) (H x) (A x y) ∙ rw (and_comm (H x) (A x y)))))

  -- from every node
  pub image_all : (A : ℕ → ℕ → Bool) → tab 256 (image n A (memb (tab 256 (upto n (always true))))) ≡ tab 256 (upto n (λ y. any n (λ x. A x y)))
  unfolding image
  image_all A = upto_cong _ _ (λ y l. any_cong n _ _ (λ x k. rw (memb_upto (always true) x k)))

  -- from one node
  pub image_one : (A : ℕ → ℕ → Bool) (x : ℕ) → x < n → tab 256 (image n A (memb (tab 256 (only x)))) ≡ tab 256 (upto n (λ y. A x y))
  unfolding image
  image_one A x h = upto_cong _ _ (λ y l. any_cong n _ _ (λ k m. rw (memb_tab 256 (only x) k (omega arith))) ∙ any_one n x (λ k. A k y) h)
