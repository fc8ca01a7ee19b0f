-- Laws of reading byte by byte, for any states and any choices of words in which no word begins with another.
use Prim.Native.Nat.{ℕ, suc, ◌≤◌, ◌<◌}
use native.Mathlib.Nat.{not-suc-le-zero, le_of_suc-le-suc}
use native.Mathlib.Omega.{arith}
use mathlib.Core.Path.{◌≡◌, refl, sym, ap, ◌∙◌, subst}
use mathlib.Core.Logic.{◌⊎◌, ⊎_elim}
use mathlib.Core.Bool.{Bool, true, false, not, ◌&&◌, ◌||◌, cond}
use mathlib.Core.List.{List, [], ◌∷◌, ◌++◌, append_assoc, append-nil}
use lib.ListN.{length, take}
use lib.Dec.{eqb}
use borrow.Author.Tests.{eqb-true, eq-eqb}
use Rattle.model.proofs.Booleans.{no_yes, yes_left, yes_right}
use Rattle.grammar.specs.Online.{Choice, Place, advance, settle, taken, feed, run, reach, is_dead}
use Rattle.grammar.specs.Online.Choice.{choice}
use Rattle.grammar.specs.Online.Place.{dead, between, within}

-- the choices offer the word w, which leads to x
abbrev pub Offers : {X : Type 0} → List (Choice X) → List ℕ → X → Type 0
Offers [] w x = ⊥
Offers (choice may v y ∷ l) w x = ((may ≡ true) × (v ≡ w) × (y ≡ x)) ⊎ Offers l w x

-- neither word begins with the other
abbrev pub apart : List ℕ → List ℕ → Bool
apart [] v = false
apart (c ∷ w) [] = false
apart (c ∷ w) (d ∷ v) = not (eqb c d) || apart w v

abbrev pub apart_all : {X : Type 0} → List ℕ → List (Choice X) → Bool
apart_all w [] = true
apart_all w (choice may v x ∷ l) = apart w v && apart_all w l

-- no word begins with another
abbrev pub prefix_free : {X : Type 0} → List (Choice X) → Bool
prefix_free [] = true
prefix_free (choice may v x ∷ l) = apart_all v l && prefix_free l

nil_cons : {B : Type 0} {c : ℕ} {w : List ℕ} → ◌≡◌ {A = List ℕ} [] (c ∷ w) → B
nil_cons {c = c} {w = w} p = let z : ◌≡◌ {A = ℕ} 0 1 = cc in absurd (omega arith)

-- keeping a choice or not, as a byte fits
kept : (b : Bool) {X : Type 0} (a : Choice X) (l : List (Choice X)) (w : List ℕ) (x : X) → Offers l w x → Offers (cond b (a ∷ l) l) w x
kept true (choice m v y) l w x h = ◌⊎◌.inr h
kept false (choice m v y) l w x h = h

advance_offers : {X : Type 0} (l : List (Choice X)) (c : ℕ) (w : List ℕ) (x : X) → Offers l (c ∷ w) x → Offers (advance c l) w x
unfolding advance
advance_offers [] c w x h = h
advance_offers (choice m [] y ∷ l) c w x h = ⊎_elim (λ p. nil_cons p.1) (λ p. advance_offers l c w x p) h
advance_offers (choice m (d ∷ v) y ∷ l) c w x h =
    ⊎_elim
    (λ p. here m d v y p.0 (let e : d ≡ c = cc in e) (let e : v ≡ w = cc in e) p.2)
    (λ p. kept (m && eqb c d) (choice true v y) (advance c l) w x (advance_offers l c w x p))
    h
  where
    here :
        (m : Bool) (d : ℕ) (v : List ℕ) (y : _) → m ≡ true → d ≡ c → v ≡ w → y ≡ x
        → Offers (cond (m && eqb c d) (choice true v y ∷ advance c l) (advance c l)) w x
    here m d v y p q r s = rw (p, eq-eqb c d (sym q)) (◌⊎◌.inl (refl, r, s))

apart_step : (b d : ℕ) (w v : List ℕ) → apart (b ∷ w) (d ∷ v) ≡ true → b ≡ d → apart w v ≡ true
apart_step b d w v h e = rw (eq-eqb b d e) at h

apart_all_advance : {X : Type 0} (l : List (Choice X)) (b : ℕ) (w : List ℕ) → apart_all (b ∷ w) l ≡ true → apart_all w (advance b l) ≡ true
unfolding advance
apart_all_advance [] b w h = refl
apart_all_advance (choice m [] x ∷ l) b w h = no_yes refl h
apart_all_advance (choice m (d ∷ v) x ∷ l) b w h =
    go (m && eqb b d) refl (apart_all_advance l b w (yes_right (apart (b ∷ w) (d ∷ v)) (apart_all (b ∷ w) l) h))
  where
    go : (k : Bool) → (m && eqb b d) ≡ k → apart_all w (advance b l) ≡ true → apart_all w (cond k (choice true v x ∷ advance b l) (advance b l)) ≡ true
    go false e ih = ih
    go true e ih =
        rw (apart_step b d w v (yes_left (apart (b ∷ w) (d ∷ v)) (apart_all (b ∷ w) l) h) (eqb-true b d (yes_right m (eqb b d) e))) ih

free_advance : {X : Type 0} (l : List (Choice X)) (b : ℕ) → prefix_free l ≡ true → prefix_free (advance b l) ≡ true
unfolding advance
free_advance [] b h = refl
free_advance (choice m [] x ∷ l) b h = free_advance l b (yes_right (apart_all [] l) (prefix_free l) h)
free_advance (choice m (d ∷ v) x ∷ l) b h =
    go (m && eqb b d) refl (free_advance l b (yes_right (apart_all (d ∷ v) l) (prefix_free l) h))
  where
    go : (k : Bool) → (m && eqb b d) ≡ k → prefix_free (advance b l) ≡ true → prefix_free (cond k (choice true v x ∷ advance b l) (advance b l)) ≡ true
    go false e ih = ih
    go true e ih =
        let q : b ≡ d = eqb-true b d (yes_right m (eqb b d) e) in
        let r : apart_all (b ∷ v) l ≡ true = subst (λ (k : ℕ). apart_all (k ∷ v) l ≡ true) (sym q) (yes_left (apart_all (d ∷ v) l) (prefix_free l) h) in
        rw (apart_all_advance l b v r) ih

-- the empty word is apart from none
alone : {X : Type 0} (l : List (Choice X)) (w : List ℕ) (x : X) {B : Type 0} → apart_all [] l ≡ true → Offers l w x → B
alone [] w x h o = absurd o
alone (choice m v y ∷ l) w x h o = no_yes refl h

none_read : {X : Type 0} (all l : List (Choice X)) (w : List ℕ) → apart_all w l ≡ true → settle all l ≡ within all
unfolding settle
none_read all [] w h = refl
none_read all (choice m [] x ∷ l) [] h = no_yes refl h
none_read all (choice m [] x ∷ l) (c ∷ w) h = no_yes refl h
none_read all (choice m (d ∷ v) x ∷ l) [] h = no_yes refl h
none_read all (choice m (d ∷ v) x ∷ l) (c ∷ w) h = none_read all l (c ∷ w) (yes_right (apart (c ∷ w) (d ∷ v)) (apart_all (c ∷ w) l) h)

settle_read : {X : Type 0} (all l : List (Choice X)) (x : X) → prefix_free l ≡ true → Offers l [] x → settle all l ≡ between x
unfolding settle
settle_read all [] x h o = absurd o
settle_read all (choice m [] y ∷ l) x h o =
    ⊎_elim (λ p. ap between p.2) (λ p. alone l [] x (yes_left (apart_all [] l) (prefix_free l) h) p) o
settle_read all (choice m (d ∷ v) y ∷ l) x h o =
    ⊎_elim (λ p. nil_cons (sym p.1)) (λ p. settle_read all l x (yes_right (apart_all (d ∷ v) l) (prefix_free l) h) p) o

settle_on : {X : Type 0} (all l : List (Choice X)) (c : ℕ) (w : List ℕ) (x : X) → prefix_free l ≡ true → Offers l (c ∷ w) x → settle all l ≡ within all
unfolding settle
settle_on all [] c w x h o = absurd o
settle_on all (choice m [] y ∷ l) c w x h o =
    ⊎_elim (λ p. nil_cons p.1) (λ p. alone l (c ∷ w) x (yes_left (apart_all [] l) (prefix_free l) h) p) o
settle_on all (choice m (d ∷ v) y ∷ l) c w x h o =
    ⊎_elim
    (λ p. none_read all l (d ∷ v) (yes_left (apart_all (d ∷ v) l) (prefix_free l) h))
    (λ p. settle_on all l c w x (yes_right (apart_all (d ∷ v) l) (prefix_free l) h) p)
    o

taken_settle : {X : Type 0} (l : List (Choice X)) (w : List ℕ) (x : X) → Offers l w x → taken l ≡ settle l l
unfolding taken
taken_settle [] w x o = absurd o
taken_settle (a ∷ l) w x o = refl

-- runs

pub run_append : {X : Type 0} (next : X → List (Choice X)) (p : Place X) (s t : List ℕ) → run next p (s ++ t) ≡ run next (run next p s) t
unfolding run
run_append next p [] t = refl
run_append next p (b ∷ s) t = run_append next (feed next p b) s t

pub run_dead : {X : Type 0} (next : X → List (Choice X)) (s : List ℕ) → run next dead s ≡ dead
unfolding run feed
run_dead next [] = refl
run_dead next (b ∷ s) = run_dead next s

-- an offered word is read
walk : {X : Type 0} (next : X → List (Choice X)) (w : List ℕ) (l : List (Choice X)) (c : ℕ) (x : X)
    → prefix_free l ≡ true → Offers l (c ∷ w) x → run next (taken (advance c l)) w ≡ between x
unfolding run feed
walk next [] l c x h o =
    let p = advance_offers l c [] x o in
    taken_settle (advance c l) [] x p ∙ settle_read (advance c l) (advance c l) x (free_advance l c h) p
walk next (d ∷ w) l c x h o =
    let p = advance_offers l c (d ∷ w) x o in
    let q = free_advance l c h in
    let e : taken (advance c l) ≡ within (advance c l) = taken_settle (advance c l) (d ∷ w) x p ∙ settle_on (advance c l) (advance c l) d w x q p in
    rw e (walk next w (advance c l) d x q p)

-- no word is empty
abbrev pub is_cons : List ℕ → Bool
is_cons [] = false
is_cons (c ∷ w) = true

abbrev pub none_empty : {X : Type 0} → List (Choice X) → Bool
none_empty [] = true
none_empty (choice may w x ∷ l) = is_cons w && none_empty l

pub offered_cons : {X : Type 0} (l : List (Choice X)) (w : List ℕ) (x : X) → none_empty l ≡ true → Offers l w x → is_cons w ≡ true
offered_cons [] w x h o = absurd o
offered_cons (choice m v y ∷ l) w x h o =
    ⊎_elim (λ p. ap is_cons (sym p.1) ∙ yes_left (is_cons v) (none_empty l) h) (λ p. offered_cons l w x (yes_right (is_cons v) (none_empty l) h) p) o

pub reads : {X : Type 0} (next : X → List (Choice X)) (x y : X) (w : List ℕ)
    → prefix_free (next x) ≡ true → none_empty (next x) ≡ true → Offers (next x) w y → run next (between x) w ≡ between y
unfolding run feed
reads next x y [] h n o = no_yes refl (offered_cons (next x) [] y n o)
reads next x y (c ∷ w) h n o = walk next w (next x) c y h o

-- the choice is the first, or a later one

pub offers_first : {X : Type 0} (a : Choice X) (l : List (Choice X)) (w : List ℕ) (x : X) → Offers (a ∷ []) w x → Offers (a ∷ l) w x
offers_first (choice m v y) l w x h = ⊎_elim (λ p. ◌⊎◌.inl p) (λ p. absurd p) h

pub offers_later : {X : Type 0} (a : Choice X) (l : List (Choice X)) (w : List ℕ) (x : X) → Offers l w x → Offers (a ∷ l) w x
offers_later (choice m v y) l w x h = ◌⊎◌.inr h

-- what is kept by reading: P x c says that x may be the state when c has been read

module _ {X : Type 0} (P : X → List ℕ → Type 0) where
  -- each word that may come next leads to a state that may be
  abbrev pub Leads : List ℕ → List (Choice X) → Type 0
  Leads c [] = Unit {0}
  Leads c (choice may w x ∷ l) = (may ≡ true → P x (c ++ w)) × Leads c l

  abbrev All : List ℕ → List (Choice X) → Type 0
  All c [] = Unit {0}
  All c (choice may w x ∷ l) = P x (c ++ w) × All c l

  all_leads : (c : List ℕ) (l : List (Choice X)) → All c l → Leads c l
  all_leads c [] h = tt
  all_leads c (choice m w x ∷ l) h = (λ _. h.0, all_leads c l h.1)

  abbrev pub Good : List ℕ → Place X → Type 0
  Good c dead = Unit {0}
  Good c (between x) = P x c
  Good c (within []) = ⊥
  Good c (within (choice may w x ∷ l)) = P x (c ++ w) × All c l

  advance_all : (c : List ℕ) (b : ℕ) (l : List (Choice X)) → Leads c l → All (c ++ b ∷ []) (advance b l)
  unfolding advance
  advance_all c b [] h = tt
  advance_all c b (choice m [] x ∷ l) h = advance_all c b l h.1
  advance_all c b (choice m (d ∷ w) x ∷ l) h = go (m && eqb b d) refl (advance_all c b l h.1)
    where
      go : (k : Bool) → (m && eqb b d) ≡ k → All (c ++ b ∷ []) (advance b l) → All (c ++ b ∷ []) (cond k (choice true w x ∷ advance b l) (advance b l))
      go false e ih = ih
      go true e ih =
          let q : b ≡ d = eqb-true b d (yes_right m (eqb b d) e) in
          let p : P x (c ++ (b ∷ w)) = subst (λ (k : ℕ). P x (c ++ (k ∷ w))) (sym q) (h.0 (yes_left m (eqb b d) e)) in
          (subst (λ (t : List ℕ). P x t) (sym (append_assoc c (b ∷ []) w)) p, ih)

  settle_good : (c : List ℕ) (a : Choice X) (r l : List (Choice X)) → All c (a ∷ r) → All c l → Good c (settle (a ∷ r) l)
  unfolding settle
  settle_good c (choice m w x) r [] h k = h
  settle_good c (choice m w x) r (choice m' [] y ∷ l) h k = subst (λ (t : List ℕ). P y t) (append-nil c) k.0
  settle_good c (choice m w x) r (choice m' (d ∷ v) y ∷ l) h k = settle_good c (choice m w x) r l h k.1

  taken_good : (c : List ℕ) (l : List (Choice X)) → All c l → Good c (taken l)
  unfolding taken
  taken_good c [] h = tt
  taken_good c (a ∷ l) h = settle_good c a l (a ∷ l) h h

  module _ (next : X → List (Choice X)) (on : (x : X) (c : List ℕ) → P x c → Leads c (next x)) where
    feed_good : (p : Place X) (c : List ℕ) (b : ℕ) → Good c p → Good (c ++ b ∷ []) (feed next p b)
    unfolding feed
    feed_good dead c b h = tt
    feed_good (between x) c b h = taken_good (c ++ b ∷ []) (advance b (next x)) (advance_all c b (next x) (on x c h))
    feed_good (within []) c b h = absurd h
    feed_good (within (choice m w x ∷ l)) c b h =
        taken_good (c ++ b ∷ []) (advance b (choice m w x ∷ l)) (advance_all c b (choice m w x ∷ l) (all_leads c (choice m w x ∷ l) h))

    pub run_good : (s : List ℕ) (p : Place X) (c : List ℕ) → Good c p → Good (c ++ s) (run next p s)
    unfolding run
    run_good [] p c h = subst (λ (t : List ℕ). Good t p) (sym (append-nil c)) h
    run_good (b ∷ s) p c h =
        subst (λ (t : List ℕ). Good t (run next (feed next p b) s)) (append_assoc c (b ∷ []) s)
        (run_good s (feed next p b) (c ++ b ∷ []) (feed_good p c b h))

-- the place

pub reach_alive : {X : Type 0} (next : X → List (Choice X)) (s : List ℕ) (p : Place X)
    → is_dead p ≡ false → is_dead (run next p (take (reach next p s) s)) ≡ false
unfolding run reach
reach_alive next [] p h = h
reach_alive next (b ∷ s) p h = go (is_dead (feed next p b)) refl (reach_alive next s (feed next p b))
  where
    go :
        (k : Bool) → is_dead (feed next p b) ≡ k
        → (is_dead (feed next p b) ≡ false → is_dead (run next (feed next p b) (take (reach next (feed next p b) s) s)) ≡ false)
        → is_dead (run next p (take (cond k 0 (suc (reach next (feed next p b) s))) (b ∷ s))) ≡ false
    go true e ih = h
    go false e ih = ih e

pub reach_dead : {X : Type 0} (next : X → List (Choice X)) (s : List ℕ) (p : Place X)
    → reach next p s < length s → is_dead (run next p (take (suc (reach next p s)) s)) ≡ true
unfolding run reach
reach_dead next [] p h = absurd (not-suc-le-zero h)
reach_dead next (b ∷ s) p h = go (is_dead (feed next p b)) refl (reach_dead next s (feed next p b)) h
  where
    go :
        (k : Bool) → is_dead (feed next p b) ≡ k
        → (reach next (feed next p b) s < length s → is_dead (run next (feed next p b) (take (suc (reach next (feed next p b) s)) s)) ≡ true)
        → cond k 0 (suc (reach next (feed next p b) s)) < suc (length s)
        → is_dead (run next p (take (suc (cond k 0 (suc (reach next (feed next p b) s)))) (b ∷ s))) ≡ true
    go true e ih l = e
    go false e ih l = ih (le_of_suc-le-suc l)

pub reach_most : {X : Type 0} (next : X → List (Choice X)) (s : List ℕ) (p : Place X) → reach next p s ≤ length s
unfolding reach
reach_most next [] p = omega arith
reach_most next (b ∷ s) p = go (is_dead (feed next p b)) (reach_most next s (feed next p b))
  where
    go : (k : Bool) → reach next (feed next p b) s ≤ length s → cond k 0 (suc (reach next (feed next p b) s)) ≤ suc (length s)
    go true ih = omega arith
    go false ih = omega arith

pub dead_is : {X : Type 0} (p : Place X) → is_dead p ≡ true → p ≡ dead
dead_is dead h = refl
dead_is (between x) h = no_yes refl h
dead_is (within l) h = no_yes refl h
