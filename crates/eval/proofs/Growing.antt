-- The loop that follows a relation from the nodes found last until none is new.
use Prim.Native.Nat.{ℕ, zero, suc, ◌+◌, ◌≤◌, ◌<◌}
use native.Mathlib.Nat.{not-suc-le-zero, le_of_suc-le-suc, eq-or-lt_of_le}
use native.Mathlib.Omega.{arith}
use mathlib.Core.Path.{◌≡◌, refl, sym, ap, ap₂, ◌∙◌}
use mathlib.Core.Logic.{⊎_elim}
use mathlib.Core.Bool.{Bool, true, false, not, ◌&&◌, ◌||◌}
use mathlib.Core.List.{List}
use borrow.Author.Tests.{not-true}
use Rattle.model.specs.Sets.{any, bit, tab, memb, upto, image, closed}
use Rattle.model.proofs.Booleans.{Seen, seen, no_yes, bool_ext, both_yes, yes_left, yes_right, or_left, or_right, or_cases}
use Rattle.model.proofs.Booleans.Seen.{yes!, no! }
use Rattle.model.proofs.Exists.{any_intro, any_elim, none_of}
use Rattle.model.proofs.Bytes.{memb_tab}
use Rattle.model.proofs.Closure.{closed_refl, closed_step, closed_trans, closed_least}
use Rattle.sets.specs.NodeSets.{always, combine, combination}
use Rattle.sets.proofs.Images.{memb_upto, upto_cong, combine_upto, trim_upto}

-- how many of n nodes are not in a set
unfoldable pub missing : ℕ → List ℕ → ℕ
missing zero a = 0
missing (suc k) a = bit (not (memb a k)) + missing k a

bits : (a b : Bool) → (a ≡ true → b ≡ true) → bit (not b) ≤ bit (not a)
bits true true h = omega arith
bits true false h = no_yes refl (h refl)
bits false true h = omega arith
bits false false h = omega arith

missing_least : (n : ℕ) (a b : List ℕ) → ((x : ℕ) → x < n → memb a x ≡ true → memb b x ≡ true) → missing n b ≤ missing n a
unfolding missing
missing_least zero a b h = omega arith
missing_least (suc k) a b h = omega (arith, bits (memb a k) (memb b k) (h k (omega arith)), missing_least k a b (λ x l. h x (omega arith)))

missing_less : (n : ℕ) (a b : List ℕ) → ((x : ℕ) → x < n → memb a x ≡ true → memb b x ≡ true) → (y : ℕ) → y < n → memb a y ≡ false → memb b y ≡ true → missing n b < missing n a
unfolding missing
missing_less zero a b h y l p q = absurd (not-suc-le-zero l)
missing_less (suc k) a b h y l p q =
    ⊎_elim
    (λ e. let u : bit (not (memb a k)) ≡ 1 = ap (λ (i : ℕ). bit (not (memb a i))) (sym e) ∙ ap (λ (c : Bool). bit (not c)) p in
    let v : bit (not (memb b k)) ≡ 0 = ap (λ (i : ℕ). bit (not (memb b i))) (sym e) ∙ ap (λ (c : Bool). bit (not c)) q in
    omega (arith, missing_least k a b (λ x l. h x (omega arith))))
    (λ m. omega (arith, bits (memb a k) (memb b k) (h k (omega arith)), missing_less k a b (λ x l. h x (omega arith)) y m p q))
    (eq-or-lt_of_le (le_of_suc-le-suc l))

-- a set of nodes on the way from the set s to what it reaches by the closure of R, of which those in b have not been followed yet
pub record Growing (n : ℕ) (R : ℕ → ℕ → Bool) (s a b : List ℕ) : Type 0 where
  pub nodes : a ≡ tab 256 (upto n (memb a))
  pub holds : (x : ℕ) → x < n → memb s x ≡ true → memb a x ≡ true
  pub only : (y : ℕ) → y < n → memb a y ≡ true → any n (λ x. memb s x && closed n R x y) ≡ true
  pub recent : (x : ℕ) → x < n → memb b x ≡ true → memb a x ≡ true
  pub followed : (x y : ℕ) → x < n → y < n → memb a x ≡ true → memb b x ≡ false → R x y ≡ true → memb a y ≡ true

module _ (n : ℕ) (le : n ≤ 256) (R : ℕ → ℕ → Bool) (s : List ℕ) where
  -- from the nodes of a set
  pub start_within : (all from : List ℕ) → s ≡ tab 256 (combination 1 all from) → all ≡ tab 256 (upto n (always true)) → Growing n R s s s
  start_within all from p q =
      let H : ℕ → Bool = λ k. true && memb from k in
      let e : s ≡ tab 256 (upto n H) = p ∙ ap (λ (u : List ℕ). tab 256 (combination 1 u from)) q ∙ trim_upto n le (always true) from in
      record {
        nodes = e ∙ upto_cong n le H (memb s) (λ x l. sym (ap (λ (u : List ℕ). memb u x) e ∙ memb_upto n le H x l));
        holds = λ x l m. m;
        only = λ y l m. any_intro n (λ x. memb s x && closed n R x y) y l (both_yes m (closed_refl R n y));
        recent = λ x l m. m;
        followed = λ x y lx ly m k r. no_yes k m;
      }

  -- one round: m is what the nodes in b lead to, f what is new of it, o what is known then
  module _ (a b m f : List ℕ) (w : Growing n R s a b) (pm : m ≡ tab 256 (image n R (memb b))) (pf : f ≡ tab 256 (combination 2 m a)) where
    led : (y : ℕ) → y < n → memb m y ≡ any n (λ x. memb b x && R x y)
    unfolding image
    led y l = ap (λ (u : List ℕ). memb u y) pm ∙ memb_upto n le (λ y. any n (λ x. memb b x && R x y)) y l

    new : (y : ℕ) → y < n → memb f y ≡ (memb m y && not (memb a y))
    unfolding combination combine
    new y l = ap (λ (u : List ℕ). memb u y) pf ∙ memb_tab 256 (combination 2 m a) y (omega arith)

    -- what a node in b leads to is known or new
    leads : (x y : ℕ) → x < n → y < n → memb b x ≡ true → R x y ≡ true → memb a y ≡ false → memb f y ≡ true
    leads x y lx ly h r k = new y ly ∙ both_yes (led y ly ∙ any_intro n (λ x. memb b x && R x y) x lx (both_yes h r)) (rw k refl)

    is_new : (y : ℕ) → y < n → memb f y ≡ true → (memb a y ≡ false) × ((x : ℕ) × (x < n) × (memb b x ≡ true) × (R x y ≡ true))
    is_new y l h =
        let c : (memb m y && not (memb a y)) ≡ true = sym (new y l) ∙ h in
        let (x, lx, r) = any_elim n (λ x. memb b x && R x y) (sym (led y l) ∙ yes_left (memb m y) (not (memb a y)) c) in
        (not-true (memb a y) (yes_right (memb m y) (not (memb a y)) c), (x, lx, yes_left (memb b x) (R x y) r, yes_right (memb b x) (R x y) r))

    module _ (o : List ℕ) (po : o ≡ tab 256 (combination 0 a f)) where
      either : (y : ℕ) → y < n → memb o y ≡ (memb a y || memb f y)
      unfolding combination combine
      either y l = ap (λ (u : List ℕ). memb u y) po ∙ memb_tab 256 (combination 0 a f) y (omega arith)

      old : (y : ℕ) → y < n → memb a y ≡ true → memb o y ≡ true
      old y l h = either y l ∙ or_left (memb a y) (memb f y) h

      fresh : (y : ℕ) → y < n → memb f y ≡ true → memb o y ≡ true
      fresh y l h = either y l ∙ or_right (memb a y) (memb f y) h

      -- f holds nodes alone, since m does
      new_nodes : f ≡ tab 256 (upto n (λ y. any n (λ x. memb b x && R x y) && not (memb a y)))
      unfolding image combine
      new_nodes = pf ∙ ap₂ (λ (u v : List ℕ). tab 256 (combination 2 u v)) pm w.nodes ∙ combine_upto n le 2 (λ y. any n (λ x. memb b x && R x y)) (memb a)

      -- it is on its way still, with what is new to be followed
      pub more : Growing n R s o f
      unfolding combine
      more = record {
        nodes =
            let G : ℕ → Bool = λ y. any n (λ x. memb b x && R x y) && not (memb a y) in
            let e : o ≡ tab 256 (upto n (λ y. memb a y || G y)) = po ∙ ap₂ (λ (u v : List ℕ). tab 256 (combination 0 u v)) w.nodes new_nodes ∙ combine_upto n le 0 (memb a) G in
            e ∙ upto_cong n le (λ y. memb a y || G y) (memb o) (λ x l. sym (ap (λ (u : List ℕ). memb u x) e ∙ memb_upto n le (λ y. memb a y || G y) x l));
        holds = λ x l h. old x l (w.holds x l h);
        only = λ y l h. ⊎_elim (λ g. w.only y l g) (reaches y l) (or_cases (memb a y) (memb f y) (sym (either y l) ∙ h));
        recent = fresh;
        followed = λ x y lx ly h k r. onward x y lx ly (⊎_elim (λ g. g) (λ g. no_yes k g) (or_cases (memb a x) (memb f x) (sym (either x lx) ∙ h))) r (seen (memb b x)) (seen (memb a y));
      }
        where
          reaches : (y : ℕ) → y < n → memb f y ≡ true → any n (λ x. memb s x && closed n R x y) ≡ true
          reaches y l g =
              let (k, (x, lx, hx, r)) = is_new y l g in
              let (z, lz, c) = any_elim n (λ z. memb s z && closed n R z x) (w.only x lx (w.recent x lx hx)) in
              any_intro n (λ z. memb s z && closed n R z y) z lz (both_yes (yes_left (memb s z) (closed n R z x) c) (closed_trans R n z x y lx (yes_right (memb s z) (closed n R z x) c) (closed_step R n x y r)))

          onward : (x y : ℕ) → x < n → y < n → memb a x ≡ true → R x y ≡ true → Seen (memb b x) → Seen (memb a y) → memb o y ≡ true
          onward x y lx ly h r q (yes! k) = old y ly k
          onward x y lx ly h r (yes! u) (no! k) = fresh y ly (leads x y lx ly u r k)
          onward x y lx ly h r (no! u) (no! k) = old y ly (w.followed x y lx ly h u r)

      -- something is new: fewer nodes are missing
      pub fewer : (c : Bool) → c ≡ any n (memb f) → c ≡ true → missing n o < missing n a
      fewer c e h =
          let (y, l, k) = any_elim n (memb f) (sym e ∙ h) in
          missing_less n a o old y l (is_new y l k).0 (fresh y l k)

    -- nothing is new: the set is what s reaches by the closure
    pub done : (c : Bool) → c ≡ any n (memb f) → c ≡ false → a ≡ tab 256 (image n (closed n R) (memb s))
    unfolding image
    done c e h =
        w.nodes ∙ upto_cong n le (memb a) (λ y. any n (λ x. memb s x && closed n R x y))
        (λ y l. bool_ext (memb a y) (any n (λ x. memb s x && closed n R x y)) (λ g. w.only y l g)
        (λ g. let (x, lx, q) = any_elim n (λ x. memb s x && closed n R x y) g in
        closed_least R (λ x y. x < n → memb a x ≡ true → y < n → memb a y ≡ true) (λ x l h k. h) (λ x y r lx hx ly. stays x y lx ly hx r (seen (memb b x)) (seen (memb a y))) n (λ x z y lz u v lx h ly. v lz (u lx h lz) ly) x y
        (yes_right (memb s x) (closed n R x y) q) lx (w.holds x lx (yes_left (memb s x) (closed n R x y) q)) l))
      where
        stays : (x y : ℕ) → x < n → y < n → memb a x ≡ true → R x y ≡ true → Seen (memb b x) → Seen (memb a y) → memb a y ≡ true
        stays x y lx ly hx r q (yes! k) = k
        stays x y lx ly hx r (yes! u) (no! k) = no_yes (none_of n (memb f) y (sym e ∙ h) ly) (leads x y lx ly u r k)
        stays x y lx ly hx r (no! u) (no! k) = w.followed x y lx ly hx u r
