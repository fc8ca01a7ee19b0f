-- For the reader: the tag of a name is the lowest tag up to 65533 whose name has its bytes, and there is none exactly if no name with
-- such a tag has them.
use Prim.Native.Nat.{ℕ, zero, suc, ◌+◌, ◌≤◌, ◌<◌}
use native.Mathlib.Nat.{not-suc-le-zero, le_of_suc-le-suc}
use native.Mathlib.Omega.{arith}
use mathlib.Core.Path.{◌≡◌, refl}
use mathlib.Core.Bool.{true, false}
use mathlib.Core.List.{List, [], ◌∷◌, map}
use lib.ListN.{length, take, get_or}
use Rattle.model.proofs.Booleans.{Seen, yes!, no!, seen, no_yes}
use Rattle.names.specs.declared.Part.{Part}
use Rattle.std.specs.Prelude.{Some, None}
use Rattle.names.specs.Names.{nothing, by_tag}
use Rattle.model.specs.Lists.{equal}
use Rattle.model.proofs.Lists.{equal_is, equal_own}
use Rattle.names.specs.Tags.{spelling, first_from, tag_of}

-- names as parts p, with the bytes f p
module _ (f : Part → List ℕ) (name : List ℕ) where
  -- there is a name number t, and it has the bytes sought
  abbrev pub Spelt : List Part → ℕ → Type 0
  Spelt ps t = (t < length ps) × (f (get_or ps t nothing) ≡ name)

  -- name number d is one of the first n, has these bytes, and none before it has
  abbrev First : List Part → ℕ → ℕ → Type 0
  First ps n d = (d < n) × Spelt ps d × ((s : ℕ) → s < d → Spelt ps s → ⊥)

  known : (ps : List Part) (n k t : ℕ) → first_from k name (take n (map f ps)) ≡ Some t → (d : ℕ) × (t ≡ d + k) × First ps n d
  unfolding first_from
  known ps zero k t h = no_yes (let z : true ≡ false = cc in z) refl
  known [] (suc n) k t h = no_yes (let z : true ≡ false = cc in z) refl
  known (p ∷ ps) (suc n) k t h = go (seen (equal (f p) name)) (known ps n (suc k) t)
    where
      go : Seen (equal (f p) name) → (first_from (suc k) name (take n (map f ps)) ≡ Some t → (d : ℕ) × (t ≡ d + suc k) × First ps n d)
          → (d : ℕ) × (t ≡ d + k) × First (p ∷ ps) (suc n) d
      go (yes! y) ih =
          let q : Some k ≡ Some t = rw y at h in
          let z : t ≡ k = cc in
          (0, omega arith, (omega arith, (omega arith, equal_is (f p) name y), λ s l. absurd (not-suc-le-zero l)))
      go (no! y) ih = let (d, e, (l, w, b)) = ih (rw y at h) in (suc d, omega arith, (omega arith, (omega arith, w.1), below d b))
        where
          below : (d : ℕ) → ((s : ℕ) → s < d → Spelt ps s → ⊥) → (s : ℕ) → s < suc d → Spelt (p ∷ ps) s → ⊥
          below d b zero l w = no_yes y (rw w.1 (equal_own name))
          below d b (suc s) l w = b s (le_of_suc-le-suc l) (le_of_suc-le-suc w.0, w.1)

  unknown : (ps : List Part) (n k : ℕ) → first_from k name (take n (map f ps)) ≡ None → (s : ℕ) → s < n → Spelt ps s → ⊥
  unfolding first_from
  unknown ps zero k h s l w = not-suc-le-zero l
  unknown [] (suc n) k h s l w = not-suc-le-zero w.0
  unknown (p ∷ ps) (suc n) k h s l w = go (seen (equal (f p) name)) s l w (unknown ps n (suc k))
    where
      go : Seen (equal (f p) name) → (s : ℕ) → s < suc n → Spelt (p ∷ ps) s
          → (first_from (suc k) name (take n (map f ps)) ≡ None → (s : ℕ) → s < n → Spelt ps s → ⊥) → ⊥
      go (yes! y) s l w ih = let q : Some k ≡ None = rw y at h in no_yes (let z : true ≡ false = cc in z) refl
      go (no! y) zero l w ih = no_yes y (rw w.1 (equal_own name))
      go (no! y) (suc s) l w ih = ih (rw y at h) s (le_of_suc-le-suc l) (le_of_suc-le-suc w.0, w.1)

module _ (house site name : List ℕ) where
  -- the name with this tag has these bytes
  abbrev pub Has : ℕ → Type 0
  Has t = Spelt (spelling house site) name (by_tag house site) t

  -- the tag found is at most 65533, its name has the bytes sought, and that of no lower tag has
  pub tag_names : (t : ℕ) → tag_of house site name ≡ Some t → (t ≤ 65533) × Has t × ((s : ℕ) → s < t → Has s → ⊥)
  unfolding tag_of
  tag_names t h =
      let (d, e, (l, w, b)) = known (spelling house site) name (by_tag house site) 65534 0 t h in
      let z : d ≡ t = omega arith in
      (omega arith, rw z at w, rw z at b)

  -- where none is found, no tag up to 65533 has a name with these bytes
  pub tag_unknown : tag_of house site name ≡ None → (s : ℕ) → s ≤ 65533 → Has s → ⊥
  unfolding tag_of
  tag_unknown h s l = unknown (spelling house site) name (by_tag house site) 65534 0 h s (omega arith)
