-- Laws of the search for a name: the bytes of two names compared, a table searched for one, and one table after the other.
use Prim.Native.Nat.{ℕ, zero, suc, min, ◌+◌, ◌-◌, ◌≤◌, ◌<◌}
use native.Mathlib.Numerals.{add-one}
use native.Mathlib.Omega.{arith}
use mathlib.Core.Path.{◌≡◌, refl, sym, ap, ap₂, ◌∙◌}
use mathlib.Core.Bool.{Bool, true, false, ◌&&◌, cond}
use mathlib.Core.List.{List, [], ◌∷◌, ◌++◌, map, map-append, append-nil}
use lib.ListN.{length, take, drop, get_or, length-drop}
use lib.Seq.{take_all}
use lib.Dec.{ltb, eqb}
use lib.Pointwise.{pointwise}
use borrow.Author.Tests.{lt-ltb, le-ltb, ltb-true, ltb-false}
use Rattle.model.proofs.Booleans.{Seen, yes!, no!, seen, no_yes}
use Rattle.names.specs.declared.Table.{Table}
use Rattle.names.specs.declared.Table.TheVariants.{House, Site}
use Rattle.names.specs.declared.Part.{Part}
use Rattle.std.specs.Prelude.{Result, Ok, Err}
use Rattle.std.specs.Prelude.{Some, None}
use Rattle.names.specs.Names.{names_from, names, part, by_tag, bytes}
use Rattle.model.specs.Lists.{equal}
use Rattle.names.specs.Tags.{spelling, spellings, first_from, hit_from, tag_of}
use Rattle.names.proofs.Reading.{name_there, no_names}

-- two lists of bytes

-- the equality of slices, which compares them byte for byte
pointwise_is : (a b : List ℕ) → pointwise eqb a b ≡ equal a b
unfolding equal
pointwise_is [] [] = refl
pointwise_is [] (y ∷ b) = refl
pointwise_is (x ∷ a) [] = refl
pointwise_is (x ∷ a) (y ∷ b) = ap (λ (r : Bool). eqb x y && r) (pointwise_is a b)

-- a name that runs past the table's end has the bytes up to it
pub name_compared : (t name : List ℕ) (start len least : ℕ) (r : Bool) → start ≤ length t
    → least ≡ min len (length (take (length t - start) (drop start t)))
    → r ≡ pointwise eqb (take least (take (length t - start) (drop start t))) name → r ≡ equal (take len (drop start t)) name
name_compared t name start len least r h m e =
    let l : length (drop start t) ≡ length t - start = length-drop start t in
    let w : take (length t - start) (drop start t) ≡ drop start t = take_all (length t - start) (drop start t) (omega arith) in
    let n : least ≡ min len (length (drop start t)) = rw w at m in
    let f : r ≡ pointwise eqb (take least (drop start t)) name = rw w at e in
    f ∙ pointwise_is (take least (drop start t)) name ∙ ap (λ (x : List ℕ). equal x name) (rw n (least_taken len (drop start t)))
  where
    least_taken : (n : ℕ) (x : List ℕ) → take (min n (length x)) x ≡ take n x
    least_taken n x = go (seen (ltb n (length x)))
      where
        go : Seen (ltb n (length x)) → take (min n (length x)) x ≡ take n x
        go (yes! q) = let z : min n (length x) ≡ n = omega (arith, ltb-true n (length x) q) in rw z
        go (no! q) =
            let z : min n (length x) ≡ length x = omega (arith, ltb-false n (length x) q) in
            rw z (take_all (length x) x (omega arith) ∙ sym (take_all n x (omega (arith, ltb-false n (length x) q))))

-- the loop that searches a table: what is before `at` is passed
module _ (t name : List ℕ) (from at number : ℕ) where
  -- the search goes on as from the table's start
  abbrev pub Goes : Type 0
  Goes = hit_from number name (map (bytes t) (names_from House 0 at t)) ≡ hit_from from name (spellings t)

  next : at < length t → hit_from number name (map (bytes t) (names_from House 0 at t))
      ≡ cond (ltb 65533 number) (Err number)
      (cond (equal (take (get_or t at 0) (drop (at + 1) t)) name) (Ok number)
      (hit_from (number + 1) name (map (bytes t) (names_from House 0 (at + 1 + get_or t at 0) t))))
  unfolding hit_from
  next l = rw (name_there House t 0 at l, first at, sym (add-one number))
    where
      first : (x : ℕ) → 0 + x + 1 ≡ x + 1
      first x = omega arith

  pub tags_end : Goes → at < length t → 65533 < number → Err number ≡ hit_from from name (spellings t)
  tags_end g l h = sym (next l ∙ rw (lt-ltb 65533 number h)) ∙ g

  module _ (len : ℕ) (b : Bool) where
    pub is_hit : Goes → at < length t → number ≤ 65533 → len ≡ get_or t at 0 → b ≡ equal (take len (drop (at + 1) t)) name → b ≡ true
        → Ok number ≡ hit_from from name (spellings t)
    is_hit g l h e q y = sym (next l ∙ rw (le-ltb 65533 number h, sym e, sym q, y)) ∙ g

    pub is_miss : Goes → at < length t → number ≤ 65533 → len ≡ get_or t at 0 → b ≡ equal (take len (drop (at + 1) t)) name → b ≡ false
        → hit_from (number + 1) name (map (bytes t) (names_from House 0 (at + 1 + len) t)) ≡ hit_from from name (spellings t)
    is_miss g l h e q y = sym (next l ∙ rw (le-ltb 65533 number h, sym e, sym q, y)) ∙ g

  pub table_ends : Goes → length t ≤ at → Err number ≡ hit_from from name (spellings t)
  unfolding hit_from
  table_ends g l = sym (rw (no_names House t 0 at l)) ∙ g

-- the names of both tables

-- a name's bytes, whichever way the table is named
same_names : (f g : Part → List ℕ) (v w : Table) → ((s l : ℕ) → f (part v s l) ≡ g (part w s l)) → (t : List ℕ) (at rest : ℕ)
    → map f (names_from v at rest t) ≡ map g (names_from w at rest t)
unfolding names_from
same_names f g v w h [] at rest = refl
same_names f g v w h (b ∷ bs) at zero = ap₂ ◌∷◌ (h (suc at) b) (same_names f g v w h bs (suc at) b)
same_names f g v w h (b ∷ bs) at (suc rest) = same_names f g v w h bs (suc at) rest

both : (house site : List ℕ) → map (spelling house site) (by_tag house site) ≡ spellings house ++ spellings site
both house site =
    map-append (spelling house site) (names House house) (names Site site)
    ∙ ap₂ ◌++◌ (same_names (spelling house site) (bytes house) House House (λ s l. refl) house 0 0)
    (same_names (spelling house site) (bytes site) Site House (λ s l. refl) site 0 0)

-- one table searched after the other: n names may still be looked at
module _ (name : List ℕ) (vs : List (List ℕ)) (j : ℕ) where
  hit_first : (ws : List (List ℕ)) (n k : ℕ) → n + k ≡ 65534 → hit_from k name ws ≡ Ok j → (j < 65534) × (Some j ≡ first_from k name (take n (ws ++ vs)))
  unfolding hit_from first_from
  hit_first [] n k e h = no_yes (let z : true ≡ false = cc in z) refl
  hit_first (w ∷ ws) zero k e h = let p : ltb 65533 k ≡ true = lt-ltb 65533 k (omega arith) in let q : Err k ≡ Ok j = rw p at h in no_yes (let z : true ≡ false = cc in z) refl
  hit_first (w ∷ ws) (suc n) k e h = go (seen (equal w name)) (hit_first ws n (suc k) (omega arith))
    where
      p : ltb 65533 k ≡ false
      p = le-ltb 65533 k (omega arith)

      go : Seen (equal w name) → (hit_from (suc k) name ws ≡ Ok j → (j < 65534) × (Some j ≡ first_from (suc k) name (take n (ws ++ vs))))
          → (j < 65534) × (Some j ≡ first_from k name (take (suc n) (w ∷ (ws ++ vs))))
      go (yes! y) ih = let q : Ok k ≡ Ok j = rw (p, y) at h in let z : k ≡ j = cc in (omega arith, rw (y, z))
      go (no! y) ih = let (a, b) = ih (rw (p, y) at h) in (a, rw y b)

  hit_none : (ws : List (List ℕ)) (n k : ℕ) → n + k ≡ 65534 → hit_from k name ws ≡ Err j
      → (m : ℕ) × (m + j ≡ 65534) × (first_from j name (take m vs) ≡ first_from k name (take n (ws ++ vs)))
  unfolding hit_from first_from
  hit_none [] n k e h = let z : k ≡ j = cc in (n, rw (← z) e, rw z)
  hit_none (w ∷ ws) zero k e h =
      let p : ltb 65533 k ≡ true = lt-ltb 65533 k (omega arith) in
      let q : Err k ≡ Err j = rw p at h in
      let z : k ≡ j = cc in (0, rw (← z) e, refl)
  hit_none (w ∷ ws) (suc n) k e h = go (seen (equal w name)) (hit_none ws n (suc k) (omega arith))
    where
      p : ltb 65533 k ≡ false
      p = le-ltb 65533 k (omega arith)

      go : Seen (equal w name)
          → (hit_from (suc k) name ws ≡ Err j → (m : ℕ) × (m + j ≡ 65534) × (first_from j name (take m vs) ≡ first_from (suc k) name (take n (ws ++ vs))))
          → (m : ℕ) × (m + j ≡ 65534) × (first_from j name (take m vs) ≡ first_from k name (take (suc n) (w ∷ (ws ++ vs))))
      go (yes! y) ih = let q : Ok k ≡ Err j = rw (p, y) at h in no_yes (let z : true ≡ false = cc in z) refl
      go (no! y) ih =
          let (m, a, b) = ih (rw (p, y) at h) in
          let c : first_from k name (take (suc n) (w ∷ (ws ++ vs))) ≡ first_from (suc k) name (take n (ws ++ vs)) = rw y in
          (m, a, b ∙ sym c)

-- a number found is a tag
pub house_low : (name : List ℕ) (ws : List (List ℕ)) (f : Result ℕ ℕ) (k : ℕ) → f ≡ hit_from 0 name ws → f ≡ Ok k → k < 65536
house_low name ws f k e h = omega (arith, (hit_first name [] k ws 65534 0 refl (sym e ∙ h)).0)

-- the tag of a name, from the two searches
module _ (house site name : List ℕ) (f : Result ℕ ℕ) where
  whole : first_from 0 name (take 65534 (spellings house ++ spellings site)) ≡ tag_of house site name
  unfolding tag_of
  whole = rw (both house site)

  module _ (k : ℕ) where
    pub house_tag : f ≡ hit_from 0 name (spellings house) → f ≡ Ok k → Some k ≡ tag_of house site name
    house_tag e h = (hit_first name (spellings site) k (spellings house) 65534 0 refl (sym e ∙ h)).1 ∙ whole

    pub site_low : (j : ℕ) (g : Result ℕ ℕ) → f ≡ hit_from 0 name (spellings house) → f ≡ Err k → g ≡ hit_from k name (spellings site) → g ≡ Ok j → j < 65536
    site_low j g e h d p =
        let (m, a, b) = hit_none name (spellings site) k (spellings house) 65534 0 refl (sym e ∙ h) in
        omega (arith, (hit_first name [] j (spellings site) m k a (sym d ∙ p)).0)

    pub site_tag : (j : ℕ) (g : Result ℕ ℕ) → f ≡ hit_from 0 name (spellings house) → f ≡ Err k → g ≡ hit_from k name (spellings site) → g ≡ Ok j
        → Some j ≡ tag_of house site name
    site_tag j g e h d p =
        let (m, a, b) = hit_none name (spellings site) k (spellings house) 65534 0 refl (sym e ∙ h) in
        (hit_first name [] j (spellings site) m k a (sym d ∙ p)).1 ∙ ap (λ ws. first_from k name (take m ws)) (append-nil (spellings site)) ∙ b ∙ whole

    pub no_tag : (j : ℕ) (g : Result ℕ ℕ) → f ≡ hit_from 0 name (spellings house) → f ≡ Err k → g ≡ hit_from k name (spellings site) → g ≡ Err j
        → None ≡ tag_of house site name
    unfolding first_from
    no_tag j g e h d p =
        let (m, a, b) = hit_none name (spellings site) k (spellings house) 65534 0 refl (sym e ∙ h) in
        let (n, a', b') = hit_none name [] j (spellings site) m k a (sym d ∙ p) in
        sym (none n) ∙ b' ∙ ap (λ ws. first_from k name (take m ws)) (append-nil (spellings site)) ∙ b ∙ whole
      where
        none : (n : ℕ) → first_from j name (take n []) ≡ None
        none zero = refl
        none (suc n) = refl
