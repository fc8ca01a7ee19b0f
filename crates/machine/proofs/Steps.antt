-- Laws for the functions of the machine: the stack, closing, and turns by the focus.
use Prim.Native.Nat.{ℕ, zero, suc, ◌+◌, ◌-◌, ◌≤◌, ◌<◌}
use native.Mathlib.Omega.{arith}
use native.Mathlib.Nat.{not-suc-le-zero}
use mathlib.Core.Path.{◌≡◌, refl, sym, ap, ◌∙◌}
use mathlib.Core.Bool.{Bool, true, false, not, ◌&&◌, cond}
use mathlib.Core.List.{List, [], ◌∷◌}
use lib.ListN.{length, drop, get_or}
use lib.Seq.{get_or-drop}
use lib.Dec.{ltb, eqb}
use Rattle.grammar.specs.Grammar.{elem, name_bytes}
use Rattle.std.specs.Prelude.{Result, Ok}
use Rattle.words.specs.Words.{common, slot, greater, scan_from}
use Rattle.machine.specs.Machine.{Turn, binds, pops, sort, top, stack_of, want_turn, have_flags, have_may, have_turn, letter_turn, axis_turn, turn_of, may_end}

-- what stands at a place of a text
abbrev Scan : Type 0
Scan = Result ℕ ℕ

-- the stack

pub stack_drop : (a : List ℕ) (d j : ℕ) → drop j (stack_of a d) ≡ stack_of a (d - j)
unfolding stack_of
stack_drop a d zero = let e : d - 0 ≡ d = omega arith in rw e
stack_drop a zero (suc j) = let e : 0 - suc j ≡ 0 = omega arith in rw e
stack_drop a (suc d) (suc j) = stack_drop a d j ∙ (let e : suc d - suc j ≡ d - j = omega arith in rw e)

pub stack_some : (a : List ℕ) (d : ℕ) → 0 < d → stack_of a d ≡ get_or a (d - 1) 0 ∷ stack_of a (d - 1)
unfolding stack_of
stack_some a zero h = absurd (not-suc-le-zero h)
stack_some a (suc d) h = let e : suc d - 1 ≡ d = omega arith in rw e

pub top_some : (a : List ℕ) (d j : ℕ) → j < d → get_or a (d - j - 1) 0 ≡ top (drop j (stack_of a d))
top_some a d j h =
    sym (ap top (stack_drop a d j ∙ stack_some a (d - j) (omega arith)))

pub top_none : (a : List ℕ) (d j : ℕ) → d ≤ j → j ≤ d → 14 ≡ top (drop j (stack_of a d))
unfolding stack_of
top_none a d j h l =
    let e : d - j ≡ 0 = omega arith in
    let z : stack_of a (d - j) ≡ [] = rw e in
    sym (ap top (stack_drop a d j ∙ z))

pub stack_length : (a : List ℕ) (d : ℕ) → length (stack_of a d) ≡ d
unfolding stack_of
stack_length a zero = refl
stack_length a (suc d) = ap suc (stack_length a d)

-- closing gap after gap

module _ (a : List ℕ) (d n : ℕ) (path : Bool) where
  -- i of the d gaps have closed, and p says whether a path stands in the innermost that is left
  pub record Closed (i : ℕ) (p : Bool) : Type 0 where
    pub most : i ≤ d
    pub count : pops n (stack_of a d) ≡ i + pops n (stack_of a (d - i))
    pub sorted : sort n (stack_of a d) path ≡ sort n (stack_of a (d - i)) p

  pub closed_start : Closed 0 path
  closed_start = let e : d - 0 ≡ d = omega arith in record { most = omega arith; count = rw e (omega arith); sorted = rw e }

  pub next_gap : (i k : ℕ) → i < d → k ≡ get_or a (d - 1 - i) 0 → stack_of a (d - i) ≡ k ∷ stack_of a (d - (i + 1))
  next_gap i k h e =
      let x : d - i - 1 ≡ d - 1 - i = omega arith in
      let y : d - i - 1 ≡ d - (i + 1) = omega arith in
      stack_some a (d - i) (omega arith)
      ∙ ap (λ (j : ℕ). get_or a j 0 ∷ stack_of a (d - i - 1)) x
      ∙ ap (λ (g : ℕ). g ∷ stack_of a (d - i - 1)) (sym e)
      ∙ ap (λ (j : ℕ). k ∷ stack_of a j) y

  pub closed_on : (i k : ℕ) (p : Bool) → Closed i p → i < d → k ≡ get_or a (d - 1 - i) 0 → binds n k ≡ true → Closed (i + 1) (not (ltb k 3))
  unfolding pops sort
  closed_on i k p w h e b =
      let s = next_gap i k h e in
      let c : pops n (stack_of a (d - i)) ≡ suc (pops n (stack_of a (d - (i + 1)))) = ap (pops n) s ∙ rw b in
      let q : sort n (stack_of a (d - i)) p ≡ sort n (stack_of a (d - (i + 1))) (not (ltb k 3)) = ap (λ (l : List ℕ). sort n l p) s ∙ rw b in
      let t = w.count in
      record { most = omega arith; count = omega arith; sorted = w.sorted ∙ q }

  -- what a closing that stops here comes to
  abbrev pub Closes : ℕ → Bool → Type 0
  Closes r p = (r ≡ pops n (stack_of a d)) × (p ≡ sort n (stack_of a d) path) × (r ≤ d)

  pub closed_stop : (i k : ℕ) (p : Bool) → Closed i p → i < d → k ≡ get_or a (d - 1 - i) 0 → binds n k ≡ false → Closes i p
  unfolding pops sort
  closed_stop i k p w h e b =
      let s = next_gap i k h e in
      let c : pops n (stack_of a (d - i)) ≡ 0 = ap (pops n) s ∙ rw b in
      let q : sort n (stack_of a (d - i)) p ≡ p = ap (λ (l : List ℕ). sort n l p) s ∙ rw b in
      let t = w.count in
      (omega arith, sym (w.sorted ∙ q), w.most)

  pub closed_end : (i : ℕ) (p : Bool) → Closed i p → d ≤ i → Closes d p
  unfolding pops sort stack_of
  closed_end i p w h =
      let z : d - i ≡ 0 = omega arith in
      let c : pops n (stack_of a (d - i)) ≡ 0 = rw z in
      let q : sort n (stack_of a (d - i)) p ≡ p = rw z in
      let t = w.count in let m = w.most in
      (omega arith, sym (w.sorted ∙ q), omega arith)

pub end_test : (f p d : ℕ) (a : List ℕ) → p ≡ pops 0 (stack_of a d) → (ltb 1 f && eqb p d) ≡ may_end f (stack_of a d)
end_test f p d a e = rw (stack_length a d, e)

-- turns

scan_below : (n : ℕ) (words : List ℕ) (may : List Bool) (t : List ℕ) (lo best k : ℕ) → scan_from words may t lo n best ≡ Ok k → k < lo + n
unfolding scan_from
scan_below zero words may t lo best k h = let z : ◌≡◌ {A = ℕ} 0 1 = cc in absurd (omega arith)
scan_below (suc n) words may t lo best k h =
    go (get_or may lo false && eqb (common (slot words lo) t) (length (slot words lo))) h (λ p. scan_below n words may t (suc lo) _ k p)
  where
    go : (b : Bool) → cond b (Ok lo) (scan_from words may t (suc lo) n (cond (get_or may lo false) (greater best (common (slot words lo) t)) best)) ≡ Ok k
        → (scan_from words may t (suc lo) n (cond (get_or may lo false) (greater best (common (slot words lo) t)) best) ≡ Ok k → k < suc lo + n) → k < lo + suc n
    go true p ih = let e : lo ≡ k = cc in omega arith
    go false p ih = let w = ih p in omega arith

pub word_below : (words : List ℕ) (may : List Bool) (t : List ℕ) (lo hi k : ℕ) (r : Scan) → r ≡ Ok k → r ≡ scan_from words may t lo (hi - lo) 0 → lo ≤ hi → hi ≤ 36 → k < 36
word_below words may t lo hi k r e s l h = let w = scan_below (hi - lo) words may t lo 0 k (sym s ∙ e) in omega arith

pub follow : (f o i b p : ℕ) (ks : List ℕ) (r : List Bool) → r ≡ have_flags f o i b p → o ≡ top ks → i ≡ top (drop (pops 0 ks) ks) → b ≡ top (drop (pops 1 ks) ks) → p ≡ top (drop (pops 3 ks) ks)
    → r ≡ have_may f ks
unfolding have_may
follow f o i b p ks r e x y z u =
    e ∙ ap (λ (n : ℕ). have_flags f n i b p) x ∙ ap (λ (n : ℕ). have_flags f (top ks) n b p) y ∙ ap (λ (n : ℕ). have_flags f (top ks) (top (drop (pops 0 ks) ks)) n p) z
    ∙ ap (have_flags f (top ks) (top (drop (pops 0 ks) ks)) (top (drop (pops 1 ks) ks))) u

-- one turn, by the focus

module _ (f : ℕ) (ks text : List ℕ) (at : ℕ) where
  front_byte : get_or (drop at text) 0 0 ≡ get_or text at 0
  front_byte = get_or-drop at text 0 0 ∙ (let e : at + 0 ≡ at = omega arith in ap (λ (i : ℕ). get_or text i 0) e)

  -- whether a name goes on
  goes_on : (n y : Bool) → n ≡ elem (get_or text at 0) name_bytes → (ltb 5 f && n) ≡ y → (ltb 5 f && elem (get_or (drop at text) 0 0) name_bytes) ≡ y
  goes_on n y q h = ap (λ (i : ℕ). ltb 5 f && elem i name_bytes) front_byte ∙ ap (λ (b : Bool). ltb 5 f && b) (sym q) ∙ h

  pub step_want : (r : Turn) → r ≡ want_turn ks (drop at text) → eqb f 0 ≡ true → r ≡ turn_of f ks (drop at text)
  unfolding turn_of
  step_want r e h = e ∙ rw h

  pub step_axis : (r : Turn) → r ≡ axis_turn (get_or text at 0) → eqb f 1 ≡ true → eqb f 0 ≡ false → r ≡ turn_of f ks (drop at text)
  unfolding turn_of
  step_axis r e h n = e ∙ rw (n, h, front_byte)

  pub step_name : (r : Turn) (n : Bool) → r ≡ letter_turn f (get_or text at 0) → n ≡ elem (get_or text at 0) name_bytes → (ltb 5 f && n) ≡ true → eqb f 1 ≡ false → eqb f 0 ≡ false
      → r ≡ turn_of f ks (drop at text)
  unfolding turn_of
  step_name r n e q h a w = e ∙ rw (w, a, goes_on n true q h, front_byte)

  pub step_have : (r : Turn) (n : Bool) → r ≡ have_turn f ks (drop at text) → n ≡ elem (get_or text at 0) name_bytes → (ltb 5 f && n) ≡ false → eqb f 1 ≡ false → eqb f 0 ≡ false
      → r ≡ turn_of f ks (drop at text)
  unfolding turn_of
  step_have r n e q h a w = e ∙ rw (w, a, goes_on n false q h)
