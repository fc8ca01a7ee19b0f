-- Laws of the check for stray bits: a word at a time, by a shift.
use Prim.Native.Nat.{ℕ, ◌+◌, ◌-◌, ◌*◌, ◌/◌, ◌%◌, ◌^◌, ◌≤◌, ◌<◌}
use native.Mathlib.Nat.{div-one}
use native.Mathlib.Omega.{arith}
use mathlib.Core.Path.{◌≡◌, refl, sym, ap, ◌∙◌}
use mathlib.Core.Bool.{Bool, false, not, ◌&&◌, ◌||◌, or_comm}
use mathlib.Core.List.{List}
use lib.ListN.{get_or}
use lib.Dec.{ltb, eqb}
use borrow.Author.Tests.{ltb-true, lt-ltb}
use Rattle.model.specs.Sets.{any}
use Rattle.model.proofs.Booleans.{bool_ext}
use Rattle.model.proofs.Exists.{any_cong, any_never}
use Rattle.bits.specs.Words.{test_bit}
use Rattle.bits.specs.BitTables.{bit_relation}
use Rattle.bits.proofs.Words.{any_from, any_append}
use Rattle.bits.proofs.Rows.{bit_at}
use Rattle.packing.specs.Services.{stray, stray_row}
use Rattle.packing.specs.Parts.{stray_bit}

-- a word of a row

module _ (n first w : ℕ) where
  -- all its bits are below n
  pub stray_none : first + 64 ≤ n → false ≡ any 64 (stray_bit n first w)
  stray_none h = sym (any_never 64 (stray_bit n first w) (λ k l. rw (lt-ltb (first + k) n (omega arith))))

  -- those from n - first on are not
  pub stray_some : w < 2 ^ 64 → not (eqb (w / 2 ^ (n - first)) 0) ≡ any 64 (stray_bit n first w)
  stray_some f =
      any_from w (n - first) f
      ∙ any_cong 64 (λ k. not (ltb k (n - first)) && test_bit w k) (stray_bit n first w) (λ k l. ap (λ (b : Bool). not b && test_bit w k) (same k))
    where
      same : (k : ℕ) → ltb k (n - first) ≡ ltb (first + k) n
      same k = bool_ext (ltb k (n - first)) (ltb (first + k) n) (λ p. lt-ltb (first + k) n (let h : k < n - first = ltb-true k (n - first) p in omega arith))
          (λ p. lt-ltb k (n - first) (let h : first + k < n = ltb-true (first + k) n p in omega arith))

  pub stray_all : w < 2 ^ 64 → n ≤ first → not (eqb w 0) ≡ any 64 (stray_bit n first w)
  stray_all f h =
      let e : w ≡ w / 2 ^ (n - first) = sym (ap (λ (k : ℕ). w / 2 ^ k) (let z : n - first ≡ 0 = omega arith in z) ∙ div-one w) in
      ap (λ (v : ℕ). not (eqb v 0)) e ∙ stray_some f

-- a row

module _ (n : ℕ) (w : List ℕ) (x : ℕ) where
  pub stray_start : false ≡ any (64 * 0) (stray n w x)
  unfolding any
  stray_start = refl

  pub stray_more : (b t : Bool) (i : ℕ) → b ≡ any (64 * i) (stray n w x) → t ≡ any 64 (stray_bit n (64 * i) (get_or w (4 * x + i) 0)) → (t || b) ≡ any (64 * (i + 1)) (stray n w x)
  stray_more b t i p q =
      rw (p, q, any_cong 64 (stray_bit n (64 * i) (get_or w (4 * x + i) 0)) (λ k. stray n w x (64 * i + k)) (λ k l. ap (λ (c : Bool). not (ltb (64 * i + k) n) && c) (sym (at k l))))
      (sym (any_append (64 * i) 64 (stray n w x) ∙ or_comm (any (64 * i) (stray n w x)) (any 64 (λ k. stray n w x (64 * i + k)))) ∙ ap (λ (m : ℕ). any m (stray n w x)) (let e : 64 * i + 64 ≡ 64 * (i + 1) = omega arith in e))
    where
      at : (k : ℕ) → k < 64 → bit_relation w x (64 * i + k) ≡ test_bit (get_or w (4 * x + i) 0) k
      at k l =
          let d : (64 * i + k) / 64 ≡ i = omega arith in
          let m : (64 * i + k) % 64 ≡ k = omega arith in
          bit_at w x (64 * i + k) ∙ rw (d, m)

  pub stray_done : (b : Bool) (i : ℕ) → b ≡ any (64 * i) (stray n w x) → i ≤ 4 → 4 ≤ i → b ≡ stray_row n w x
  unfolding stray_row
  stray_done b i p l h = p ∙ ap (λ (k : ℕ). any k (stray n w x)) (let e : 64 * i ≡ 256 = omega arith in e)
