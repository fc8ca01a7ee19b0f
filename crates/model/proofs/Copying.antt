-- Laws for the loop that writes a table over the front of a buffer.
use Prim.Native.Nat.{ℕ, ◌+◌, ◌≤◌, ◌<◌}
use native.Mathlib.Omega.{arith}
use mathlib.Core.Path.{◌≡◌, refl, ◌∙◌}
use mathlib.Core.List.{List, ◌++◌}
use lib.ListN.{length, take, drop, get_or, set}
use lib.Seq.{length-take-le, take-suc}
use Rattle.model.proofs.Bytes.{front_more, front_done}

module _ (table old : List ℕ) where
  -- the first i numbers are written
  pub record Copied (i : ℕ) (new : List ℕ) : Type 0 where
    pub same : new ≡ take i table ++ drop i old
    pub size : length new ≡ length old

  pub copied_none : Copied 0 old
  copied_none = record { same = refl; size = refl }

  pub copied_one : (i : ℕ) (new : List ℕ) → Copied i new → i < length table → i < length old → Copied (i + 1) (set new i (get_or table i 0))
  copied_one i new w h l =
      record {
        same = front_more (λ k. take k table) old new i w.same (get_or table i 0) (take-suc table i 0 h) (length-take-le i table (omega arith)) l;
        size = lib.ListN.length-set new i (get_or table i 0) ∙ w.size;
      }

  pub copied_all : (i n : ℕ) (new : List ℕ) → Copied i new → i ≤ n → n ≤ i → new ≡ take n table ++ drop n old
  copied_all i n new w a b = front_done (λ k. take k table) old new i w.same n a b
