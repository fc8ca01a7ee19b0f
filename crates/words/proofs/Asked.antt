-- The words that are asked for, as parameters: which may come, and from which to which.
use Prim.Native.Nat.{ℕ, ◌<◌, ◌^◌}
use mathlib.Core.Path.{refl}
use mathlib.Core.Bool.{Bool}
use mathlib.Core.List.{List, [], ◌∷◌, map}
use seplogic.Ra.Ura.{Ura}
use mir.Syntax.{w64}
use mir.Val.{Val, vint, vbool}
use base.Logic.{ent, emp}
use base.Fml.{Fml}
use types.Logic.{Logic, sem}
use types.Kit.{◌$◌, ◌∵◌, !, qed, fjoin, done}
use denote.Array.{Array, array_val, Array-Makes}
use denote.Builtin.{usize}
use denote.Laws.{Is}
use denote.Plain.{Boolean, bool_Makes, uint_Makes}
use denote.RattleType.{RattleType, owns}
use denote.Steps.{owned, nothing}

-- one flag a word
abbrev pub Flags : RattleType
Flags = Array Boolean 36

-- their machine value
abbrev pub flags : List Bool → Val
flags may = array_val (map (λ (b : Bool). vbool b) may)

module _ (may : List Bool) (lo hi : ℕ) where
  -- what the parameters own
  abbrev pub Asks : Fml
  Asks = owns (Flags ∷ usize ∷ usize ∷ []) (may, (lo, (hi, tt))) (flags may ∷ [], (vint w64 lo ∷ [], (vint w64 hi ∷ [], tt)))

  -- what is known of them
  pub record Known : Type 0 where
    pub flagged : Is Flags may (flags may ∷ [])
    pub lo_fits : lo < 2 ^ 64
    pub hi_fits : hi < 2 ^ 64

  -- what they own is made of what is known
  pub asks : {M : Type 1} {𝓤 : Ura M} (𝓛 : Logic 𝓤) → Known → ent 𝓤 (emp 𝓤) (sem 𝓛 Asks)
  asks 𝓛 k =
      qed 𝓛 [] ∵ nothing ! $ owned ! usize (Is usize) (uint_Makes 𝓛 w64) hi _ (refl, k.hi_fits) $ fjoin ! $
      owned ! usize (Is usize) (uint_Makes 𝓛 w64) lo _ (refl, k.lo_fits) $ fjoin ! $
      owned ! Flags (Is Flags) (Array-Makes 𝓛 Boolean (bool_Makes 𝓛) 36) may _ k.flagged $ fjoin ! $ done !
