-- The loop keeps that the first i bytes are alike.
use Prim.Native.Nat.{◌+◌}
use mathlib.Core.Path.{◌≡◌}
use Rattle.words.specs.Words.{common}
use Rattle.words.proofs.Scanning.{rest}
use Rattle.words.proofs.alike.Given as goal

abbrev pub invariant-loop-i : goal.invariant-loop-i
invariant-loop-i l = common l.word l.text ≡ l.i + rest l.word l.text l.i
