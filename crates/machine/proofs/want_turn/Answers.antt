use mathlib.Core.Path.{refl}
use native.Mathlib.Omega.{arith}
use Rattle.machine.proofs.Steps.{word_below}
use Rattle.machine.proofs.want_turn.Goals as goal

pub word_len-requires : goal.word_len-requires
word_len-requires c = word_below _ _ _ 0 20 _ _ refl c.in_ok-k.ensures (omega arith) (omega arith)
