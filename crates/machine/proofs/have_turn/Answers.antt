use mathlib.Core.Path.{refl}
use native.Mathlib.Omega.{arith}
use Rattle.machine.proofs.Steps.{word_below}
use Rattle.machine.proofs.have_turn.Goals as goal

pub have_move-requires : goal.have_move-requires
have_move-requires c = word_below _ _ _ 20 36 _ _ refl c.in_ok-k.ensures (omega arith) (omega arith)

pub word_len-requires : goal.word_len-requires
word_len-requires c = word_below _ _ _ 20 36 _ _ refl c.in_ok-k.ensures (omega arith) (omega arith)
