-- The part of the buffer that is written over.
use mathlib.Core.Path.{refl}
use native.Mathlib.Omega.{arith}
use Rattle.lines.proofs.Writing.{wrote_part}
use Rattle.lines.proofs.put_bytes.Goals as goal

pub returns : goal.returns
returns c = record { moved = refl; buffer = wrote_part _ _ _ _ _ (omega arith) c.copy_from_slice.ensures.after }
