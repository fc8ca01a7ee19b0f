use Prim.Native.Nat.{◌+◌, ◌*◌}
use native.Mathlib.Omega.{arith}
use mathlib.Core.Path.{refl}
use Rattle.tables.proofs.Rows.{four_words, join_word}
use Rattle.tables.proofs.row.join.Goals as goal

pub returns : goal.returns
returns c = let a = c.args in four_words _ _ _ _ _ (join_word _ _ a.z 0 (4 * a.z) _ (omega arith) c.merge-a.ensures) (join_word _ _ a.z 1 (4 * a.z + 1) _ refl c.merge-b.ensures) (join_word _ _ a.z 2 (4 * a.z + 2) _ refl c.merge-c.ensures) (join_word _ _ a.z 3 (4 * a.z + 3) _ refl c.merge-d.ensures)
