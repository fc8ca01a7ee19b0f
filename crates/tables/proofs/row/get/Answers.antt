use Prim.Native.Nat.{◌+◌, ◌*◌}
use native.Mathlib.Omega.{arith}
use mathlib.Core.Path.{refl}
use Rattle.tables.proofs.Rows.{four_words, get_word}
use Rattle.tables.proofs.row.get.Goals as goal

pub returns : goal.returns
returns c = let a = c.args in let k = c.shared_slice_known-4-1.given in four_words _ _ _ _ _ (get_word _ a.x 0 (4 * a.x) (omega arith) (k (4 * a.x)).fits) (get_word _ a.x 1 (4 * a.x + 1) refl (k (4 * a.x + 1)).fits) (get_word _ a.x 2 (4 * a.x + 2) refl (k (4 * a.x + 2)).fits) (get_word _ a.x 3 (4 * a.x + 3) refl (k (4 * a.x + 3)).fits)
