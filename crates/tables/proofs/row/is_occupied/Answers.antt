use Prim.Native.Nat.{◌+◌, ◌*◌}
use Rattle.tables.proofs.Rows.{occupied}
use Rattle.tables.proofs.row.is_occupied.Goals as goal

pub returns : goal.returns
returns c = let a = c.args in let k = c.shared_slice_known-4-1.given in occupied _ a.x (k (4 * a.x)).fits (k (4 * a.x + 1)).fits (k (4 * a.x + 2)).fits (k (4 * a.x + 3)).fits
