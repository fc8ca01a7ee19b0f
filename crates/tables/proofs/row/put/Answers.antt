use native.Mathlib.Omega.{arith}
use Rattle.tables.proofs.Rows.{put_row}
use Rattle.tables.proofs.row.put.Goals as goal

pub returns : goal.returns
returns c = put_row _ _ _ _ _ c.requires.0 c.requires.1 c.copy_from_slice.ensures.after (omega arith)
