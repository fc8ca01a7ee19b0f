use Rattle.images.proofs.Tables.{put_back}
use Rattle.images.proofs.rows.put_row.Goals as goal

pub returns : goal.returns
returns c = put_back c.args.at _ c.args.table.now _ _ c.put.ensures
