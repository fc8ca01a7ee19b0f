use Rattle.output.proofs.Page.{page_refused, rows_fit, page_rows}
use Rattle.output.proofs.page_piece.Goals as goal

pub row_lines-n-requires : goal.row_lines-n-requires
row_lines-n-requires c = rows_fit _ _ _ c.args.at _ _ _ c.requires.1.1 _ c.in-Ok.ensures c.page_either.auto.rows

pub returns-in-Ok : goal.returns-in-Ok
returns-in-Ok c = page_rows _ _ _ _ _ _ _ c.requires.1.1 _ c.in-Ok.ensures _ _ _ _ _ c.row_lines-n.ensures c.reply_at.ensures c.after_page.ensures

pub returns-in-Err : goal.returns-in-Err
returns-in-Err c = page_refused _ _ _ _ _ _ _ c.requires.1.1 _ c.in-Err.ensures _ _ _ _ c.from.ensures c.refused_piece.ensures
