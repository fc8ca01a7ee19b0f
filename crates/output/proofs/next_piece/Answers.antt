use Rattle.output.proofs.Page.{short_piece, listed_piece, rows_piece_lem}
use Rattle.output.proofs.next_piece.Goals as goal

pub returns-then-short : goal.returns-then-short
returns-then-short c = short_piece _ _ _ _ c.reply_at.ensures c.if-short.true-raw

pub returns-then-at : goal.returns-then-at
returns-then-at c = listed_piece _ _ _ _ _ c.if-short.false-raw c.if-at.true c.end_piece.ensures

pub returns : goal.returns
returns c = rows_piece_lem _ c.args.out.now _ _ _ c.if-short.false-raw c.if-at.false c.list_piece.ensures
