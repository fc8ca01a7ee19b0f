use Rattle.std.proofs.Common.{refl}
use Rattle.output.specs.Piece.{end_piece}
use Rattle.output.proofs.Page.{piece_of}
use Rattle.output.proofs.end_piece.Goals as goal

pub returns : goal.returns
returns c = piece_of (end_piece _) _ _ _ _ _ c.end_line-n.ensures c.reply_at.ensures refl
