use Rattle.std.proofs.Common.{refl}
use Rattle.output.specs.Piece.{refused_piece}
use Rattle.output.proofs.Page.{piece_of}
use Rattle.output.proofs.refused_piece.Goals as goal

pub returns : goal.returns
returns c = piece_of (refused_piece _ _) _ _ _ _ _ c.refused_line-n.ensures refl refl
