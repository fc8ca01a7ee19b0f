-- A list of calls of `next_piece` over one file, and what their pieces are when they are joined.
use Rattle.std.specs.Prelude.{◌≡◌, ℕ, ◌+◌, ◌<◌, ◌≤◌, true, false, not, List, [], ◌∷◌, ◌++◌, length, take, nat_lt}
use Rattle.model.specs.Sets.{bit}
use Rattle.output.specs.declared.Position.{Position}
use Rattle.output.specs.declared.Piece.{Piece}
use Rattle.output.specs.Output.{job_verdict, answers_in, output_of}
use Rattle.output.specs.Piece.{smallest, piece_outcome, PieceLeaves}

-- one call as it went: its buffer as it was lent, its piece, and its buffer as it returned
pub record Call : Type 0 where
  pub lent_buffer : List ℕ
  pub piece : Piece
  pub buffer : List ℕ

-- each call did what the contract of `next_piece` says, and went on where the call before it left the output; the first call at a
-- position
abbrev pub Chain : List ℕ → Position → List Call → Type 0
Chain file at [] = Unit
Chain file at (g ∷ gs) =
    PieceLeaves (piece_outcome file at (length g.lent_buffer)) g.lent_buffer g.piece g.buffer
    × Chain file g.piece.next gs

-- what each call was lent
abbrev pub lent_to : List Call → List (List ℕ)
lent_to [] = []
lent_to (g ∷ gs) = g.lent_buffer ∷ lent_to gs

-- the pieces, joined: the first bytes of each buffer, as many as the piece has, read as the call returned
abbrev pub joined : List Call → List ℕ
joined [] = []
joined (g ∷ gs) = take g.piece.count g.buffer ++ joined gs

-- how many calls had a buffer that was not too short
abbrev pub roomy : List Call → ℕ
roomy [] = 0
roomy (g ∷ gs) = bit (not (nat_lt (length g.lent_buffer) smallest)) + roomy gs

-- no call said that its piece is the last
abbrev pub Unfinished : List Call → Type 0
Unfinished [] = Unit
Unfinished (g ∷ gs) = (g.piece.last ≡ false) × Unfinished gs

-- what calls from the output's beginning on give, with buffers of any sizes, too short ones among them
pub record Printed (file : List ℕ) (gs : List Call) : Type 0 where
  -- while none has said that its piece is the last, the pieces are the front of the output, and some of it is to come
  pub front : Unfinished gs → (rest : List ℕ) × (0 < length rest) × (joined gs ++ rest ≡ output_of file)
  -- so it goes for at most one call more than there are answers, besides those with a buffer that is too short
  pub ends : Unfinished gs → roomy gs ≤ length (answers_in file) + 1
  -- once one says so, the pieces are the whole output, and the reply beside that one is the verdict on the file
  pub whole : (before : List Call) (g : Call) → gs ≡ before ++ (g ∷ []) → Unfinished before → g.piece.last ≡ true
      → (joined gs ≡ output_of file) × (g.piece.reply ≡ job_verdict file)

-- there are calls that are lent these buffers
pub record Pieces (file : List ℕ) (at : Position) (buffers : List (List ℕ)) : Type 0 where
  pub calls : List Call
  pub lent : lent_to calls ≡ buffers
  pub chain : Chain file at calls
