use Rattle.std.proofs.Common.{arith, rules, refl, ap, ◌∙◌, ◌⊎◌}
use Rattle.output.proofs.Joined.{printing_first, printed_more, printed_all}
use Rattle.picklist.specs.Status.{status_of}
use Rattle.picklist.proofs.print.Goals as goal

-- the last piece's reply is the file's verdict
pub returns-then-piece : goal.returns-then-piece
returns-then-piece g c = ◌⊎◌.inl (c.status.ensures ∙ ap status_of (printed_all _ _ c.loop-out.invariant.printing c.loop-out.out _ _ c.next_piece-piece.ensures (omega (arith, c.loop-out.invariant.room)) c.if-piece.true))

pub loop-out-init : goal.loop-out-init
loop-out-init g c = record { printing = printing_first _ _ c.start-at.ensures; room = refl }

pub loop-out-preserved : goal.loop-out-preserved
loop-out-preserved g c = record {
  printing = (printed_more _ _ c.loop-out.invariant.printing c.loop-out.out _ _ c.next_piece-piece.ensures (omega (arith, c.loop-out.invariant.room)) c.if-piece.false).0;
  room = search rules;
}

pub loop-out-smaller : goal.loop-out-smaller
loop-out-smaller g c = (printed_more _ _ c.loop-out.invariant.printing c.loop-out.out _ _ c.next_piece-piece.ensures (omega (arith, c.loop-out.invariant.room)) c.if-piece.false).1
