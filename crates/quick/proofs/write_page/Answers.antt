use Rattle.quick.proofs.Writing.{written_start, written_below, written_fits, written_turn, written_full, written_out}
use Rattle.quick.proofs.write_page.Goals as goal

pub loop-at-init : goal.loop-at-init
loop-at-init c = written_start _ _ _ _ _ _ c.first_answer-first.ensures

pub returns-then-count-room : goal.returns-then-count-room
returns-then-count-room c = written_full c.loop-at.invariant c.in-Some.row c.in-Some.is c.if-count-room.true

pub answer_after-following-requires : goal.answer_after-following-requires
answer_after-following-requires c = (c.requires.0, written_below c.loop-at.invariant c.in-Some.row c.in-Some.is)

pub overflow_add-evaluations : goal.overflow_add-evaluations
overflow_add-evaluations c = record { fits = written_fits c.loop-at.invariant _ c.requires.0 _ c.answer_after-following.ensures.1.0 }

pub loop-at-preserved : goal.loop-at-preserved
loop-at-preserved c = written_turn c.loop-at.invariant c.in-Some.row c.in-Some.is c.if-count-room.false _ c.write_row.ensures _ c.cursor_at-last.ensures _ c.answer_after-following.ensures

pub returns : goal.returns
returns c = written_out c.loop-at.invariant c.in_default.is
