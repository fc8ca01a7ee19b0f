use Rattle.answers.specs.Search.{row_at, answers_by}
use Rattle.model.proofs.Answers.{answers_wide, answers_member}
use Rattle.answers.proofs.Writing.{going_start, going_in, going_turn, page_full, page_out}
use Rattle.answers.proofs.Plan.write_page.Goals as goal

pub loop-at-init : goal.loop-at-init
loop-at-init c = let s = c.args.self.now.search in going_start s.k (answers_by s) c.args.cursor c.args.rows.now c.first_answer-at.result c.first_answer-at.ensures (answers_wide s.tree.now s.query.now s.k)

pub returns-then-count-room : goal.returns-then-count-room
returns-then-count-room c = page_full c.loop-at.invariant c.in-Some.row c.in-Some.is c.if-count-room.true

pub answer_after-at-requires : goal.answer_after-at-requires
answer_after-at-requires c =
    let s = c.args.self.now.search in
    (c.requires.0, ((answers_member s.tree.now s.query.now s.k (row_at s.k c.in-Some.row)).0 (going_in c.loop-at.invariant c.in-Some.row c.in-Some.is)).1)

pub loop-at-preserved : goal.loop-at-preserved
loop-at-preserved c = going_turn c.loop-at.invariant c.in-Some.row c.in-Some.is c.if-count-room.false _ c.write_row.ensures _ c.cursor_at-last.ensures _ c.answer_after-at.ensures

pub returns : goal.returns
returns c = page_out c.loop-at.invariant c.in_default.is
