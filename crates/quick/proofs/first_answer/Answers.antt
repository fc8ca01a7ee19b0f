use native.Mathlib.Omega.{arith}
use Rattle.quick.proofs.Search.{zero_nodes, some_begins}
use Rattle.quick.proofs.Seeking.{first_begun, first_filled, first_none}
use Rattle.quick.proofs.first_answer.Goals as goal

pub answer_after-requires : goal.answer_after-requires
answer_after-requires c = (c.requires.0, c.requires.1 c.if-begun.true-raw)

pub returns-then-begun : goal.returns-then-begun
returns-then-begun c = first_begun c.requires.0 c.args.cursor c.answer_after.result c.answer_after.ensures c.if-begun.true-raw

pub fill-requires : goal.fill-requires
fill-requires c = (c.requires.0, (zero_nodes c.requires.0, (omega arith, (some_begins c.requires.0 _ c.has_answer.ensures c.if-has_answer.true (zero_nodes c.requires.0), omega arith))))

pub returns-then-has_answer : goal.returns-then-has_answer
returns-then-has_answer c = first_filled c.requires.0 c.args.cursor c.if-begun.false-raw c.fill.result c.fill.ensures

pub returns : goal.returns
returns c = first_none c.requires.0 c.args.cursor c.if-begun.false-raw _ c.has_answer.ensures c.if-has_answer.false _ c.no_answer.ensures
