use Rattle.narrowing.proofs.Calls.{holds_none, suits_row, holds_count, holds_cut}
use native.Mathlib.Omega.{arith}
use Rattle.narrowing.proofs.Search.holds.Goals as goal

pub returns-in_default : goal.returns-in_default
returns-in_default c = holds_none c.requires.0 c.args.left.now c.requires.1.0 c.args.row (omega arith) c.requires.1.1 c.in_default.is _ c.meet.ensures

pub image-ends-requires : goal.image-ends-requires
image-ends-requires c = suits_row c.requires.0 c.args.left.now c.requires.1.0 c.args.row (omega arith) c.requires.1.1 c.in-Some.e c.in-Some.is

pub returns-then-not-left : goal.returns-then-not-left
returns-then-not-left c = holds_count c.requires.0 c.args.left.now c.requires.1.0 c.args.row (omega arith) c.requires.1.1 c.in-Some.e c.in-Some.is _ c.image-ends.ensures.0 _ c.image-ends.ensures.1 c.if-not-left.true

pub returns : goal.returns
returns c = holds_cut c.requires.0 c.args.left.now c.requires.1.0 c.args.row (omega arith) c.requires.1.1 c.in-Some.e c.in-Some.is _ c.image-ends.ensures.0 _ c.meet-2.ensures
