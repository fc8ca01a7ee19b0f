use Rattle.answers.proofs.Odometer.{counting_start, counting_again, counting_found}
use native.Mathlib.Omega.{arith}
use Rattle.answers.proofs.rows.beyond.Goals as goal

pub loop-j-init : goal.loop-j-init
loop-j-init c = counting_start c.args.n c.args.k c.args.i c.args.row c.requires.1 (omega arith)

pub returns-then-wide-n : goal.returns-then-wide-n
returns-then-wide-n c = counting_found c.args.n c.args.k c.args.i c.args.row c.requires.1 (omega arith) _ _ _ c.loop-j.invariant c.loop-j-test.true c.wide.ensures.0 c.if-wide-n.true

pub loop-j-preserved : goal.loop-j-preserved
loop-j-preserved c = counting_again c.args.n c.args.k c.args.i c.args.row c.requires.1 (omega arith) _ _ _ c.loop-j.invariant c.loop-j-test.true c.wide.ensures.0 c.if-wide-n.false
