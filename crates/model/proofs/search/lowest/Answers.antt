use Rattle.std.proofs.Common.{refl, sym, arith}
use Rattle.model.specs.Sets.{any}
use Rattle.model.proofs.Exists.{any_miss}
use Rattle.model.proofs.Refusals.{found, nowhere}
use Rattle.model.proofs.search.lowest.Goals as goal

pub loop-x-init : goal.loop-x-init
unfolding any
loop-x-init g c = λ f t. refl

pub returns-then-test : goal.returns-then-test
returns-then-test g c = λ f t.
    (c.loop-x-test.true, found c.args.n c.loop-x.x f c.test.result (c.loop-x.invariant f t) (t _ _ c.loop-x-test.true c.test.ensures) c.if-test.true c.loop-x-test.true)

pub loop-x-preserved : goal.loop-x-preserved
loop-x-preserved g c = λ f t.
    any_miss _ f c.test.result (c.loop-x.invariant f t) (t _ _ c.loop-x-test.true c.test.ensures) c.if-test.false

pub returns : goal.returns
returns g c = λ f t. sym (nowhere c.args.n c.loop-x.x f (c.loop-x.invariant f t) (omega arith) (omega arith))
