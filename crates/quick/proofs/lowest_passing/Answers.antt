use native.Mathlib.Omega.{arith}
use Rattle.quick.proofs.Search.{trying_start, trying_on, trying_hit, trying_end}
use Rattle.quick.proofs.lowest_passing.Goals as goal

pub loop-v-init : goal.loop-v-init
loop-v-init c = (trying_start _ _ _ c.requires.1.1.1.0, omega arith)

pub overflow_add-evaluations : goal.overflow_add-evaluations
overflow_add-evaluations c = record { fits = omega (arith, c.loop-v.invariant, c.requires.0.linked.tree.sound.at_most) }

pub passes_with-requires : goal.passes_with-requires
passes_with-requires c = (c.requires.0, (c.requires.1.0, (c.requires.1.1.0, c.loop-v-test.true)))

pub returns-then-passes_with : goal.returns-then-passes_with
returns-then-passes_with c =
    let l = c.loop-v in
    (c.loop-v-test.true, (trying_hit _ _ _ _ _ l.invariant.0 c.passes_with.ensures c.if-passes_with.true, (omega (arith, l.invariant.1, c.loop-v-test.true), (λ h. omega (arith, l.invariant.1), λ h. absurd (omega (arith, c.loop-v-test.true))))))

pub loop-v-preserved : goal.loop-v-preserved
loop-v-preserved c = let l = c.loop-v in (trying_on _ _ _ _ _ l.invariant.0 c.loop-v-test.true c.passes_with.ensures c.if-passes_with.false, omega (arith, l.invariant.1))

pub returns : goal.returns
returns c = let l = c.loop-v in (tt, (trying_end _ _ _ _ l.invariant.0 (omega arith), (omega (arith, l.invariant), (λ h. absurd (omega arith), λ h. omega (arith, l.invariant)))))
