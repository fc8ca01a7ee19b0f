use borrow.Author.Tests.{eq-eqb, ne_eqb}
use Rattle.emission.proofs.Writing.{gap_lead, gap_joint}
use Rattle.emission.proofs.put_gap.Goals as goal

pub returns-then-k-eq8 : goal.returns-then-k-eq8
returns-then-k-eq8 c = gap_lead _ _ _ _ _ c.put_unary.ensures c.put_test.ensures (eq-eqb c.args.k 8 c.if-k-eq8.true)

pub returns-else-k-eq8 : goal.returns-else-k-eq8
returns-else-k-eq8 c = gap_joint _ _ _ _ _ _ c.put_binary.ensures c.put_test.ensures c.joint.ensures (ne_eqb c.args.k 8 c.if-k-eq8.false)
