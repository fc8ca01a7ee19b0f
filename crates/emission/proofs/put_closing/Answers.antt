use lib.ListN.{length}
use Rattle.machine.specs.Machine.{stack_of}
use Rattle.emission.proofs.Writing.{closing_items_lem}
use Rattle.emission.proofs.put_closing.Goals as goal

pub returns : goal.returns
returns c =
    let a = c.args in
    let s = c.close_gaps-c in
    let w = s.ensures in
    closing_items_lem a.f (stack_of a.gaps.now (length a.gaps.now)) a.k s.result.pops c.innermost-inner.result s.result.path c.wants_test.result _ _ _ _
    c.put_last.ensures c.put_test.ensures c.wants_test.ensures c.innermost-inner.ensures w.3 w.0 w.1
