use Rattle.std.proofs.Common.{arith, rules}
use Rattle.model.specs.Checks.{bad_entry}
use Rattle.model.proofs.Searches.{found_at, found_none}
use Rattle.query.proofs.check_operands.Goals as goal

pub overflow_cast-result : goal.overflow_cast-result
unfolding bad_entry
overflow_cast-result c = omega (arith, (c.in-Some.ensures (bad_entry c.args.query.now 0 12) (λ x b l p. search rules)).0)

pub returns-in-Some : goal.returns-in-Some
unfolding bad_entry
returns-in-Some c = found_at 12 _ (bad_entry c.args.query.now 0 12) _ (c.in-Some.ensures (bad_entry c.args.query.now 0 12) (λ x b l p. search rules))

pub returns-in-None : goal.returns-in-None
unfolding bad_entry
returns-in-None c = found_none 12 _ (bad_entry c.args.query.now 0 12) (c.in-None.ensures (bad_entry c.args.query.now 0 12) (λ x b l p. search rules))
