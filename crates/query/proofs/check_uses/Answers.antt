use Rattle.std.proofs.Common.{arith, rules}
use Rattle.model.specs.Checks.{misused}
use Rattle.model.proofs.Searches.{found_at, found_none}
use Rattle.query.proofs.check_uses.Goals as goal

pub overflow_cast-result : goal.overflow_cast-result
overflow_cast-result c = omega (arith, (c.in-Some.ensures (misused c.args.query.now) (λ x b l p. search rules)).0)

pub returns-in-Some : goal.returns-in-Some
returns-in-Some c = found_at 14 _ (misused c.args.query.now) _ (c.in-Some.ensures (misused c.args.query.now) (λ x b l p. search rules))

pub returns-in-None : goal.returns-in-None
returns-in-None c = found_none 14 _ (misused c.args.query.now) (c.in-None.ensures (misused c.args.query.now) (λ x b l p. search rules))
