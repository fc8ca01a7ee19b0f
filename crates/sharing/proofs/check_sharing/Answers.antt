use Rattle.std.proofs.Common.{arith, rules}
use Rattle.model.specs.Sharing.{breaks, sharing_checks}
use Rattle.model.proofs.Searches.{found_at, found_none}
use Rattle.sharing.proofs.check_sharing.Goals as goal

pub overflow_cast-result : goal.overflow_cast-result
overflow_cast-result c = omega (arith, (c.in-Some.ensures (breaks c.args.query.now) (λ x b l p. search rules)).0)

pub returns-in-Some : goal.returns-in-Some
unfolding sharing_checks
returns-in-Some c = found_at 29 _ (breaks c.args.query.now) _ (c.in-Some.ensures (breaks c.args.query.now) (λ x b l p. search rules))

pub returns-in-None : goal.returns-in-None
unfolding sharing_checks
returns-in-None c = found_none 29 _ (breaks c.args.query.now) (c.in-None.ensures (breaks c.args.query.now) (λ x b l p. search rules))
