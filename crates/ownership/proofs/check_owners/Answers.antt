use Rattle.std.proofs.Common.{arith, rules}
use Rattle.model.proofs.Searches.{found_at, found_none}
use Rattle.ownership.specs.Nodes.{node_fails}
use Rattle.ownership.proofs.check_owners.Goals as goal

pub overflow_cast-result : goal.overflow_cast-result
overflow_cast-result c = omega (arith, (c.in-Some.ensures (node_fails 30 c.args.tree.now) (λ x b l p. search rules)).0)

pub returns-in-Some : goal.returns-in-Some
returns-in-Some c = found_at 30 _ (node_fails 30 c.args.tree.now) _ (c.in-Some.ensures (node_fails 30 c.args.tree.now) (λ x b l p. search rules))

pub returns-in-None : goal.returns-in-None
returns-in-None c = found_none 30 _ (node_fails 30 c.args.tree.now) (c.in-None.ensures (node_fails 30 c.args.tree.now) (λ x b l p. search rules))
