use Rattle.std.proofs.Common.{arith, rules}
use Rattle.model.specs.Checks.{bad_node}
use Rattle.model.proofs.Searches.{found_at, found_none}
use Rattle.checks.proofs.check_listed.Goals as goal

pub overflow_cast-result : goal.overflow_cast-result
overflow_cast-result c = omega (arith, (c.in-Some.ensures (bad_node c.args.tree.now c.args.nodes.now) (λ x b l p. search rules)).0)

pub returns-in-Some : goal.returns-in-Some
returns-in-Some c = found_at 17 _ (bad_node c.args.tree.now c.args.nodes.now) _ (c.in-Some.ensures (bad_node c.args.tree.now c.args.nodes.now) (λ x b l p. search rules))

pub returns-in-None : goal.returns-in-None
returns-in-None c = found_none 17 _ (bad_node c.args.tree.now c.args.nodes.now) (c.in-None.ensures (bad_node c.args.tree.now c.args.nodes.now) (λ x b l p. search rules))
