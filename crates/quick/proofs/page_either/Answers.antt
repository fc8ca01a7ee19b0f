use Rattle.quick.proofs.Accepted.{either_plain, either_refused, either_quick}
use Rattle.quick.proofs.page_either.Goals as goal

pub returns-in-Ok : goal.returns-in-Ok
returns-in-Ok c = either_quick _ _ _ _ _ _ c.in-Ok.quick c.in-Ok.ensures

pub returns-then-breaks_rule : goal.returns-then-breaks_rule
returns-then-breaks_rule c = either_plain _ _ _ _ _ _ c.in-Err.refusal c.in-Err.ensures _ c.breaks_rule.ensures c.if-breaks_rule.true _ _ _ c.page_from-then-breaks_rule.ensures

pub returns-else-breaks_rule : goal.returns-else-breaks_rule
returns-else-breaks_rule c = either_refused _ _ _ _ _ _ c.in-Err.refusal c.in-Err.ensures _ c.breaks_rule.ensures c.if-breaks_rule.false
