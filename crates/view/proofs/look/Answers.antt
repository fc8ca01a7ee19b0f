use Rattle.view.proofs.Filling.{look_refused, look_accepted, look_done}
use Rattle.std.proofs.lemmas.Result.{err_from_is_err_and}
use native.Mathlib.Omega.{arith}
use borrow.Author.Rules.{rules}
use Rattle.view.proofs.look.Goals as goal

pub returns-in_err-check : goal.returns-in_err-check
returns-in_err-check c = let p = err_from_is_err_and c.from_residual.result c.from_residual.ensures.1 in rw (p.1, p.2) (look_refused _ _ _ _ c.in_err-check.ensures)

pub fill-nodes-requires : goal.fill-nodes-requires
fill-nodes-requires c = (look_accepted _ _ c.in_ok-check.ensures, search rules)

pub overflow_mul-result : goal.overflow_mul-result
overflow_mul-result c = omega (arith, c.fill-nodes.ensures.few)

pub returns : goal.returns
returns c = look_done _ _ c.in_ok-check.ensures _ _ c.fill-nodes.ensures
