-- Each way out is a line of the verdict.
use Rattle.names.proofs.Requests.{too_high, missing, refused_21, refused_22, named}
use Rattle.std.proofs.lemmas.Result.{err_from_is_err_and}
use native.Mathlib.Omega.{arith}
use Rattle.names.proofs.look_up.Goals as goal

pub returns-in_err-check_tables : goal.returns-in_err-check_tables
returns-in_err-check_tables c =
    let p = err_from_is_err_and c.from_residual.result c.from_residual.ensures.1 in
    rw (p.1, p.2) (refused_21 _ _ _ _ c.in_err-check_tables.ensures)

pub returns-then-beyond : goal.returns-then-beyond
returns-then-beyond c = refused_22 _ _ _ c.in_ok-check_tables.ensures (too_high _ _ _ (omega arith))

pub returns-in-Ok : goal.returns-in-Ok
returns-in-Ok c = named _ _ _ _ _ _ c.in_ok-check_tables.ensures c.find.ensures c.in-Ok.is c.from-number.ensures (omega arith)

pub returns-in-Err : goal.returns-in-Err
returns-in-Err c = refused_22 _ _ _ c.in_ok-check_tables.ensures (missing _ _ _ _ _ _ c.find.ensures c.in-Err.is c.from-number.ensures)
