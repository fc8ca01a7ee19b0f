use Rattle.std.proofs.lemmas.Result.{err_from_is_err_and}
use mathlib.Core.Path.{sym}
use Rattle.reader.proofs.Verdicts.{names_refused, length_refused, length_passed}
use Rattle.reader.proofs.read.Goals as goal

pub returns-in_err-check_tables : goal.returns-in_err-check_tables
returns-in_err-check_tables c =
    let p = err_from_is_err_and c.from_residual.result c.from_residual.ensures.1 in
    rw (p.1, p.2) (names_refused _ _ _ _ _ c.in_err-check_tables.ensures)

pub returns-then-is_bad_length : goal.returns-then-is_bad_length
returns-then-is_bad_length c = length_refused _ _ _ _ c.in_ok-check_tables.ensures (sym c.if-is_bad_length.ensures)

pub returns : goal.returns
returns c = length_passed _ _ _ _ c.in_ok-check_tables.ensures (sym c.if-is_bad_length.ensures) _ _ c.read_table.ensures
