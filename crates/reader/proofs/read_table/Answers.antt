use native.Mathlib.Omega.{arith}
use mathlib.Core.Path.{◌≡◌, ap, ◌∙◌}
use lib.ListN.{length}
use Rattle.std.proofs.lemmas.Result.{err_from_is_err_and}
use Rattle.entries.specs.declared.Draft.{Draft}
use Rattle.reader.proofs.Verdicts.{reading_refused, size_refused, both_fit, columns_fit, table_accepted}
use Rattle.reader.proofs.read_table.Goals as goal

pub returns-in_err-read_text : goal.returns-in_err-read_text
returns-in_err-read_text c =
    let p = err_from_is_err_and c.from_residual.result c.from_residual.ensures.1 in
    rw (p.1, p.2) (reading_refused _ _ _ _ _ c.in_err-read_text.ensures.judged)

pub returns-in_err-check_size : goal.returns-in_err-check_size
returns-in_err-check_size c =
    let p = err_from_is_err_and c.from_residual-in_err-check_size.result c.from_residual-in_err-check_size.ensures.1 in
    let e = rw c.draft-d.ensures at c.in_err-check_size.ensures in
    rw (p.1, p.2) (size_refused _ _ _ _ _ _ c.in_ok-read_text.ensures _ e)

pub copy-requires : goal.copy-requires
copy-requires c =
    let e = rw c.draft-d.ensures at c.in_ok-check_size.ensures in
    let w = both_fit _ _ _ _ _ _ c.in_ok-read_text.ensures e in
    let d = ap (λ (d : Draft). d.entries) c.draft-d.ensures in
    let l : length c.table.result.now ≡ 256 = ap length c.table.ensures ∙ c.read_text.new.b.sound.room in
    (omega (arith, w.0, d), omega (arith, w.1, d))

pub overflow_cast-result : goal.overflow_cast-result
overflow_cast-result c =
    let e = rw c.draft-d.ensures at c.in_ok-check_size.ensures in
    let w = columns_fit _ _ _ _ _ _ c.in_ok-read_text.ensures e in
    let d = ap (λ (d : Draft). d.columns) c.draft-d.ensures in
    omega (arith, w, d)

pub returns : goal.returns
returns c =
    let e = rw c.draft-d.ensures at c.in_ok-check_size.ensures in
    rw c.draft-d.ensures (table_accepted _ _ _ _ _ _ c.in_ok-read_text.ensures e _ (rw (← c.table.ensures, ← c.draft-d.ensures) c.copy.ensures))
