use native.Mathlib.Omega.{arith}
use mathlib.Core.Path.{◌≡◌, refl, sym, ap, subst, ◌∙◌}
use lib.ListN.{length}
use Rattle.model.proofs.Accepted.{entries_some, last_path}
use Rattle.entries.specs.declared.Draft.{Draft}
use Rattle.entries.proofs.Size.{size_passes}
use Rattle.reversal.specs.Building.{Makes}
use Rattle.reversal.specs.Service.{reversed_query}
use Rattle.reversal.proofs.Service.{reversible, checks_passed, query_refused, made_refused, made_accepted}
use Rattle.std.proofs.lemmas.Result.{err_from_is_err_and}
use Rattle.reversal.proofs.reverse.Goals as goal

pub returns-in_err-check_query : goal.returns-in_err-check_query
returns-in_err-check_query c =
    let p = err_from_is_err_and c.from_residual.result c.from_residual.ensures.1 in
    rw (p.1, p.2) (query_refused _ _ _ _ c.in_err-check_query.ensures)

pub reverse_into-requires : goal.reverse_into-requires
reverse_into-requires c =
    let w = checks_passed _ _ c.args.out.now c.in_ok-check_query.ensures in
    (reversible _ _ _ w, (entries_some _ _ _ w, last_path _ _ _ w), c.new-b.ensures)

pub returns-in_err-check_size : goal.returns-in_err-check_size
returns-in_err-check_size c =
    let p = err_from_is_err_and c.from_residual-in_err-check_size.result c.from_residual-in_err-check_size.ensures.1 in
    let w = subst (λ (d : Draft). Makes (reversed_query c.args.query.now) d.entries c.reverse_into.new.b.table) (sym c.draft-entries.ensures) c.reverse_into.ensures in
    rw (p.1, p.2) (made_refused _ _ _ c.in_ok-check_query.ensures _ _ w _ c.in_err-check_size.ensures)

pub copy-requires : goal.copy-requires
copy-requires c =
    let w = size_passes c.draft-entries.result.entries _ _ c.in_ok-check_size.ensures refl in
    let l : length c.table.result.now ≡ 256 = ap length c.table.ensures ∙ c.reverse_into.new.b.sound.room in
    (omega (arith, w.0), omega (arith, w.1))

pub returns : goal.returns
returns c =
    let w = subst (λ (d : Draft). Makes (reversed_query c.args.query.now) d.entries c.reverse_into.new.b.table) (sym c.draft-entries.ensures) c.reverse_into.ensures in
    made_accepted _ _ _ c.in_ok-check_query.ensures _ _ w _ c.in_ok-check_size.ensures (rw (← c.table.ensures) c.copy.ensures)
