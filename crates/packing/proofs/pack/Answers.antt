use mathlib.Core.Path.{refl}
use Rattle.std.proofs.lemmas.Result.{err_from_is_err_and}
use Rattle.packing.proofs.Verdicts.{pack_ready, pack_over, buffer_left}
use Rattle.packing.proofs.pack.Goals as goal

pub returns-in_err-check_pack : goal.returns-in_err-check_pack
returns-in_err-check_pack c =
    let p = err_from_is_err_and c.from_residual.result c.from_residual.ensures.1 in rw (p.1, p.2) (buffer_left _ _ _ _ c.in_err-check_pack.ensures)

pub pack_into-requires : goal.pack_into-requires
pack_into-requires c = pack_ready _ _ _ _ c.in_ok-check_pack.ensures refl

pub returns : goal.returns
returns c = (c.in_ok-check_pack.ensures, pack_over _ _ _ _ _ _ c.pack_into.ensures c.in_ok-check_pack.ensures refl)
