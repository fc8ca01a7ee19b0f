use mathlib.Core.Path.{refl}
use Rattle.std.proofs.lemmas.Result.{err_from_is_err_and}
use Rattle.packing.proofs.Verdicts.{unpack_ready, unpack_over, buffer_left}
use Rattle.packing.proofs.unpack.Goals as goal

pub returns-in_err-check_unpack : goal.returns-in_err-check_unpack
returns-in_err-check_unpack c =
    let p = err_from_is_err_and c.from_residual.result c.from_residual.ensures.1 in rw (p.1, p.2) (buffer_left _ _ _ _ c.in_err-check_unpack.ensures)

pub unpack_into-requires : goal.unpack_into-requires
unpack_into-requires c = unpack_ready _ _ _ _ c.in_ok-check_unpack.ensures refl

pub returns : goal.returns
returns c = (c.in_ok-check_unpack.ensures, unpack_over _ _ _ _ _ _ c.unpack_into.ensures c.in_ok-check_unpack.ensures refl)
