use mathlib.Core.Path.{refl}
use Rattle.std.proofs.lemmas.Result.{err_from_is_err_and}
use Rattle.model.specs.Refusals.{reply, refused}
use Rattle.model.proofs.Refusals.{written_not, written_over, refused_some}
use Rattle.index.proofs.Numbers.{index_length}
use Rattle.index.proofs.Verdicts.{buffers_verdict, next_fits, tags_fit, reply_refused, reply_made, tags_over}
use Rattle.index.proofs.fill.Goals as goal

pub returns-in_err-check_buffers : goal.returns-in_err-check_buffers
returns-in_err-check_buffers c =
    let p = err_from_is_err_and c.from_residual.result c.from_residual.ensures.1 in
    let e = c.in_err-check_buffers.field-0.0 in
    let same = buffers_verdict _ _ _ _ _ c.in_err-check_buffers.ensures c.requires.1 in
    rw (p.1, p.2) (reply_refused _ _ _ _ _ refl same (refused_some e), written_not (refused e) _ _ _ same (refused_some e), written_not (refused e) _ _ _ same (refused_some e))

pub write-requires : goal.write-requires
write-requires c =
    (c.requires.0, (c.requires.1, (next_fits _ _ _ _ (reply 0 0) c.in_ok-check_buffers.ensures refl, tags_fit _ _ _ _ (reply 0 0) c.in_ok-check_buffers.ensures refl)))

pub returns : goal.returns
returns c =
    let same = buffers_verdict _ _ _ _ _ c.in_ok-check_buffers.ensures c.requires.1 in (
      reply_made _ (reply 0 0) _ _ _ _ refl c.requires.1 same refl,
      written_over (reply 0 0) _ _ _ _ _ c.write.ensures.0 same refl (index_length _),
      tags_over _ _ _ _ (reply 0 0) _ c.write.ensures.1 c.requires.1 same refl,
    )
