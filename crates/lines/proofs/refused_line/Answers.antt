-- The word, and the two numbers behind it.
use Rattle.lines.proofs.Rows.{refused_fits, place_fits, wrote_refused}
use Rattle.lines.proofs.refused_line.Goals as goal

pub put_field-next-requires : goal.put_field-next-requires
put_field-next-requires c = refused_fits _ _ _ _ _ _ c.wide-number.ensures.1 c.wide-place.ensures.1 c.requires c.put_bytes-word.ensures

pub put_field-requires : goal.put_field-requires
put_field-requires c = place_fits _ _ _ _ _ _ c.wide-number.ensures.1 c.wide-place.ensures.1 c.requires c.put_bytes-word.ensures _ _ c.put_field-next.ensures

pub returns : goal.returns
returns c = wrote_refused _ _ _ _ _ _ c.wide-number.ensures.1 c.wide-place.ensures.1 c.requires c.put_bytes-word.ensures _ _ c.put_field-next.ensures _ _ _ _ c.wide-number.ensures.0 c.wide-place.ensures.0 c.put_field.ensures
