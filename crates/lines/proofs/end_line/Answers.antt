-- The word, and the number behind it.
use Rattle.lines.proofs.Rows.{end_fits, wrote_end}
use Rattle.lines.proofs.end_line.Goals as goal

pub put_field-requires : goal.put_field-requires
put_field-requires c = end_fits _ _ _ _ _ c.ranges.n.fits c.requires c.put_bytes-word.ensures

pub returns : goal.returns
returns c = wrote_end _ _ _ _ _ c.ranges.n.fits c.requires c.put_bytes-word.ensures _ _ c.put_field.ensures
