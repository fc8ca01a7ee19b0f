-- The number, and the byte behind it.
use Rattle.lines.proofs.Rows.{number_fits, byte_fits, wrote_field}
use Rattle.lines.proofs.put_field.Goals as goal

pub put_decimal-next-requires : goal.put_decimal-next-requires
put_decimal-next-requires c = number_fits _ c.args.byte _ c.args.out.now c.requires

pub put_byte-requires : goal.put_byte-requires
put_byte-requires c = byte_fits _ c.args.byte _ _ c.requires _ _ c.put_decimal-next.ensures

pub returns : goal.returns
returns c = wrote_field _ c.args.byte _ _ c.requires _ _ c.put_decimal-next.ensures _ _ c.put_byte.ensures
