use borrow.Author.Rules.{rules}
use native.Mathlib.Omega.{arith}
use Rattle.lines.proofs.Decimal.{digit_fits, rest_fits, digit_fits_last, wrote_digit, wrote_last}
use Rattle.lines.proofs.+put_decimal.Goals as goal

pub put_byte-requires : goal.put_byte-requires
put_byte-requires t c = search (digit_fits, rules)

pub returns-then-n-lt10 : goal.returns-then-n-lt10
returns-then-n-lt10 t c = search (wrote_digit, rules)

pub put_decimal-next-requires : goal.put_decimal-next-requires
put_decimal-next-requires t c = (omega arith, search (rest_fits, rules))

pub put_byte-requires-2 : goal.put_byte-requires-2
put_byte-requires-2 t c = search (digit_fits_last, rules)

pub returns : goal.returns
returns t c = search (wrote_last, rules)
