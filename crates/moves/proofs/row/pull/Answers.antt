use native.Mathlib.Omega.{arith}
use borrow.Author.Tests.{ltb-true}
use borrow.Author.Rules.{rules}
use Rattle.moves.proofs.Rows.{row_kept, row_none}
use Rattle.moves.proofs.row.pull.Goals as goal

pub copy-requires : goal.copy-requires
copy-requires c = (omega arith, omega (arith, ltb-true))

pub returns-then-below : goal.returns-then-below
returns-then-below c = search (row_kept, rules)

pub returns : goal.returns
returns c = search (row_none, rules)
