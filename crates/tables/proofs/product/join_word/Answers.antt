use native.Mathlib.Omega.{arith}
use lib.Count.{trailing_le}
use borrow.Author.Rules.{rules}
use Rattle.tables.proofs.Compositions.{pending_start, pending_next, pending_past, pending_done, pending_less}
use Rattle.tables.proofs.Rows.{row_length}
use Rattle.tables.proofs.product.join_word.Goals as goal

pub loop-rest-init : goal.loop-rest-init
loop-rest-init c = pending_start _ _ _ _ _ c.requires.0 c.ranges.w.fits

pub overflow_add-z : goal.overflow_add-z
overflow_add-z c = omega (arith, trailing_le 64 c.loop-rest.rest)

pub returns-then-n-z : goal.returns-then-n-z
returns-then-n-z c = search (pending_past, rules)

pub join-next-requires : goal.join-next-requires
join-next-requires c = (row_length _ _ c.loop-rest.invariant.form, omega arith)

pub loop-rest-smaller : goal.loop-rest-smaller
loop-rest-smaller c = pending_less _ _ _ _ _ _ _ c.loop-rest.invariant c.loop-rest-test.true

pub loop-rest-preserved : goal.loop-rest-preserved
loop-rest-preserved c = search (pending_next, rules)

pub returns : goal.returns
returns c = search (pending_done, rules)
