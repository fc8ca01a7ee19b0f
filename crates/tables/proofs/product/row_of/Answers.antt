use native.Mathlib.Omega.{arith}
use borrow.Author.Rules.{rules}
use Rattle.tables.proofs.Compositions.{reached_start, reached_next, reached_end}
use Rattle.tables.proofs.Rows.{row_is}
use Rattle.tables.proofs.product.row_of.Goals as goal

pub loop-j-init : goal.loop-j-init
loop-j-init c = reached_start _ _ _ _

pub join_word-next-requires : goal.join_word-next-requires
join_word-next-requires c = (row_is _ _ c.loop-j.invariant, (omega arith, (omega arith, omega arith)))

pub loop-j-preserved : goal.loop-j-preserved
loop-j-preserved c = reached_next _ _ _ _ _ _ _ c.loop-j.invariant c.join_word-next.ensures

pub returns : goal.returns
returns c = search (reached_end, rules)
