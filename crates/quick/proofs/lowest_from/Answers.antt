use borrow.Author.Tests.{eqb-true}
use Rattle.answers.proofs.Opened.{opened_searchable}
use Rattle.quick.proofs.Opened.{lowest_opened, lowest_last}
use Rattle.quick.proofs.lowest_from.Goals as goal

pub returns-then-last : goal.returns-then-last
returns-then-last c = let w = c.lowest_passing.ensures in (w.0, (lowest_last c.requires.0 c.args.i c.args.row (eqb-true _ _ c.if-last.true-raw) _ _ _ w.1.0, w.1.1))

pub lowest_passing-requires-2 : goal.lowest_passing-requires-2
lowest_passing-requires-2 c = (opened_searchable c.requires.0.listed _ _ c.open-table.ensures, c.requires.1)

pub returns : goal.returns
returns c = let w = c.lowest_passing-2.ensures in (w.0, (lowest_opened c.requires.0 c.args.i _ c.args.row c.open-table.ensures _ _ _ w.1.0, w.1.1))
