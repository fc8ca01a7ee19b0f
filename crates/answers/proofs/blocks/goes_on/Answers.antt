use mathlib.Core.Path.{◌∙◌}
use Rattle.answers.proofs.Opened.{opened_searchable, opened_satisfied}
use Rattle.answers.proofs.blocks.goes_on.Goals as goal

pub satisfies-requires : goal.satisfies-requires
satisfies-requires c = (opened_searchable c.requires.0 _ _ c.open-table.ensures, c.requires.1)

pub returns : goal.returns
returns c = c.satisfies.ensures ∙ opened_satisfied c.requires.0 c.args.i _ c.open-table.ensures c.args.row
