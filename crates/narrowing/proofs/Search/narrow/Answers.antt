use borrow.Author.Tests.{eqb-true}
use mathlib.Core.Path.{sym, ◌∙◌}
use Rattle.narrowing.proofs.Turns.{core_of_start, left_start}
use Rattle.narrowing.proofs.Cores.{searched_formed}
use Rattle.narrowing.proofs.Search.narrow.Goals as goal

pub reaches-requires : goal.reaches-requires
reaches-requires c = (searched_formed c.requires.0, (c.requires.0.few, c.requires.1))

pub nothing_left-requires : goal.nothing_left-requires
nothing_left-requires c = (left_start _ c.full-all.ensures c.requires.0, eqb-true _ _ (sym c.is_fixed-decided.ensures ∙ c.if-decided.true))

pub innermost-requires : goal.innermost-requires
innermost-requires c = (c.requires.0, (c.reaches.ensures, core_of_start _ c.full-all.ensures c.requires.0))
