use Rattle.eval.proofs.Calls.{kind_at}
use mathlib.Core.Path.{sym, ◌∙◌}
use native.Mathlib.Omega.{arith}
use Rattle.narrowing.proofs.Cores.{searched_formed}
use Rattle.narrowing.proofs.Descent.inwards.Goals as goal

pub kind_of-requires : goal.kind_of-requires
kind_of-requires c = let g = c.requires.left in omega (arith, kind_at c.entry_at-f.ensures.0, (searched_formed g.searchable).known c.args.e g.some)

pub composition-requires : goal.composition-requires
composition-requires c = (c.requires, sym (kind_at c.entry_at-f.ensures.0) ∙ sym c.in-Compose.ensures)

pub filter-requires : goal.filter-requires
filter-requires c = (c.requires, sym (kind_at c.entry_at-f.ensures.0) ∙ sym c.in-Filter.ensures)

pub root-requires : goal.root-requires
root-requires c = (c.requires, sym (kind_at c.entry_at-f.ensures.0) ∙ sym c.in-Root.ensures)
