use native.Mathlib.Omega.{arith}
use Rattle.quick.specs.Search.{passes}
use Rattle.quick.proofs.Search.{going_below}
use borrow.Author.Rules.{rules}
use Rattle.quick.proofs.passes_with.Goals as goal

pub satisfies-requires : goal.satisfies-requires
satisfies-requires c = (c.requires.0, going_below c.requires.0 c.args.row c.args.i c.args.v (omega arith) c.requires.1.1.0 c.requires.1.0 c.requires.1.1.1)

pub returns : goal.returns
unfolding passes
returns c = search rules
